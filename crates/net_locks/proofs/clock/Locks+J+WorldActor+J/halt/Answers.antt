use Rattle.std.proofs.Common.{ap, sym, subst, ◌∙◌}
use Rattle.net_base.specs.Stamped.{moment_noted as moment_of}
use Rattle.journal.specs.declared.tokens.Sight.{Sight}
use Rattle.net_locks.specs.Moving.{Halts}
use Rattle.net_locks.specs.Standings.{AllStand}
use Rattle.net_locks.proofs.Halting.{guests_seen}
use Rattle.net_locks.proofs.Sighted.{holds_all, looked_same}
use Rattle.net_locks.proofs.clock.Locks+J+WorldActor+J.halt.Goals as goal

pub judge-requires-clause-moment : goal.judge-requires-clause-moment
judge-requires-clause-moment g c =
    let w = g.J.Placing.world in
    let r = g.J.Naming.run.roster in
    let same = looked_same r c.args.bearer.now.pass c.look.result c.look.new.pass (holds_all g.J.Placing.tasks w r c.args.bearer.now.pass c.args.standings.now c.requires.all) c.look.ensures in
    c.requires.moment ∙ ap (λ (q : Sight). moment_of q.seen) (sym same)

pub judge-requires-clause-all : goal.judge-requires-clause-all
judge-requires-clause-all g c =
    let w = g.J.Placing.world in
    let r = g.J.Naming.run.roster in
    let same = looked_same r c.args.bearer.now.pass c.look.result c.look.new.pass (holds_all g.J.Placing.tasks w r c.args.bearer.now.pass c.args.standings.now c.requires.all) c.look.ensures in
    subst (λ (q : Sight). AllStand g.J.Placing.tasks w r q c.args.standings.now) (sym same) c.requires.all

pub returns-clause-same : goal.returns-clause-same
returns-clause-same g c =
    let w = g.J.Placing.world in
    let r = g.J.Naming.run.roster in
    ap (λ (q : Sight). record { pass = q; caller = c.args.bearer.now.caller; now = c.args.bearer.now.now })
    (c.judge.ensures.same ∙ looked_same r c.args.bearer.now.pass c.look.result c.look.new.pass (holds_all g.J.Placing.tasks w r c.args.bearer.now.pass c.args.standings.now c.requires.all) c.look.ensures)

pub returns-clause-guests : goal.returns-clause-guests
returns-clause-guests g c =
    guests_seen g.J.Placing.tasks g.J.Placing.world g.J.Naming.run.roster c.args.bearer.now.pass c.look.new.pass c.args.standings.now c.look.result c.requires.all c.args.self.now.of.roster
    c.look.ensures

pub returns-clause-halts : goal.returns-clause-halts
returns-clause-halts g c =
    let w = g.J.Placing.world in
    let r = g.J.Naming.run.roster in
    let same = looked_same r c.args.bearer.now.pass c.look.result c.look.new.pass (holds_all g.J.Placing.tasks w r c.args.bearer.now.pass c.args.standings.now c.requires.all) c.look.ensures in
    subst (λ (q : Sight). Halts g.J.Placing.tasks w c.args.bearer.now.caller q c.judge.result) same c.judge.ensures.halts
