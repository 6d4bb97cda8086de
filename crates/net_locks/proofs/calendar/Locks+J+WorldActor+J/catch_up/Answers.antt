use Rattle.std.proofs.Common.{◌≤◌, length, take, refl, ap, sym, subst, ◌∙◌, arith}
use Rattle.journal.specs.declared.tokens.Sight.{Sight}
use Rattle.journal.specs.Rule.{Lawful}
use Rattle.journal.specs.Tokens.{HoldsAll}
use Rattle.net_locks.specs.Works.{noted_net}
use Rattle.net_locks.specs.Knowing.{AreMixed, all_touched}
use Rattle.net_locks.proofs.Knowledge.{caught_up, known_as, known_now}
use Rattle.net_locks.proofs.Sighted.{holds_all, looked_same}
use Rattle.net_locks.proofs.Turning.{on_ok}
use Rattle.net_locks.proofs.calendar.Locks+J+WorldActor+J.catch_up.Goals as goal

pub view_all-requires-clause-numbers : goal.view_all-requires-clause-numbers
view_all-requires-clause-numbers g c =
    let w = g.J.Placing.world in
    let r = g.J.Naming.run.roster in
    let p = c.args.pass.now in
    let all = holds_all g.J.Placing.tasks w r p c.args.standings.now c.requires.all in
    subst (λ (q : Sight). HoldsAll r q) (sym (looked_same r p c.look-front.result c.look-front.new.pass all c.look-front.ensures)) all

pub view_all-requires-clause-room : goal.view_all-requires-clause-room
view_all-requires-clause-room g c =
    let room = on_ok (c.in-Some.count ≤ c.reserve.new.self.room) c.reserve.result (sym c.is_err.ensures.value ∙ c.if-is_err.false) c.reserve.ensures.ok in
    omega (arith, room, c.in-Some.ensures)

pub returns-then-not-is_told-clause-same : goal.returns-then-not-is_told-clause-same
returns-then-not-is_told-clause-same g c =
    looked_same g.J.Naming.run.roster c.args.pass.now c.look-front.result c.look-front.new.pass
    (holds_all g.J.Placing.tasks g.J.Placing.world g.J.Naming.run.roster c.args.pass.now c.args.standings.now c.requires.all) c.look-front.ensures

pub returns-in_default-clause-same : goal.returns-in_default-clause-same
returns-in_default-clause-same g c =
    looked_same g.J.Naming.run.roster c.args.pass.now c.look-front.result c.look-front.new.pass
    (holds_all g.J.Placing.tasks g.J.Placing.world g.J.Naming.run.roster c.args.pass.now c.args.standings.now c.requires.all) c.look-front.ensures

pub returns-then-is_err-clause-same : goal.returns-then-is_err-clause-same
returns-then-is_err-clause-same g c =
    looked_same g.J.Naming.run.roster c.args.pass.now c.look-front.result c.look-front.new.pass
    (holds_all g.J.Placing.tasks g.J.Placing.world g.J.Naming.run.roster c.args.pass.now c.args.standings.now c.requires.all) c.look-front.ensures

pub returns-then-is_err-clause-known : goal.returns-then-is_err-clause-known
returns-then-is_err-clause-known g c =
    known_as g.J.Placing.world c.args.pass.now.seen c.args.pass.now.seen c.args.calendar.now (record { dues = c.reserve.new.self; at = c.args.calendar.now.at }) refl refl
    c.reserve.ensures.list c.requires.known

pub returns-clause-same : goal.returns-clause-same
returns-clause-same g c =
    c.view_all.ensures.same
    ∙ looked_same g.J.Naming.run.roster c.args.pass.now c.look-front.result c.look-front.new.pass
    (holds_all g.J.Placing.tasks g.J.Placing.world g.J.Naming.run.roster c.args.pass.now c.args.standings.now c.requires.all) c.look-front.ensures

pub returns-clause-known : goal.returns-clause-known
returns-clause-known g c =
    let w = g.J.Placing.world in
    let r = g.J.Naming.run.roster in
    let p = c.args.pass.now in
    let ss = c.args.standings.now in
    let same = looked_same r p c.look-front.result c.look-front.new.pass (holds_all g.J.Placing.tasks w r p ss c.requires.all) c.look-front.ensures in
    let old = (noted_net w (take c.args.calendar.now.at p.seen)).actors in
    let dues = caught_up w r p.seen ss c.args.calendar.now.at c.same_actors_are_equal.ensures (λ s there. (c.requires.all.each s there).covers) c.requires.all.all
    (subst (λ (q : Sight). Lawful r q.seen) same c.look-front.ensures.lawful) (sym c.is_told.ensures ∙ c.if-not-is_told.false) (c.nets_of_works_grow.ensures.next w)
    (c.conversations_are_these.ensures.only w) c.requires.known.within c.view_all.new.dues.list
    (subst (λ (q : Sight). AreMixed w (noted_net w q.seen).actors old (all_touched ss) c.view_all.new.dues.list) same
    (c.view_all.ensures.dues old (c.reserve.ensures.list ∙ c.requires.known.dues_are))) in
    known_now w p.seen (record { dues = c.view_all.new.dues; at = c.look-front.result })
    (ap (λ (q : Sight). length q.seen) (sym same) ∙ c.look-front.ensures.front_is) dues

pub returns-clause-dues : goal.returns-clause-dues
returns-clause-dues g c _ =
    let w = g.J.Placing.world in
    let r = g.J.Naming.run.roster in
    let p = c.args.pass.now in
    let ss = c.args.standings.now in
    let same = looked_same r p c.look-front.result c.look-front.new.pass (holds_all g.J.Placing.tasks w r p ss c.requires.all) c.look-front.ensures in
    let old = (noted_net w (take c.args.calendar.now.at p.seen)).actors in
    caught_up w r p.seen ss c.args.calendar.now.at c.same_actors_are_equal.ensures (λ s there. (c.requires.all.each s there).covers) c.requires.all.all
    (subst (λ (q : Sight). Lawful r q.seen) same c.look-front.ensures.lawful) (sym c.is_told.ensures ∙ c.if-not-is_told.false) (c.nets_of_works_grow.ensures.next w)
    (c.conversations_are_these.ensures.only w) c.requires.known.within c.view_all.new.dues.list
    (subst (λ (q : Sight). AreMixed w (noted_net w q.seen).actors old (all_touched ss) c.view_all.new.dues.list) same
    (c.view_all.ensures.dues old (c.reserve.ensures.list ∙ c.requires.known.dues_are)))
