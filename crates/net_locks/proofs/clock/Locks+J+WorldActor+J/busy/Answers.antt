use Rattle.std.proofs.Common.{◌≡◌, ℕ, false, List, take, ap, sym, subst, ◌∙◌, arith}
use Rattle.journal.specs.declared.tokens.Sight.{Sight}
use Rattle.journal.specs.Tokens.{HoldsAll}
use Rattle.history_laws.specs.Could.{could, is_full}
use Rattle.net_locks.specs.Works.{noted_net}
use Rattle.net_locks.specs.Standings.{FindsBusy, StandsAt, standing_callers}
use Rattle.net_locks.proofs.Found.{callers_all, callers_more, finds_less, in_at}
use Rattle.net_locks.proofs.Sighted.{full_so}
use Rattle.net_locks.proofs.clock.Locks+J+WorldActor+J.busy.Goals as goal

pub could-requires-clause-numbers : goal.could-requires-clause-numbers
could-requires-clause-numbers g c = subst (λ (q : Sight). HoldsAll g.J.Naming.run.roster q) (sym c.loop-standing.invariant.0) c.requires.numbers

pub could-requires-clause-stands : goal.could-requires-clause-stands
could-requires-clause-stands g c =
    let s = c.standing-item.result in
    subst (λ (q : Sight). StandsAt g.J.Placing.tasks g.J.Placing.world g.J.Naming.run.roster q s) (sym c.loop-standing.invariant.0)
    (c.requires.all.each s (in_at c.args.standings.now c.loop-standing.standing-index s c.loop-standing-test.true c.standing-item.is))

pub loop-standing-preserved-then-not-could : goal.loop-standing-preserved-then-not-could
loop-standing-preserved-then-not-could g c =
    let w = g.J.Placing.world in
    let p = c.args.pass.now in
    let l = c.loop-standing in
    let s = c.standing-item.result in
    let ss = c.args.standings.now in
    let fails : could g.J.Placing.tasks w (noted_net w p.seen) s.caller ≡ false =
    ap (λ (q : Sight). could g.J.Placing.tasks w (noted_net w q.seen) s.caller) (sym l.invariant.0) ∙ (sym c.could.ensures.could ∙ c.if-not-could.true) in (
      c.could.ensures.same ∙ l.invariant.0,
      subst (λ (cs : List ℕ). FindsBusy (could g.J.Placing.tasks w (noted_net w p.seen)) (is_full (noted_net w p.seen)) cs l.busy)
          (sym (callers_more ss l.standing-index s c.loop-standing-test.true c.standing-item.is))
          (finds_less (could g.J.Placing.tasks w (noted_net w p.seen)) (is_full (noted_net w p.seen)) (standing_callers (take l.standing-index ss)) s.caller l.busy l.invariant.1 fails),
    )

pub loop-standing-preserved : goal.loop-standing-preserved
loop-standing-preserved g c =
    let w = g.J.Placing.world in
    let p = c.args.pass.now in
    let l = c.loop-standing in
    let s = c.standing-item.result in
    let ss = c.args.standings.now in
    let st = c.requires.all.each s (in_at ss l.standing-index s c.loop-standing-test.true c.standing-item.is) in
    let goes = ap (λ (q : Sight). could g.J.Placing.tasks w (noted_net w q.seen) s.caller) (sym l.invariant.0) ∙ (sym c.could.ensures.could ∙ c.if-not-could.false) in (
      c.could.ensures.same ∙ l.invariant.0,
      subst (λ (cs : List ℕ). FindsBusy (could g.J.Placing.tasks w (noted_net w p.seen)) (is_full (noted_net w p.seen)) cs c.with-busy.result)
          (sym (callers_more ss l.standing-index s c.loop-standing-test.true c.standing-item.is))
          (c.with-busy.ensures (could g.J.Placing.tasks w (noted_net w p.seen)) (is_full (noted_net w p.seen)) (standing_callers (take l.standing-index ss)) l.invariant.1 goes
          (full_so g.J.Placing.tasks w g.J.Naming.run.roster p s st (c.nets_of_works_grow.ensures.past w p.seen))),
    )

pub returns-clause-finds : goal.returns-clause-finds
returns-clause-finds g c =
    let w = g.J.Placing.world in
    let p = c.args.pass.now in
    let l = c.loop-standing in
    subst (λ (cs : List ℕ). FindsBusy (could g.J.Placing.tasks w (noted_net w p.seen)) (is_full (noted_net w p.seen)) cs l.busy)
    (callers_all c.args.standings.now l.standing-index (omega (arith, c.loop-standing-test.false))) l.invariant.1
