use Rattle.std.proofs.Common.{◌≡◌, ℕ, List, Option, ◌+◌, sym, subst, arith}
use Rattle.live_answers.specs.declared.current.Current.{Current}
use Rattle.live_run.specs.Currents.{AllNone}
use Rattle.live_run.proofs.SeatLists.{none_at_all, none_pushed}
use Rattle.live_run.proofs.currents.no_currents.Goals as goal

pub loop-init : goal.loop-init
loop-init c = subst (AllNone 0) (sym c.new-currents.ensures.items) none_at_all

pub loop-preserved : goal.loop-preserved
loop-preserved c = subst (AllNone (c.loop.counter + 1)) (sym c.in_ok-push.ensures.items) (none_pushed c.loop.counter c.loop.currents.items c.loop.invariant)

pub returns : goal.returns
returns c =
    let same : c.loop.counter ≡ c.args.count = omega (arith, c.loop-test.false, c.loop.auto.counter-end) in
    subst (λ (n : ℕ). AllNone n c.loop.currents.items) same c.loop.invariant
