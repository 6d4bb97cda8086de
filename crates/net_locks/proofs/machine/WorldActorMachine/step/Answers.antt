use Rattle.std.proofs.Common.{◌≡◌, ℕ, ◌<◌, ◌^◌, subst, sym, ◌∙◌}
use Rattle.net_base.specs.Actors.{Actor, opening_actor}
use Rattle.net_base.specs.Net.{played}
use Rattle.net_actors.specs.Kept.{kept_state}
use Rattle.net_actors.specs.Small.{IsSmallActor}
use Rattle.net_locks.specs.Named.{named}
use Rattle.net_locks.proofs.Works.{as_many, led_to, plays, ready_named}
use Rattle.net_locks.proofs.machine.WorldActorMachine.step.Goals as goal

-- few works led to the state
pub step-requires-clause-small : goal.step-requires-clause-small
step-requires-clause-small g c =
    let w = g.P.Placing.world in
    let kept = c.self.inside.actor in
    let r = c.requires.reached in
    let led : kept_state kept ≡ played w r.0 (opening_actor w.timers r.0) (plays r.1) = led_to w r.0 r.1 (named kept.name (kept_state kept)) (c.self.view_is ∙ r.3) in
    subst (λ (s : Actor). IsSmallActor s) (sym led) (c.few_works_are_small.ensures w r.0 (plays r.1) (subst (λ (n : ℕ). n < 2 ^ 30) (sym (as_many r.1)) r.2))

pub step-requires-clause-ready : goal.step-requires-clause-ready
step-requires-clause-ready g c =
    let w = g.P.Placing.world in
    let kept = c.self.inside.actor in
    let answers = ready_named w kept.name (kept_state kept) c.args.now c.args.work.now c.args.self.now c.self.view_is in
    (w, c.self.invariant, answers ∙ c.requires.ready)
