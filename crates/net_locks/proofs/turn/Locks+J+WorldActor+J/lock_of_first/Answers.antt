use Rattle.std.proofs.Common.{◌≡◌, false, ap, sym, subst, ◌∙◌}
use Rattle.std.specs.Prelude.{option_copied, IfSome}
use Rattle.std.proofs.lemmas.Option.{same_Some}
use Rattle.net_base.specs.declared.actor.ActorName.{ActorName}
use Rattle.net_base.specs.Actors.{has_actor}
use Rattle.net_base.specs.Duties.{Duty}
use Rattle.net_locks.proofs.turn.Locks+J+WorldActor+J.lock_of_first.Goals as goal

pub returns-clause-some : goal.returns-clause-some
returns-clause-some g c d is =
    let first : c.unwrap-first.result.now ≡ d = same_Some c.unwrap-first.result.now d (ap option_copied (sym c.unwrap-first.ensures) ∙ (c.first.ensures ∙ is)) in
    subst (λ (a : ActorName). IfSome c.lock_of.result (λ l. l.now.actor ≡ a)) (ap (λ (q : Duty). q.actor) (c.first-2.view_is ∙ first)) c.lock_of.ensures.some

pub returns-clause-none : goal.returns-clause-none
returns-clause-none g c d is none =
    let first : c.unwrap-first.result.now ≡ d = same_Some c.unwrap-first.result.now d (ap option_copied (sym c.unwrap-first.ensures) ∙ (c.first.ensures ∙ is)) in
    subst (λ (a : ActorName). has_actor g.J.Placing.world a ≡ false) (ap (λ (q : Duty). q.actor) (c.first-2.view_is ∙ first)) (c.lock_of.ensures.none none)
