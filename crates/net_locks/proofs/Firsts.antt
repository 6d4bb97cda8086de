-- Which duty stands first.
use Rattle.std.proofs.Common.{◌≡◌, ℕ, List, [], ◌∷◌, drop, Some, slice_get, inl, sym, subst}
use Rattle.std.proofs.lemmas.Option.{none-some, same_Some}
use Rattle.net_base.specs.Duties.{Duty}
use Rattle.net_base.specs.Stamped.{In}
use Rattle.net_base.specs.declared.actor.ActorName.{ActorName}
use Rattle.net_base.specs.declared.world.World.{World}
use Rattle.journal.specs.declared.tokens.Sight.{Sight}
use Rattle.duties.specs.Queue.{work_of_duty}
use Rattle.net_locks.specs.Guests.{IsGuestTurn}
use Rattle.net_base.proofs.Shared.{first_of}

pub first_in : (ds : List Duty) (d : Duty) → slice_get ds 0 ≡ Some d → In d ds
first_in [] d is = absurd (none-some d is)
first_in (x ∷ ds) d is = inl (sym (same_Some x d is))

-- the first duty is a turn at its actor
pub first_turn : (w : World) (c : ℕ) (p : Sight) (ds : List Duty) (d : Duty) → slice_get ds 0 ≡ Some d → (a : ActorName) → d.actor ≡ a
    → IsGuestTurn w c p (d ∷ drop 1 ds) d.actor (work_of_duty d) (Some d.cites) → IsGuestTurn w c p ds a (work_of_duty d) (Some d.cites)
first_turn w c p ds d is a at turn =
    subst (λ (l : List Duty). IsGuestTurn w c p l a (work_of_duty d) (Some d.cites)) (sym (first_of ds d is))
    (subst (λ (b : ActorName). IsGuestTurn w c p (d ∷ drop 1 ds) b (work_of_duty d) (Some d.cites)) at turn)
