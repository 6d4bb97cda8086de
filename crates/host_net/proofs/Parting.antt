-- Players are taken apart, each into its guest and what it played.
use Rattle.std.proofs.Common.{◌≡◌, ◌++◌, List, [], ◌∷◌, Option, inl, inr, refl, ap, sym, subst, ◌∙◌}
use Rattle.net_base.specs.declared.reply.Reply.{Reply}
use Rattle.net_base.specs.declared.world.Script.{Script}
use Rattle.net_base.specs.declared.world.World.{World}
use Rattle.net_base.specs.Steps.{Names}
use Rattle.net_base.specs.Tasks.{Asking, Tasks}
use Rattle.net_base.specs.Versions.{Tuples}
use Rattle.host_net.specs.Playing.{AreGoing, AreVisitsPlayed, IsGoing, IsVisitPlayed, guests_of}
use Rattle.host_net.proofs.Seating.{plays_more}
use Rattle.net_guests.specs.Visits.{Visit}

module _ {T : Type 0} where
  -- one part more
  pub guests_push : (xs ys : List (Visit × T)) (x : Visit × T) → ys ≡ xs ++ x ∷ [] → guests_of ys ≡ guests_of xs ++ x.0 ∷ []
  guests_push xs ys x is = ap guests_of is ∙ on xs
    where
      on : (zs : List (Visit × T)) → guests_of (zs ++ x ∷ []) ≡ guests_of zs ++ x.0 ∷ []
      on [] = refl
      on (z ∷ zs) = ap (λ (l : List Visit). z.0 ∷ l) (on zs)

  pub plays_part : (ts : Tasks) (w : World) (xs ys : List (Visit × T)) (x : Visit × T) → ys ≡ xs ++ x ∷ [] → AreVisitsPlayed ts w (guests_of xs) → IsVisitPlayed ts w x.0
      → AreVisitsPlayed ts w (guests_of ys)
  plays_part ts w xs ys x is are one =
      subst (λ (l : List Visit). AreVisitsPlayed ts w l) (sym (guests_push xs ys x is)) (plays_more ts w (guests_of xs) x.0 are one)

  module _ (Goes : Option Asking → Tuples → Script → List Reply → Names → T → Type 0) (ts : Tasks) (w : World) where
    going_more : (xs : List (Visit × T)) (x : Visit × T) → AreGoing Goes ts w xs → IsGoing Goes ts w x → AreGoing Goes ts w (xs ++ x ∷ [])
    going_more [] x are one y (inl is) = subst (λ (z : Visit × T). IsGoing Goes ts w z) (sym is) one
    going_more [] x are one y (inr there) = absurd there
    going_more (z ∷ zs) x are one y (inl is) = are y (inl is)
    going_more (z ∷ zs) x are one y (inr there) = going_more zs x (λ u it. are u (inr it)) one y there

    pub goes_part : (xs ys : List (Visit × T)) (x : Visit × T) → ys ≡ xs ++ x ∷ [] → AreGoing Goes ts w xs → IsGoing Goes ts w x → AreGoing Goes ts w ys
    goes_part xs ys x is are one = subst (λ (l : List (Visit × T)). AreGoing Goes ts w l) (sym is) (going_more xs x are one)
