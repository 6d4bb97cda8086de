-- The theorems are false without their premises.
use Rattle.std.proofs.Common.{ℕ, zero, suc, [], ◌∷◌, refl, subst, arith}
use Rattle.std.proofs.lemmas.Option.{none-some, same_Some}
use Rattle.net_base.specs.declared.event.Event.TheVariants as event
use Rattle.net_base.specs.declared.history.Entry.{Entry}
use Rattle.net_base.specs.declared.world.Step.TheVariants as step
use Rattle.net_base.specs.declared.world.World.{World}
use Rattle.net_base.specs.Legal.{IsInTime, IsTimed}
use Rattle.net_base.specs.Net.{after}
use Rattle.grown_laws.specs.Grown.{grown}
use Rattle.grown_laws.specs.Needed.{moved, small}

one : (w : World) (m : ℕ) → IsInTime (after w []) w (event.Move m) → IsTimed w (moved m)
one w m now zero x is = subst (λ (y : Entry). IsInTime (after w []) w y.event) (same_Some _ x is) now
one w m now (suc k) x is = absurd (none-some x is)

pub idle_moves : IsTimed (small 5) (moved 5)
idle_moves = one (small 5) 5 (refl, refl)

pub not_grown : IsTimed (grown (small 5) 0 (step.Until 3 ∷ [])) (moved 5) → ⊥
not_grown timed = let now = timed zero _ refl in absurd (omega (arith, now.1))

-- a step that waits for moment 2, with the deadline 4
pub waits : IsTimed (grown (small 5) 0 (step.Until 2 ∷ [])) (moved 2)
waits = one (grown (small 5) 0 (step.Until 2 ∷ [])) 2 (refl, refl)

pub not_replaced : IsTimed (grown (small 5) 0 (step.Until 4 ∷ [])) (moved 2) → ⊥
not_replaced timed = let now = timed zero _ refl in absurd (omega (arith, now.1))
