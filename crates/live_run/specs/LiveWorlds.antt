-- Worlds whose places get steps.
use Rattle.std.specs.Prelude.{◌≡◌, ℕ, Bool, true, List, [], ◌∷◌, Some, slice_get}
use Rattle.net_base.specs.declared.history.Entry.{Entry}
use Rattle.net_base.specs.declared.world.Script.{Script}
use Rattle.net_base.specs.declared.world.Step.{Step}
use Rattle.net_base.specs.declared.world.Step.TheVariants as step
use Rattle.net_base.specs.declared.world.World.{World}
use Rattle.net_base.specs.StepWords.{is_step}
use Rattle.grown_laws.specs.Grown.{HasNextAtMoves, grown}

-- script c is a place: the world has it without steps
pub record IsPlace (w : World) (c : ℕ) : Type 0 where
  pub script : Script
  pub is : slice_get w.scripts c ≡ Some script
  pub empty : script.steps ≡ []

-- the first world after its places got steps, one at a time
pub data GrownFrom (first : World) : World → Type 0 where
  Same : GrownFrom first first
  More : (w : World) (c : ℕ) (s : Step) → GrownFrom first w → IsPlace first c → is_step s ≡ true → GrownFrom first (grown w c (s ∷ []))
  -- `until` in place of the last step of a place
  Late : (w : World) (c : ℕ) (s : Step) (last : ℕ) → GrownFrom first (grown w c (s ∷ [])) → IsPlace first c → GrownFrom first (grown w c (step.Until last ∷ []))
  -- nothing in place of the last step of a place
  Gone : (w : World) (c : ℕ) (s : Step) → GrownFrom first (grown w c (s ∷ [])) → IsPlace first c → GrownFrom first (grown w c [])

-- Which scripts can get more steps, as a list by their numbers.

-- they are places
abbrev pub ArePlaces : World → List Bool → Type 0
ArePlaces first grows = (c : ℕ) → slice_get grows c ≡ Some true → IsPlace first c

-- whenever the clock moved they had a next event
abbrev pub HadNext : World → List Entry → List Bool → Type 0
HadNext w h grows = (c : ℕ) → slice_get grows c ≡ Some true → HasNextAtMoves w c h

-- no other script can get more steps than before
abbrev pub Narrows : List Bool → List Bool → Type 0
Narrows old new = (c : ℕ) → slice_get new c ≡ Some true → slice_get old c ≡ Some true

-- another step, or some, began at places, or the last step of one was replaced by `until` or removed: whatever the first world is, it is what grew
abbrev pub Begins : World → List Bool → World → Type 0
Begins old places new = (first : World) → GrownFrom first old → ArePlaces first places → GrownFrom first new

-- so with the places that can still grow and with all places
abbrev pub Supplied : World → List Bool → List Bool → World → Type 0
Supplied old grows places new = (first : World) → GrownFrom first old → ArePlaces first grows → ArePlaces first places → GrownFrom first new
