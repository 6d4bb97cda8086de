-- A step that waits: the history has no event of it. It can have a deadline.
use Rattle.std.specs.Prelude.{◌≡◌, ℕ, ◌<◌, ◌≤◌, List, [], ◌∷◌, Option, Some, None, slice_get, take}
use Rattle.net_base.specs.declared.event.Event.{Event}
use Rattle.net_base.specs.declared.event.Event.TheVariants as event
use Rattle.net_base.specs.declared.history.Entry.{Entry}
use Rattle.net_base.specs.declared.world.Script.{Script}
use Rattle.net_base.specs.declared.world.Step.{Step}
use Rattle.net_base.specs.declared.world.World.{World}
use Rattle.net_base.specs.Calm.{awaited_moment}
use Rattle.net_base.specs.Net.{after}
use Rattle.net_base.specs.Next.{next_recorded, own_replies, place_next, zone_of}
use Rattle.net_base.specs.Scripts.{at_first}
use Rattle.net_base.specs.Steps.{Ask}
use Rattle.grown_laws.specs.Grown.{behind, longer}

-- the next event of a script with the number c, after these entries
abbrev pub next_in : World → List Entry → ℕ → Script → Option Ask
next_in w past c s = place_next None (zone_of w) s (own_replies past c)

-- If all steps of a script are finished at a clock move, the move begins before the deadline and does not pass it,
-- and the step that follows them does not wait for an earlier moment than the deadline.
abbrev pub StaysIn : World → ℕ → Script → Step → ℕ → List Entry → Event → Type 0
StaysIn w c s step last past (event.Move m) =
    next_in w past c s ≡ None
    → ((after w past).moment < last) × (m ≤ last) × ((n : ℕ) → awaited_moment (next_in w past c (longer s (step ∷ []))) ≡ Some n → last ≤ n)
StaysIn w c s step last past _ = Unit {0}

-- the last step of script c waits: the steps before it are finished, and the clock stayed before its deadline
pub record Waits (w : World) (h : List Entry) (c last : ℕ) : Type 0 where
  -- the script without the step
  pub script : Script
  pub step : Step
  pub is : slice_get w.scripts c ≡ Some (longer script (step ∷ []))
  pub within : behind script.host script.steps (at_first (zone_of w)) (own_replies h c) ≡ []
  pub finished : next_in w h c script ≡ None
  pub stays : (k : ℕ) (x : Entry) → slice_get h k ≡ Some x → StaysIn w c script step last (take k h) x.event

-- no script has a deadline
abbrev pub AreNone : List (Option ℕ) → Type 0
AreNone deadlines = (c last : ℕ) → slice_get deadlines c ≡ Some (Some last) → ⊥

-- so of each script that has a deadline, as a list by their numbers
abbrev pub AreWaiting : World → List Entry → List (Option ℕ) → Type 0
AreWaiting w h deadlines = (c last : ℕ) → slice_get deadlines c ≡ Some (Some last) → Waits w h c last

-- the clock can move from now to this moment without passing a deadline, and the step waits for no earlier moment
abbrev pub AllowsOne : World → List Entry → ℕ → ℕ → ℕ → ℕ → Type 0
AllowsOne w h c last now to = (now < last) × (to ≤ last) × ((n : ℕ) → awaited_moment (next_recorded w h c) ≡ Some n → last ≤ n)

-- so for each deadline
abbrev pub AllowsMove : World → List Entry → List (Option ℕ) → ℕ → ℕ → Type 0
AllowsMove w h deadlines now to = (c last : ℕ) → slice_get deadlines c ≡ Some (Some last) → AllowsOne w h c last now to

-- no clock move goes beyond this moment
abbrev pub MovesTo : List Entry → ℕ → Type 0
MovesTo h last = (k m : ℕ) (x : Entry) → slice_get h k ≡ Some x → x.event ≡ event.Move m → m ≤ last
