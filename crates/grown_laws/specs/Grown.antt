-- A world with more steps at the end of one script.
use Rattle.std.specs.Prelude.{◌≡◌, ℕ, zero, suc, ◌<◌, ◌≤◌, ◌⊎◌, true, List, [], ◌∷◌, ◌++◌, min, Some, None, IsSome, slice_get, take}
use Rattle.net_base.specs.declared.event.Event.{Event}
use Rattle.net_base.specs.declared.event.Event.TheVariants as event
use Rattle.net_base.specs.declared.history.Entry.{Entry}
use Rattle.net_base.specs.declared.reply.Reply.{Reply}
use Rattle.net_base.specs.declared.world.Script.{Script}
use Rattle.net_base.specs.declared.world.Step.{Step}
use Rattle.net_base.specs.declared.world.World.{World}
use Rattle.net_base.specs.Calm.{awaited_moment, movable, target}
use Rattle.net_base.specs.Legal.{IsInTime}
use Rattle.net_base.specs.Net.{after}
use Rattle.net_base.specs.Next.{next_recorded, own_replies, zone_of}
use Rattle.net_base.specs.Scripts.{Kept, at_first, heard_replies, kept_after, step_play}
use Rattle.net_base.specs.Steps.{Asking, Finished, Names, Stand, stands}

-- the script with these steps added at its end
abbrev pub longer : Script → List Step → Script
longer s more = record s { steps = s.steps ++ more }

-- the scripts, with more steps at the end of script c; the same scripts if there is no script c
abbrev pub grown_scripts : List Script → ℕ → List Step → List Script
grown_scripts [] c more = []
grown_scripts (s ∷ ss) zero more = longer s more ∷ ss
grown_scripts (s ∷ ss) (suc c) more = s ∷ grown_scripts ss c more

-- the world with more steps at the end of script c; everything in it except this script is the same
abbrev pub grown : World → ℕ → List Step → World
grown w c more = record w { scripts = grown_scripts w.scripts c more }

-- if the event is a clock move, script c has a next event after the past entries
abbrev pub HasNextAt : World → ℕ → List Entry → Event → Type 0
HasNextAt w c past (event.Move m) = IsSome (next_recorded w past c)
HasNextAt w c past _ = Unit {0}

-- script c has a next event at each clock move of the history
abbrev pub HasNextAtMoves : World → ℕ → List Entry → Type 0
HasNextAtMoves w c h = (k : ℕ) (x : Entry) → slice_get h k ≡ Some x → HasNextAt w c (take k h) x.event

-- The replies to the events of a script.

-- the replies that are left after a step: none if the step is unfinished
abbrev pub behind_by : Stand → (Names → List Reply → List Reply) → List Reply
behind_by (Asking ask) go_on = []
behind_by (Finished names later) go_on = go_on names later

-- the replies that the steps of a script leave for steps added at its end
abbrev pub behind : ℕ → List Step → Kept → List Reply → List Reply
behind h [] k rs = rs
behind h (s ∷ ss) k rs =
    behind_by (stands (step_play h k s) rs) (λ (names : Names) (later : List Reply). behind h ss (kept_after k s names (heard_replies (step_play h k s) rs)) later)

-- in the history, script c has no events except those of its own steps
abbrev pub IsWithinSteps : World → ℕ → List Entry → Type 0
IsWithinSteps w c h = (s : Script) → slice_get w.scripts c ≡ Some s → behind s.host s.steps (at_first (zone_of w)) (own_replies h c) ≡ []

-- A deadline.

-- The clock advances to m while the first added step waits for the deadline `last`:
-- every own step of script c is finished, the clock can advance, the present moment is before the deadline,
-- and m is the smaller of the deadline and the target of the world without the added steps.
pub record WaitsTill (w : World) (c : ℕ) (more : List Step) (last : ℕ) (past : List Entry) (m : ℕ) : Type 0 where
  pub begun : next_recorded w past c ≡ None
  pub waits : movable (grown w c more) (after w past) ≡ true
  pub before : (after w past).moment < last
  pub goes_to : m ≡ min last (target w (after w past))

-- a clock move is timed while script c has a next event, and otherwise it waits for the deadline
abbrev pub IsInTimeTill : World → ℕ → List Step → ℕ → List Entry → Event → Type 0
IsInTimeTill w c more last past (event.Move m) =
    (IsSome (next_recorded w past c) × IsInTime (after w past) w (event.Move m)) ⊎ WaitsTill w c more last past m
IsInTimeTill w c more last past _ = Unit {0}

-- each clock move of the history is timed up to the deadline
abbrev pub IsTimedTill : World → ℕ → List Step → ℕ → List Entry → Type 0
IsTimedTill w c more last h = (k : ℕ) (x : Entry) → slice_get h k ≡ Some x → IsInTimeTill w c more last (take k h) x.event

-- If the own steps of script c are finished at a clock move, the move begins before the deadline and does not pass it,
-- and the first added step does not wait for an earlier moment than the deadline.
abbrev pub StaysBefore : World → ℕ → List Step → ℕ → List Entry → Event → Type 0
StaysBefore w c more last past (event.Move m) =
    next_recorded w past c ≡ None
    → ((after w past).moment < last) × (m ≤ last) × ((n : ℕ) → awaited_moment (next_recorded (grown w c more) past c) ≡ Some n → last ≤ n)
StaysBefore w c more last past _ = Unit {0}

-- each clock move of the history stays before the deadline
abbrev pub StaysBeforeMoves : World → ℕ → List Step → ℕ → List Entry → Type 0
StaysBeforeMoves w c more last h = (k : ℕ) (x : Entry) → slice_get h k ≡ Some x → StaysBefore w c more last (take k h) x.event
