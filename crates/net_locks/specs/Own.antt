-- What is known of one caller's own entries, and what of a history where it is known of every caller's.
use Rattle.std.specs.Prelude.{◌≡◌, ℕ, ◌==◌, ◌<◌, true, List, [], ◌∷◌, length, take, Option, Some, IsSome, slice_get}
use Rattle.net_base.specs.declared.history.Entry.{Entry}
use Rattle.net_base.specs.declared.noted.Noted.{Noted}
use Rattle.net_base.specs.declared.world.Script.{Script}
use Rattle.net_base.specs.declared.world.World.{World}
use Rattle.net_base.specs.ActorStep.{Step}
use Rattle.net_base.specs.Actors.{Actor, has_actor}
use Rattle.net_base.specs.Callers.{Caller, IsScript, caller_of, caller_count}
use Rattle.net_base.specs.Calm.{most_entries}
use Rattle.net_base.specs.Duties.{Duty}
use Rattle.net_base.specs.Legal.{IsAsked, IsInTimeBy, Shows, asked_by, cites_of, shown_by, shown_of}
use Rattle.net_base.specs.Net.{Net, opening_net, after, outcome_in, owed, with_of}
use Rattle.net_base.specs.Next.{by, next_recorded, next_by}
use Rattle.net_base.specs.Steps.{Ask}
use Rattle.net_base.specs.Tasks.{Tasks}
use Rattle.net_locks.specs.Works.{step_by, next_noted, noted_net, owed_in, entries}

-- the first duty, or what comes next where none is owed; of a script that owes nothing it is any event
abbrev pub IsAskedButOfScripts : List Duty → Caller → Option Ask → Entry → Type 0
IsAskedButOfScripts [] (IsScript s) ask x = Unit {0}
IsAskedButOfScripts ds caller ask x = IsAsked ds caller ask x

-- the entry does its caller's first duty with what that gives, and its actor was ready and gave what the entry shows
pub record IsTurnOf (w : World) (net : Net) (x : Noted) : Type 0 where
  pub given : x.work.with ≡ with_of (net.owed x.entry.caller)
  pub cites : x.entry.cites ≡ cites_of (net.owed x.entry.caller)
  pub asked : IsAskedButOfScripts (net.owed x.entry.caller) (caller_of w x.entry.caller)
      (next_recorded w net.past x.entry.caller) x.entry
  pub step : Step Actor
  pub gives : step_by w net x ≡ Some step
  pub shows : shown_by x.entry ≡ shown_of step.outcome

-- where nothing is owed it is what comes next, by who plays a task in the place of a script
abbrev pub IsNextOf : Tasks → World → Net → Noted → Type 0
IsNextOf ts w net x = IsAsked (net.owed x.entry.caller) (caller_of w x.entry.caller)
    (next_by ts w net.past x.entry.caller) x.entry

-- where it is a move it comes in time
abbrev pub IsTimelyIn : Tasks → World → Net → Noted → Type 0
IsTimelyIn ts w net x = IsInTimeBy ts net w x.entry.event

-- each of the caller's entries is so, in the net before it
abbrev pub OwnFrom : World → ℕ → (Net → Noted → Type 0) → Net → List Noted → Type 0
OwnFrom w c K net [] = Unit {0}
OwnFrom w c K net (x ∷ xs) = ((x.entry.caller == c) ≡ true → K net x) × OwnFrom w c K (next_noted w net x) xs

abbrev pub EachOwn : World → ℕ → (Net → Noted → Type 0) → List Noted → Type 0
EachOwn w c K log = OwnFrom w c K (opening_net w) log

-- each of the caller's entries is a turn of it
abbrev pub AreTurns : World → ℕ → List Noted → Type 0
AreTurns w c log = EachOwn w c (IsTurnOf w) log

-- each is the first duty or what comes next, scripts and tasks included
abbrev pub AreNext : Tasks → World → ℕ → List Noted → Type 0
AreNext ts w c log = EachOwn w c (IsNextOf ts w) log

-- each move of the caller comes in time
abbrev pub AreTimely : Tasks → World → ℕ → List Noted → Type 0
AreTimely ts w c log = EachOwn w c (IsTimelyIn ts w) log

-- after the later entries the caller stands as it stood after the earlier ones, whoever plays a task
pub record OwnStandsStill (w : World) (c : ℕ) (earlier later : List Noted) : Type 0 where
  pub owes : owed_in w later c ≡ owed_in w earlier c
  pub comes_next : (ts : Tasks) → next_by ts w (entries later) c ≡ next_by ts w (entries earlier) c
  pub turns : AreTurns w c earlier → AreTurns w c later
  pub nexts : (ts : Tasks) → AreNext ts w c earlier → AreNext ts w c later
  pub timely : (ts : Tasks) → AreTimely ts w c earlier → AreTimely ts w c later

-- with an entry of its own more
pub record OwnGains (w : World) (c : ℕ) (past : List Noted) (x : Noted) (later : List Noted) : Type 0 where
  pub turns : AreTurns w c past → IsTurnOf w (noted_net w past) x → AreTurns w c later
  pub nexts : (ts : Tasks) → AreNext ts w c past → IsNextOf ts w (noted_net w past) x → AreNext ts w c later
  pub timely : (ts : Tasks) → AreTimely ts w c past → IsTimelyIn ts w (noted_net w past) x → AreTimely ts w c later

-- The whole history.

-- the entry keeps every rule, and that of what is asked where it isn't a script's that owes nothing
pub record FollowsButScripts (w : World) (past : List Entry) (net : Net) (x : Entry) : Type 0 where
  pub answers : Shows (outcome_in w net x) x
  pub at_moment : x.moment ≡ net.moment
  pub cites : x.cites ≡ cites_of (net.owed x.caller)
  pub is_asked : IsAskedButOfScripts (net.owed x.caller) (caller_of w x.caller) (next_recorded w past x.caller) x
  pub is_ready : IsSome (outcome_in w net x)
  pub is_known : (has_actor w x.actor ≡ true) × (x.caller < caller_count w)
  pub has_room : length (by past x.caller) < most_entries

-- the history is legal, but that the entries of scripts that aren't duties are their next events
abbrev pub IsLegalButScripts : World → List Entry → Type 0
IsLegalButScripts w h = (k : ℕ) (x : Entry) → slice_get h k ≡ Some x
    → FollowsButScripts w (take k h) (after w (take k h)) x

-- and so they are: where a script, or the task in its place, owes nothing, its entry is what comes next for it
abbrev pub DoScriptsGoOn : Tasks → World → List Entry → Type 0
DoScriptsGoOn ts w h = (k : ℕ) (x : Entry) (s : Script) → slice_get h k ≡ Some x → caller_of w x.caller ≡ IsScript s
    → owed w (take k h) x.caller ≡ [] → next_by ts w (take k h) x.caller ≡ Some (asked_by x)
