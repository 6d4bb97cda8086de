-- How many steps are answered, by what callers know.
use Rattle.std.specs.Prelude.{◌≡◌, ◌≢◌, ◌⊎◌, ℕ, ◌<◌, ◌==◌, true, false, not, List, [], length, map}
use Rattle.net_base.specs.declared.history.Entry.{Entry}
use Rattle.net_base.specs.declared.world.Script.{Script}
use Rattle.net_base.specs.declared.world.World.{World}
use Rattle.net_base.specs.Callers.{IsScript, caller_of}
use Rattle.net_base.specs.Net.{owed}
use Rattle.net_base.specs.Next.{answered}
use Rattle.net_base.specs.Stamped.{In, of_caller}
use Rattle.journal.specs.Closing.{plain}
use Rattle.net_locks.specs.Works.{entries}
use Rattle.net_locks.specs.Turns.{own_seen}
use Rattle.host_net.specs.Groups.{caller}
use Rattle.host_net.specs.Playing.{Playing}
use Rattle.net_guests.specs.Visits.{Visit}

-- each of these callers has in the history the entries that it knows, and owes after it what it knows
pub record AreAfter (w : World) (vs : List Visit) (h : List Entry) : Type 0 where
  pub lists : (v : Visit) → In v vs → of_caller v.caller h ≡ map plain (own_seen v.caller v.sight)
  pub owes : (v : Visit) → In v vs → owed w h v.caller ≡ v.owed

-- so many steps of its script are answered by what it knows
abbrev pub AreStepsAnswered : World → Visit → ℕ → Type 0
AreStepsAnswered w v n =
    (s : Script) → caller_of w v.caller ≡ IsScript s
    → n ≡ answered w (entries v.sight.seen) v.caller (not (length v.owed == 0)) s

module _ {T : Type 0} where
  -- its task plays a whole script, and it owes something or its task was told the last reply
  abbrev pub CanTell : Playing T → Type 0
  CanTell p = (p.counts ≡ true) × ((p.visit.owed ≢ []) ⊎ (p.lost ≡ false))

  -- or else it doesn't know how many of its steps are answered
  abbrev pub CannotTell : Playing T → Type 0
  CannotTell p = (p.counts ≡ false) ⊎ ((p.visit.owed ≡ []) × (p.lost ≡ true))

  -- one of these players is the caller's, and it can't tell
  abbrev pub CannotTellOf : ℕ → List (Playing T) → Type 0
  CannotTellOf c ps = (p : Playing T) × In p ps × (caller p ≡ c) × CannotTell p

  -- so it is of some script
  abbrev pub SomeCannotTell : World → List (Playing T) → Type 0
  SomeCannotTell w ps = (c : ℕ) × (c < length w.scripts) × CannotTellOf c ps

  -- one of these players is the caller's, and so many of its steps are answered
  abbrev pub IsAnsweredOf : World → ℕ → List (Playing T) → ℕ → Type 0
  IsAnsweredOf w c ps n = (p : Playing T) × In p ps × (caller p ≡ c) × AreStepsAnswered w p.visit n
