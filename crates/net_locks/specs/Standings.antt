-- How callers stand before the clock may move, and what is found of them.
--     AllStand       what is known of every caller, by a pass that holds all numbers
use Rattle.std.specs.Prelude.{◌≡◌, ℕ, ◌<◌, ◌≤◌, ◌==◌, ◌&&◌, Bool, true, false, not, List, length, map, filter_map, Option, Some, None, is_some, nat_lt}
use Rattle.std.specs.Option.{option_map}
use Rattle.net_base.specs.declared.actor.ActorName.{ActorName}
use Rattle.net_base.specs.declared.history.Work.{Work}
use Rattle.net_base.specs.declared.world.World.{World}
use Rattle.net_base.specs.Calm.{awaited_moment}
use Rattle.net_base.specs.Duties.{Duty}
use Rattle.net_base.specs.Next.{next_by}
use Rattle.net_base.specs.Stamped.{In}
use Rattle.net_base.specs.Steps.{Ask}
use Rattle.net_base.specs.Tasks.{Tasks}
use Rattle.journal.specs.declared.law.Roster.{Roster}
use Rattle.journal.specs.declared.tokens.Sight.{Sight}
use Rattle.duties.specs.declared.due.Due.{Due}
use Rattle.duties.specs.Marks.{Covers}
use Rattle.net_locks.specs.Guests.{IsGuest}
use Rattle.net_locks.specs.Own.{AreTimely}
use Rattle.net_locks.specs.Works.{entries}
use Rattle.net_locks.specs.declared.clock.Busy.{Busy}
use Rattle.net_locks.specs.declared.clock.Standing.{Standing}
use Rattle.net_locks.specs.Turns.{bare, own_seen}

-- How callers stand.

-- the event of a work at an actor
abbrev pub standing_ask : ActorName × Work → Ask
standing_ask x = record { actor = x.0; event = x.1.event }

-- nothing is given to it
abbrev pub IsBare : Option (ActorName × Work) → Type 0
IsBare None = Unit {0}
IsBare (Some x) = x.1 ≡ bare x.1.event

-- a caller is a guest of the pass: whether it owes a duty, whether it has recorded as much as it may, what it records
-- next where it owes nothing, and at which conversations it recorded something
pub record StandsAt (ts : Tasks) (w : World) (r : Roster) (p : Sight) (s : Standing) : Type 0 where
  pub owed : List Duty
  pub guest : IsGuest w r s.caller p owed
  pub owes_is : s.owes ≡ not (length owed == 0)
  pub full_is : s.full ≡ (length (own_seen s.caller p) == 131072)
  pub next_is : option_map standing_ask s.next ≡ next_by ts w (entries p.seen) s.caller
  pub given : IsBare s.next
  pub timely : AreTimely ts w s.caller p.seen
  pub covers : Covers (own_seen s.caller p) s.touched

abbrev pub HasStanding : ℕ → List Standing → Type 0
HasStanding c ss = (s : Standing) × In s ss × (s.caller ≡ c)

-- so each of them stands, and every caller is among them
pub record AllStand (ts : Tasks) (w : World) (r : Roster) (p : Sight) (ss : List Standing) : Type 0 where
  pub each : (s : Standing) → In s ss → StandsAt ts w r p s
  pub all : (c : ℕ) → c < r.callers → HasStanding c ss

-- What is found.

-- of these numbers the least that passes the test
abbrev pub IsLeastOf : (ℕ → Bool) → List ℕ → Option ℕ → Type 0
IsLeastOf test cs None = (c : ℕ) → In c cs → test c ≡ false
IsLeastOf test cs (Some c) = In c cs × (test c ≡ true) × ((d : ℕ) → In d cs → test d ≡ true → c ≤ d)

-- whether one of these numbers passes the test
abbrev pub DoesAny : (ℕ → Bool) → List ℕ → Bool → Type 0
DoesAny test cs false = (c : ℕ) → In c cs → test c ≡ false
DoesAny test cs true = (c : ℕ) × In c cs × (test c ≡ true)

-- of these callers the least that could record, and whether a full one could
pub record FindsBusy (goes full : ℕ → Bool) (cs : List ℕ) (found : Busy) : Type 0 where
  pub least_is : IsLeastOf goes cs found.least
  pub full_is : DoesAny (λ (c : ℕ). full c && goes c) cs found.full

abbrev pub standing_callers : List Standing → List ℕ
standing_callers ss = map (λ (s : Standing). s.caller) ss

-- the moment for which a caller waits
abbrev pub awaited_of : Standing → Option ℕ
awaited_of s = awaited_moment (option_map standing_ask s.next)

abbrev pub standing_moments : List Standing → List ℕ
standing_moments ss = filter_map awaited_of ss

abbrev pub moments_of_dues : List Due → List ℕ
moments_of_dues dues = map (λ (d : Due). d.due) dues

-- it is one of the first so many callers, and has an event left to record
abbrev pub has_left : ℕ → Standing → Bool
has_left n s = nat_lt s.caller n && is_some s.next
