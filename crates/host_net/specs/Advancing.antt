-- The calm clock: how callers stand before it may move, and what became of it.
--     IsStanding     what is known of a caller by its player
--     IsHistoryOf    a history that some callers recorded
--     Advanced       what became of the clock
--     ClockRecords   what the clock recorded
--     GroupsAreKept  the players of all groups are as before, but for the moment, what they have seen and what the clock recorded
use Rattle.std.specs.Prelude.{◌≡◌, ℕ, ◌<◌, ◌⊎◌, ◌==◌, true, false, not, List, [], ◌∷◌, ◌++◌, length, map, option_map, Option, Some, None, slice_get, slice_set}
use Rattle.net_base.specs.declared.actor.ActorName.TheVariants as name
use Rattle.net_base.specs.declared.event.Event.TheVariants as event
use Rattle.net_base.specs.declared.history.Entry.{Entry}
use Rattle.net_base.specs.declared.noted.Noted.{Noted}
use Rattle.net_base.specs.declared.world.World.{World}
use Rattle.net_base.specs.ActorStep.{Step}
use Rattle.net_base.specs.Actors.{Actor, actor_step}
use Rattle.net_base.specs.Calm.{done_by, limited_by, movable_by, stopped_by, target_by}
use Rattle.net_base.specs.Duties.{owed_ticks}
use Rattle.net_base.specs.Legal.{IsLegalBy, IsTimedBy}
use Rattle.net_base.specs.Net.{Net, after}
use Rattle.net_base.specs.Next.{next_by}
use Rattle.net_base.specs.Stamped.{In, of_caller}
use Rattle.net_base.specs.Tasks.{Tasks}
use Rattle.journal.specs.declared.law.Roster.{Roster}
use Rattle.journal.specs.declared.tokens.Sight.{Sight}
use Rattle.journal.specs.Closing.{plain}
use Rattle.duties.specs.Marks.{Covers}
use Rattle.net_locks.specs.Guests.{IsOfGuests}
use Rattle.locked.specs.Acts.{made, act_without_copy}
use Rattle.net_locks.specs.Own.{AreNext, AreTimely}
use Rattle.net_locks.specs.Works.{entries}
use Rattle.net_locks.specs.declared.clock.Advance.{Advance}
use Rattle.net_locks.specs.declared.clock.Advance.TheVariants as advance
use Rattle.net_locks.specs.declared.clock.Standing.{Standing}
use Rattle.net_guests.specs.Deciding.{Decided}
use Rattle.net_locks.specs.Standings.{HasStanding, IsBare, standing_ask}
use Rattle.net_locks.specs.Moving.{IsLeast}
use Rattle.host_net.specs.Groups.{Grouped, all_members, visits}
use Rattle.host_net.specs.Playing.{Playing}
use Rattle.net_guests.specs.Visits.{GathersPasses, IsWith, Visit}
use Rattle.net_locks.specs.Turns.{StaysOwn, bare, own_seen}

-- How a caller stands.

-- what is known of a caller: whether it owes a duty, whether it has room, what it records next where it owes none, that
-- each of its moves came in time, and at which conversations it recorded something
pub record IsStanding (ts : Tasks) (w : World) (v : Visit) (s : Standing) : Type 0 where
  pub caller_is : s.caller ≡ v.caller
  pub owes_is : s.owes ≡ not (length v.owed == 0)
  pub full_is : s.full ≡ (length (own_seen v.caller v.sight) == 131072)
  pub next_is : option_map standing_ask s.next ≡ next_by ts w (entries v.sight.seen) v.caller
  pub given : IsBare s.next
  pub timely : AreTimely ts w v.caller v.sight.seen
  pub covers : Covers (own_seen v.caller v.sight) s.touched

-- of each of these callers, in their order
abbrev pub AreStandings : Tasks → World → List Visit → List Standing → Type 0
AreStandings ts w [] [] = Unit {0}
AreStandings ts w (v ∷ vs) (s ∷ ss) = IsStanding ts w v s × AreStandings ts w vs ss
AreStandings ts w _ _ = ⊥

-- to the standings so far come those of these callers
pub record AddsToGroups (ts : Tasks) (w : World) (vs : List Visit) (old new : List Standing) : Type 0 where
  pub added : List Standing
  pub behind : new ≡ old ++ added
  pub standings : AreStandings ts w vs added

-- each of these standings is one of a caller who is with the pass already, or of one of those that are left
pub record AreLent (ts : Tasks) (w : World) (r : Roster) (left : List Visit) (p : Sight) (ss : List Standing) : Type 0 where
  pub each : (s : Standing) → In s ss → (v : Visit) × IsStanding ts w v s × (IsWith w r v p ⊎ In v left)
  pub all : (c : ℕ) → c < r.callers → HasStanding c ss

-- What became of the clock.

-- a history in which each of these callers has the entries that it knows
pub record IsHistoryOf (ts : Tasks) (w : World) (vs : List Visit) (h : List Entry) : Type 0 where
  pub legal : IsLegalBy ts w h
  pub timed : IsTimedBy ts w h
  pub lists : (v : Visit) → In v vs → of_caller v.caller h ≡ map plain (own_seen v.caller v.sight)

-- so stands the net after it
abbrev pub AfterAll : Tasks → World → List Visit → (Net → Type 0) → Type 0
AfterAll ts w vs K = (h : List Entry) → IsHistoryOf ts w vs h → K (after w h)

-- the clock might move, had room, and moved to this moment, which is now that of each of these callers
pub record MovesAll (ts : Tasks) (w : World) (old new : List Visit) (m : ℕ) : Type 0 where
  pub may : AfterAll ts w old (λ (net : Net). movable_by ts w net ≡ true)
  pub has_room : AfterAll ts w old (λ (net : Net). limited_by ts w net ≡ false)
  pub target_is : AfterAll ts w old (λ (net : Net). m ≡ target_by ts w net)
  pub now_is : (v : Visit) → In v new → v.now ≡ m

-- by the answer
abbrev pub Advanced : Tasks → World → List Visit → Advance → List Visit → Type 0
Advanced ts w old (advance.Moved m) new = MovesAll ts w old new m
Advanced ts w old advance.Done new = AfterAll ts w new (λ (net : Net). done_by ts w net ≡ true)
Advanced ts w old advance.Stopped new = AfterAll ts w new (λ (net : Net). stopped_by ts w net ≡ true)
Advanced ts w old (advance.NotCalm c) new = AfterAll ts w new (λ (net : Net). IsLeast ts w net c × (limited_by ts w net ≡ false))
Advanced ts w old advance.Limit new = AfterAll ts w new (λ (net : Net). limited_by ts w net ≡ true)
Advanced ts w old advance.Memory new = Unit {0}

-- these callers have this moment
abbrev pub AreGroupsAt : ℕ → List Visit → Type 0
AreGroupsAt m vs = (v : Visit) → In v vs → v.now ≡ m

-- unless the clock moved, callers that had one moment have it still
abbrev pub StayAtOnce : Advance → List Visit → List Visit → Type 0
StayAtOnce (advance.Moved m) old new = Unit {0}
StayAtOnce answer old new = (m : ℕ) → AreGroupsAt m old → AreGroupsAt m new

-- What the clock recorded.

-- the entry of its move to this moment, with what its step gives
abbrev pub moved : Visit → ℕ → Step Actor → Noted
moved v m step = made name.Clock v.caller v.now (bare (event.Move m)) None (act_without_copy step.outcome)

-- Its list gained one entry, its move to this moment, after all that the callers had recorded and where it owed nothing.
-- Now it owes the ticks of that entry: one for each conversation whose due moment has come, in the order of host, protocol
-- and slot.
pub record HasMoved (ts : Tasks) (w : World) (all : List Visit) (m : ℕ) (old new : Visit) : Type 0 where
  pub stamp : ℕ
  pub step : Step Actor
  pub gains : own_seen new.caller new.sight ≡ own_seen old.caller old.sight ++ (stamp, moved old m step) ∷ []
  pub free : old.owed ≡ []
  pub stamp_is : (h : List Entry) → IsHistoryOf ts w all h → stamp ≡ length h
  pub stepped : AfterAll ts w all (λ (net : Net).
      actor_step w name.Clock (net.actors name.Clock) old.now (bare (event.Move m)) ≡ Some step)
  pub owes : AfterAll ts w all (λ (net : Net). new.owed ≡ owed_ticks w net.actors name.Clock stamp (event.Move m))

-- it recorded nothing, and has the moment that it had
pub record HasRested (old new : Visit) : Type 0 where
  pub own_is : own_seen new.caller new.sight ≡ own_seen old.caller old.sight
  pub owed_is : new.owed ≡ old.owed
  pub now_is : new.now ≡ old.now

-- by the answer
abbrev pub ClockRecords : Tasks → World → List Visit → Visit → Advance → Visit → Type 0
ClockRecords ts w all old (advance.Moved m) new = HasMoved ts w all m old new
ClockRecords ts w all old answer new = HasRested old new

-- The players.

-- The numbers of all callers were with the pass of the clock's guest, which decided.
--     at, to      the guest as it was then, and as it was when it had decided
pub record Advances (ts : Tasks) (w : World) (r : Roster) (left : List Visit) (old : Visit) (answer : Advance) (new : Visit)
    : Type 0 where
  pub at : Visit
  pub to : Visit
  pub gathers : GathersPasses w r old.sight left at.sight
  pub guests : IsOfGuests w r at.sight.seen
  pub caller_at : at.caller ≡ old.caller
  pub now_at : at.now ≡ old.now
  pub owed_at : at.owed ≡ old.owed
  pub decided : Decided ts w at answer to
  pub nexts : AreNext ts w old.caller at.sight.seen → AreNext ts w old.caller new.sight.seen
  pub timely : AreTimely ts w old.caller at.sight.seen → AreTimely ts w old.caller new.sight.seen
  pub caller_is : new.caller ≡ old.caller
  pub names_are : new.names ≡ old.names
  pub now_is : new.now ≡ to.now
  pub owed_is : new.owed ≡ to.owed
  pub seen_is : new.sight.seen ≡ to.sight.seen

module _ {T : Type 0} where
  -- the player is as before, but for the moment and what it has seen of others
  pub record IsKept (w : World) (old new : Playing T) : Type 0 where
    pub caller_is : new.visit.caller ≡ old.visit.caller
    pub owed_is : new.visit.owed ≡ old.visit.owed
    pub names_are : new.visit.names ≡ old.visit.names
    pub role_is : new.role ≡ old.role
    pub task_is : new.task ≡ old.task
    pub lost_is : new.lost ≡ old.lost
    pub counts_is : new.counts ≡ old.counts
    pub stays : StaysOwn w old.visit.caller old.visit.sight new.visit.sight

  -- so are these, each in its place
  abbrev pub AreKept : World → List (Playing T) → List (Playing T) → Type 0
  AreKept w [] [] = Unit {0}
  AreKept w (p ∷ ps) (q ∷ qs) = IsKept w p q × AreKept w ps qs
  AreKept w _ _ = ⊥

  -- and have this moment
  abbrev pub AreBack : World → ℕ → List (Playing T) → List (Playing T) → Type 0
  AreBack w now [] [] = Unit {0}
  AreBack w now (p ∷ ps) (q ∷ qs) = (IsKept w p q × (q.visit.now ≡ now)) × AreBack w now ps qs
  AreBack w now _ _ = ⊥

  -- the players of each group are kept and have this moment, and its clock stays
  pub record IsBack (w : World) (now : ℕ) (old new : Grouped T) : Type 0 where
    pub players : AreBack w now old.players new.players
    pub clock_is : new.clock ≡ old.clock
    pub memory_is : new.memory ≡ old.memory

  abbrev pub GroupsAreBack : World → ℕ → List (Grouped T) → List (Grouped T) → Type 0
  GroupsAreBack w now [] [] = Unit {0}
  GroupsAreBack w now (g ∷ gs) (k ∷ ks) = IsBack w now g k × GroupsAreBack w now gs ks
  GroupsAreBack w now _ _ = ⊥

  -- the players of all groups, the clock's aside
  abbrev pub other_players : List (Grouped T) → List (Playing T)
  other_players [] = []
  other_players (g ∷ gs) = g.players ++ other_players gs

  -- the clock's player was taken out of the group of this place
  pub record IsTaken (old : List (Grouped T)) (clock : Playing T) (place : ℕ) (new : List (Grouped T)) : Type 0 where
    pub group : Grouped T
    pub there : slice_get old place ≡ Some group
    pub clock_is : group.clock ≡ Some clock
    pub new_is : new ≡ slice_set old place (record group { clock = None })

  -- the clock's player is as before, but for what it recorded by the answer
  pub record IsClockKept (ts : Tasks) (w : World) (all : List Visit) (answer : Advance) (old new : Playing T) : Type 0 where
    pub caller_is : new.visit.caller ≡ old.visit.caller
    pub names_are : new.visit.names ≡ old.visit.names
    pub role_is : new.role ≡ old.role
    pub task_is : new.task ≡ old.task
    pub lost_is : new.lost ≡ old.lost
    pub counts_is : new.counts ≡ old.counts
    pub records : ClockRecords ts w all old.visit answer new.visit

  abbrev pub ClockStays : Tasks → World → List Visit → Advance → Option (Playing T) → Option (Playing T) → Type 0
  ClockStays ts w all answer None None = Unit {0}
  ClockStays ts w all answer (Some p) (Some q) = IsClockKept ts w all answer p q
  ClockStays ts w all answer _ _ = ⊥

  -- each group has its players, each in its place
  pub record IsGroupKept (ts : Tasks) (w : World) (all : List Visit) (answer : Advance) (old new : Grouped T) : Type 0 where
    pub players : AreKept w old.players new.players
    pub clock_stays : ClockStays ts w all answer old.clock new.clock
    pub memory_is : new.memory ≡ old.memory

  -- where these are the callers of all groups
  abbrev pub EachIsKept : Tasks → World → List Visit → Advance → List (Grouped T) → List (Grouped T) → Type 0
  EachIsKept ts w all answer [] [] = Unit {0}
  EachIsKept ts w all answer (g ∷ gs) (k ∷ ks) = IsGroupKept ts w all answer g k × EachIsKept ts w all answer gs ks
  EachIsKept ts w all answer _ _ = ⊥

  abbrev pub GroupsAreKept : Tasks → World → List (Grouped T) → Advance → List (Grouped T) → Type 0
  GroupsAreKept ts w old answer new = EachIsKept ts w (visits (all_members old)) answer old new
