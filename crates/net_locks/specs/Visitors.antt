-- What a caller has with it at the locks, and what its turn leaves of that.
--     IsVisit        what is known of it
--     Visited        what its turn did
use Rattle.std.specs.Prelude.{◌≡◌, ℕ, ◌<◌, ◌≤◌, ◌^◌, List, Option}
use Rattle.net_base.specs.declared.actor.ActorName.{ActorName}
use Rattle.net_base.specs.declared.history.Outcome.{Outcome}
use Rattle.net_base.specs.declared.history.Work.{Work}
use Rattle.net_base.specs.declared.world.World.{World}
use Rattle.net_base.specs.Duties.{Duty}
use Rattle.net_base.specs.Legal.{IsInTimeBy}
use Rattle.net_base.specs.Stamped.{moment_noted}
use Rattle.net_base.specs.Tasks.{Tasks}
use Rattle.journal.specs.declared.law.Roster.{Roster}
use Rattle.journal.specs.declared.tokens.Sight.{Sight}
use Rattle.locked.specs.declared.guarded.Answer.{Answer}
use Rattle.locked.specs.declared.guarded.Answer.TheVariants as answered
use Rattle.duties.specs.Marks.{Covers, Marks}
use Rattle.duties.specs.Owing.{most_owed}
use Rattle.net_locks.specs.Guests.{HasRecorded, IsGuest, IsGuestTurn, GuestRecords, deed_at}
use Rattle.net_locks.specs.Works.{noted_net}
use Rattle.net_locks.specs.declared.calendar.Calendar.{Calendar}
use Rattle.net_locks.specs.declared.turn.Turn.{Turn}
use Rattle.net_locks.specs.declared.turn.Turn.TheVariants as turn
use Rattle.net_locks.specs.declared.visitor.Bearer.{Bearer}
use Rattle.net_locks.specs.declared.visitor.Visitor.{Visitor}
use Rattle.net_locks.specs.Knowing.{IsKnown}
use Rattle.net_locks.specs.Turns.{Turned, own_seen}

-- a caller knows its duties and the moment, at which conversations it recorded something, and when conversations were due
pub record IsVisit (w : World) (r : Roster) (c now : ℕ) (p : Sight) (ds : List Duty) (m : Marks) (k : Calendar) : Type 0 where
  pub guest : IsGuest w r c p ds
  pub here : now ≡ moment_noted p.seen
  pub early : now < 2 ^ 63
  pub covers : Covers (own_seen c p) m
  pub known : IsKnown w p.seen k

-- a visitor may have it all: it knows this of its caller, whose number its pass has
abbrev pub IsVisitor : {J : Type 0} → World → Roster → Visitor J → Type 0
IsVisitor w r v = IsVisit w r v.bearer.caller v.bearer.now v.bearer.pass v.duties.list v.touched v.calendar

-- a bearer is still of its caller and at its moment
pub record IsSameBearer {J : Type 0} (old new : Bearer J) : Type 0 where
  pub caller : new.caller ≡ old.caller
  pub now : new.now ≡ old.now

-- what a turn of the visitor with this work at this actor did, by its answer
abbrev pub Visited : {J : Type 0} → Tasks → World → ActorName → Work → Option ℕ → Visitor J → Turn → Visitor J → Type 0
Visited ts w a work cites old t new =
    Turned ts w (deed_at a old.bearer.caller old.bearer.now work cites) old.bearer.pass old.duties.list t
    new.bearer.pass new.duties.list

-- One try to record a work.

-- the entry of this stamp was recorded as a turn of the caller that owed these
pub record Does {J : Type 0} (ts : Tasks) (w : World) (r : Roster) (a : ActorName) (work : Work) (cites : Option ℕ) (old : Bearer J)
    (ds : List Duty) (stamp : ℕ) (o : Outcome) (new : Bearer J) : Type 0 where
  pub records : GuestRecords w r (deed_at a old.caller old.now work cites) old.pass stamp o new.pass
  pub recorded : HasRecorded w r (deed_at a old.caller old.now work cites) records.past old.pass ds stamp o new.pass
  pub in_time : IsInTimeBy ts (noted_net w records.past) w work.event
  pub few : most_owed o ≤ 13

-- nothing was recorded, so that the turn is this one, and the caller that owed these owes them still
pub record Misses {J : Type 0} (ts : Tasks) (w : World) (r : Roster) (a : ActorName) (work : Work) (cites : Option ℕ) (old : Bearer J)
    (ds : List Duty) (t : Turn) (new : Bearer J) : Type 0 where
  pub guest : IsGuest w r old.caller new.pass ds
  pub turned : Turned ts w (deed_at a old.caller old.now work cites) old.pass ds t new.pass ds
  pub alone : own_seen old.caller new.pass ≡ own_seen old.caller old.pass

-- by the answer at the lock, as a turn of the caller whatever it owes
abbrev pub Attempted : {J : Type 0} → Tasks → World → Roster → ActorName → Work → Option ℕ → Bearer J → Answer → Bearer J → Type 0
Attempted ts w r a work cites old (answered.Done stamp o) new =
    (ds : List Duty) → IsGuest w r old.caller old.pass ds → IsGuestTurn w old.caller old.pass ds a work cites
    → Does ts w r a work cites old ds stamp o new
Attempted ts w r a work cites old (answered.NotReady front) new =
    (ds : List Duty) → IsGuest w r old.caller old.pass ds → Misses ts w r a work cites old ds turn.NotReady new
Attempted ts w r a work cites old answered.Memory new =
    (ds : List Duty) → IsGuest w r old.caller old.pass ds → Misses ts w r a work cites old ds turn.Memory new
