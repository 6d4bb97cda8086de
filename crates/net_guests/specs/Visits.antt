-- What contracts see of a guest, and what its turns do.
use Rattle.std.specs.Prelude.{◌≡◌, ◌≢◌, ℕ, true, ◌+◌, ◌⊎◌, List, [], ◌∷◌, map, Option, Some, None}
use Rattle.net_base.specs.declared.actor.ActorName.{ActorName}
use Rattle.net_base.specs.declared.history.Entry.{Entry}
use Rattle.net_base.specs.declared.history.Work.{Work}
use Rattle.net_base.specs.declared.noted.Noted.{Noted}
use Rattle.net_base.specs.declared.world.Script.{Script}
use Rattle.net_base.specs.declared.world.World.{World}
use Rattle.net_base.specs.Actors.{has_actor}
use Rattle.net_base.specs.Callers.{IsScript, caller_of}
use Rattle.net_base.specs.Duties.{Duty}
use Rattle.net_base.specs.Legal.{IsLegalBy, IsTimedBy}
use Rattle.net_base.specs.Net.{owed}
use Rattle.net_base.specs.Stamped.{In, of_actor, of_caller}
use Rattle.net_base.specs.Steps.{Ask, Names, no_names}
use Rattle.net_base.specs.Versions.{Tuples}
use Rattle.journal.specs.declared.law.Roster.{Roster}
use Rattle.journal.specs.declared.tokens.Sight.{Sight}
use Rattle.journal.specs.Closing.{plain}
use Rattle.script_task.specs.Holdings.{Holdings}
use Rattle.script_task.specs.declared.effect.Effect.{Effect}
use Rattle.net_base.specs.declared.request.Request.{Request}
use Rattle.script_task.specs.Effects.{opened_file, settles_effect}
use Rattle.net_base.specs.Requests.{planned, settled}
use Rattle.net_base.specs.Tasks.{Tasks}
use Rattle.net_locks.specs.Own.{AreNext, AreTimely, IsLegalButScripts}
use Rattle.net_locks.specs.Guests.{IsGuest, deed_at}
use Rattle.duties.specs.Marks.{Marks}
use Rattle.net_locks.specs.declared.calendar.Calendar.{Calendar}
use Rattle.net_locks.specs.declared.turn.Turn.{Turn}
use Rattle.net_locks.specs.declared.turn.Turn.TheVariants as turn
use Rattle.net_locks.specs.Rosters.{IsReplayed}
use Rattle.net_locks.specs.declared.visitor.Visitor.{Visitor}
use Rattle.net_locks.specs.Visitors.{IsVisit}
use Rattle.net_locks.specs.Turns.{HasRoom, IsFull, StaysOwn, Turned, bare, own_seen}

-- a caller, the moment, its pass, what it owes, and the names that it has bound
pub record Visit : Type 0 where
  pub caller : ℕ
  pub now : ℕ
  pub sight : Sight
  pub owed : List Duty
  pub names : Names

-- the visit of what a caller has at the locks, with the names that it has bound
abbrev pub visit_of : {J : Type 0} → Visitor J → Names → Visit
visit_of v names =
    record { caller = v.bearer.caller; now = v.bearer.now; sight = v.bearer.pass; owed = v.duties.list; names = names }

-- a guest knows what a visit keeps, and a script's the host on which it runs
pub record IsHosted (w : World) (r : Roster) (c now : ℕ) (p : Sight) (ds : List Duty) (host : ℕ) (m : Marks) (k : Calendar)
    : Type 0 where
  pub visit : IsVisit w r c now p ds m k
  pub home : (s : Script) → caller_of w c ≡ IsScript s → s.host ≡ host

-- what contracts see of what a guest carries: beside its visit the host of a script, at which conversations it recorded
-- something, and when conversations were due
pub record Carried : Type 0 where
  pub visit : Visit
  pub host : ℕ
  pub touched : Marks
  pub calendar : Calendar

-- a guest may carry it: it knows all this of its caller, whose number its pass has
abbrev pub IsComplete : World → Roster → Carried → Type 0
IsComplete w r b = IsHosted w r b.visit.caller b.visit.now b.visit.sight b.visit.owed b.host b.touched b.calendar

-- Turns.

-- a guest's turn with this work at this actor
abbrev pub TakesPasses : Tasks → World → ActorName → Work → Option ℕ → Visit → Turn → Visit → Type 0
TakesPasses ts w a work cites old answer new =
    Turned ts w (deed_at a old.caller old.now work cites) old.sight old.owed answer new.sight new.owed

-- the names after a turn with a request
abbrev pub names_after : Names → Request → Turn → Names
names_after names q (turn.Recorded stamp answer) = settled names q answer
names_after names q _ = names

-- the holdings after a turn whose reply has this effect
abbrev pub settled_by : Effect → Turn → Holdings → Holdings
settled_by e (turn.Recorded stamp answer) b = settles_effect e (opened_file e answer) b
settled_by e _ b = b

-- the turn of a request of a script's host, where nothing is owed
pub record Asked (ts : Tasks) (w : World) (h : ℕ) (q : Request) (old : Visit) (answer : Turn) (new : Visit) : Type 0 where
  pub free : old.owed ≡ []
  pub ask : Ask
  pub asks : planned h old.names q ≡ Some ask
  pub takes : TakesPasses ts w ask.actor (bare ask.event) None old answer new
  pub names : new.names ≡ names_after old.names q answer

-- what a request of a script's host did
abbrev pub Operated : Tasks → World → ℕ → Request → Visit → Turn → Visit → Type 0
Operated ts w h q old turn.Owes new = (old.owed ≢ []) × (new ≡ old)
Operated ts w h q old turn.Limit new = (old.owed ≡ []) × IsFull old.caller old.sight × (new ≡ old)
Operated ts w h q old turn.Memory new = (old.owed ≡ []) × HasRoom old.caller old.sight × (new ≡ old)
Operated ts w h q old answer new = Asked ts w h q old answer new

-- a guest is who it was before, its pass, duties and names aside
pub record IsSameVisit (old new : Visit) : Type 0 where
  pub caller : new.caller ≡ old.caller
  pub now : new.now ≡ old.now

-- The end.

abbrev pub HasGuest : ℕ → List Visit → Type 0
HasGuest c vs = (v : Visit) × In v vs × (v.caller ≡ c)

-- the guest's caller is with the pass, and has recorded nothing more
pub record IsWith (w : World) (r : Roster) (v : Visit) (p : Sight) : Type 0 where
  pub guest : IsGuest w r v.caller p v.owed
  pub stays : StaysOwn w v.caller v.sight p

-- the actor's entries in the history are those of its book
pub record HasBook (w : World) (a : ActorName) (h : List Entry) : Type 0 where
  pub list : List (ℕ × Noted)
  pub all : of_actor a h ≡ map plain list
  pub replayed : IsReplayed w a list

-- the history of these guests: each caller's entries are those that its guest knows, and it owes after them what that knows;
-- each actor's are those of its book; and it is legal, but that the entries of scripts are their next events; legal where they are, and timed where each
-- move comes in time
pub record Finished (ts : Tasks) (w : World) (vs : List Visit) (h : List Entry) : Type 0 where
  pub lists : (v : Visit) → In v vs → of_caller v.caller h ≡ map plain (own_seen v.caller v.sight)
  pub owes : (v : Visit) → In v vs → owed w h v.caller ≡ v.owed
  pub books : (a : ActorName) → has_actor w a ≡ true → HasBook w a h
  pub but_scripts : IsLegalButScripts w h
  pub legal : ((v : Visit) → In v vs → AreNext ts w v.caller v.sight.seen) → IsLegalBy ts w h
  pub timed : ((v : Visit) → In v vs → AreTimely ts w v.caller v.sight.seen) → IsTimedBy ts w h

-- the passes of these guests were taken in: who was with the pass is still, and the guests' callers are
pub record GathersPasses (w : World) (r : Roster) (p : Sight) (vs : List Visit) (p' : Sight) : Type 0 where
  pub kept : (v : Visit) → IsWith w r v p → IsWith w r v p'
  pub taken : (v : Visit) → In v vs → IsWith w r v p'

-- the passes are being taken in, and those of these guests are left
pub record Gathering (w : World) (r : Roster) (p : Sight) (vs : List Visit) (p' : Sight) (vs' : List Visit) : Type 0 where
  pub kept : (v : Visit) → IsWith w r v p → IsWith w r v p'
  pub taken : (v : Visit) → In v vs → IsWith w r v p' ⊎ In v vs'

-- The beginning.

-- the guest of a caller to whom nothing has happened, whose `dns` answers from this database
pub record IsFresh (zone : Tuples) (c : ℕ) (v : Visit) : Type 0 where
  pub caller : v.caller ≡ c
  pub now : v.now ≡ 0
  pub seen : v.sight.seen ≡ []
  pub owed : v.owed ≡ []
  pub names : v.names ≡ no_names zone

-- those of the callers from c on
abbrev pub AreFresh : Tuples → ℕ → List Visit → Type 0
AreFresh zone c [] = Unit {0}
AreFresh zone c (v ∷ vs) = IsFresh zone c v × AreFresh zone (c + 1) vs
