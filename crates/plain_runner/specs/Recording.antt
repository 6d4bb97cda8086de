-- Recording a caller's turn.
use Rattle.std.specs.Prelude.{◌≡◌, ℕ, ◌++◌, List, [], ◌∷◌, length, Option, Some, None, Vec}
use Rattle.ip_route.specs.Kept.{HostWays}
use Rattle.net_base.specs.declared.actor.ActorName.{ActorName}
use Rattle.net_base.specs.declared.event.Event.{Event}
use Rattle.net_base.specs.declared.history.Entry.{Entry}
use Rattle.net_base.specs.declared.history.Outcome.{Outcome}
use Rattle.net_base.specs.declared.history.Work.{Work}
use Rattle.net_base.specs.declared.world.World.{World}
use Rattle.net_base.specs.ActorStep.{Step}
use Rattle.net_base.specs.Actors.{Actor}
use Rattle.net_base.specs.Duties.{duties}
use Rattle.net_base.specs.Legal.{IsLegal, IsMove, IsTimed, MayFollow}
use Rattle.net_base.specs.Net.{after, moment}
use Rattle.net_base.specs.World.{IsWorld}
use Rattle.duties.specs.declared.due.Due.{Due}
use Rattle.duties.specs.Owing.{GivesStep}
use Rattle.duties.specs.Queue.{AddsDuty, Queue}
use Rattle.duties.specs.Ticking.{dues_of}
use Rattle.duties.specs.WaysOf.{AreWaysOfWorld}
use Rattle.net_actors.specs.Together.{AreActors, Numbered}
use Rattle.plain_runner.specs.Callers.{IsCallerKept, IsTurning}
use Rattle.plain_runner.specs.Turns.{IsReadyTurn}
use Rattle.plain_runner.specs.declared.caller.Caller.{Caller}
use Rattle.plain_runner.specs.declared.recording.Coming.{Coming}
use Rattle.plain_runner.specs.declared.turn.Turn.{Turn}

-- a history of a world, legal and timed
pub record IsHistory (w : World) (h : List Entry) : Type 0 where
  pub world : IsWorld w
  pub legal : IsLegal w h
  pub timed : IsTimed w h

-- the turn of a caller comes after this history, and what is kept is of it
pub record ComesNext (w : World) (h : List Entry) (coming : Coming) (t : Turn) (k : Caller) (net : Numbered)
    (ways : List HostWays) : Type 0 where
  pub history : IsHistory w h
  pub turning : IsTurning w h coming.caller t.cites k
  pub ready : IsReadyTurn w h coming.caller t
  pub are : AreActors w net (after w h).actors
  pub ways_are : AreWaysOfWorld w ways
  pub stamp_is : coming.stamp ≡ length h
  pub now_is : coming.now ≡ moment w h

-- so of some world and history
pub record CanRecord (coming : Coming) (t : Turn) (k : Caller) (net : Numbered) (ways : List HostWays) : Type 0 where
  pub world : World
  pub past : List Entry
  pub comes : ComesNext world past coming t k net ways

-- the entry of the turn, and what is kept after it
pub record Recorded (w : World) (h : List Entry) (c : ℕ) (t : Turn) (k : Caller) (net : Numbered) (x : Entry)
    : Type 0 where
  pub follows : MayFollow w h x
  pub caller_is : x.caller ≡ c
  pub actor_is : x.actor ≡ t.actor
  pub event_is : x.event ≡ t.work.event
  pub kept : IsCallerKept w (h ++ x ∷ []) c k
  pub are : AreActors w net (after w (h ++ x ∷ [])).actors

-- in whatever world and after whatever history it came, what was recorded is this
abbrev pub Records : Coming → Turn → Caller → Caller → Numbered → Numbered → List HostWays → Entry → Type 0
Records coming t old new net after ways x =
    (w : World) (h : List Entry) → ComesNext w h coming t old net ways → Recorded w h coming.caller t new after x

-- What a turn owes.

-- a move is told when the conversations of the world are due
abbrev pub DuesOf : {Z : Type 0} → World → (ActorName → Actor) → ActorName → Event → Option (Vec Due Z) → Type 0
DuesOf w actors a e None = IsMove a e → ⊥
DuesOf w actors a e (Some dues) = IsMove a e × (dues.items ≡ dues_of w actors)

-- where the dues are those of the world's conversations, what the step owes is owed after what was owed before
abbrev pub OwesAll : {Z : Type 0} → List HostWays → ActorName → ℕ → Work → Outcome → Option (Vec Due Z) → Queue → Queue
    → Type 0
OwesAll ways a stamp work o dues old new =
    (w : World) (actors : ActorName → Actor) (step : Step Actor)
    → AreWaysOfWorld w ways → DuesOf w actors a work.event dues → GivesStep w a work o step
    → AddsDuty old new (duties w actors a stamp work step)
