-- What a step owes, by its work and its outcome.
use Rattle.std.specs.Prelude.{◌≡◌, ℕ, ◌+◌, List, length, option_to_list, Option, Some, None, if◌then◌else◌}
use Rattle.ip_route.specs.Kept.{HostWays}
use Rattle.net_base.specs.declared.actor.ActorName.{ActorName}
use Rattle.net_base.specs.declared.history.Outcome.{Outcome}
use Rattle.net_base.specs.declared.history.Work.{Work}
use Rattle.net_base.specs.declared.reply.Reply.{Reply}
use Rattle.net_base.specs.declared.reply.Reply.TheVariants as reply
use Rattle.net_base.specs.declared.world.World.{World}
use Rattle.net_base.specs.ActorStep.{Step}
use Rattle.net_base.specs.Actors.{Actor, actor_step}
use Rattle.net_base.specs.Duties.{Duty, duties}
use Rattle.net_base.specs.Legal.{IsMove}
use Rattle.duties.specs.Queue.{Queue, AddsDuty}
use Rattle.duties.specs.WaysOf.{AreWaysOfWorld}

-- the outcome, its copy aside
abbrev pub without_copy : Outcome → Outcome
without_copy o = record o { copy = None }

-- the step is one that the actor's table gives to the work, and its outcome, the copy aside, is this one
pub record GivesStep (w : World) (a : ActorName) (work : Work) (o : Outcome) (step : Step Actor) : Type 0 where
  pub before : Actor
  pub now : ℕ
  pub gives : actor_step w a before now work ≡ Some step
  pub outcome : without_copy step.outcome ≡ without_copy o

-- the entry of this stamp owes what the definitions say, after what was owed before: in each world of which the ways
-- are, for each step that gives this outcome, and wherever the other actors stand; but not the ticks of a move
abbrev pub Owes : List HostWays → ActorName → ℕ → Work → Outcome → Queue → Queue → Type 0
Owes ks a stamp work o old new =
    (w : World) → AreWaysOfWorld w ks → (actors : ActorName → Actor) (step : Step Actor)
    → GivesStep w a work o step → (IsMove a work.event → ⊥) → AddsDuty old new (duties w actors a stamp work step)

-- a part of what is owed is added, in each world of which the ways are
abbrev pub AddsIn : List HostWays → Queue → Queue → (World → List Duty) → Type 0
AddsIn ks old new added = (w : World) → AreWaysOfWorld w ks → AddsDuty old new (added w)

-- How much is owed at most.

abbrev pub if_any : {A : Type 0} → Option A → ℕ
if_any x = length (option_to_list x)

-- a follow-up, or a close for each call
abbrev pub most_following : Reply → ℕ
most_following (reply.Calls calls) = length calls
most_following _ = 1

-- how much an outcome owes at most, ticks aside
abbrev pub most_owed : Outcome → ℕ
most_owed o = if_any o.emit + most_following o.reply + if_any o.taken + (if o.ended then 1 else 0)
