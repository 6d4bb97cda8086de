-- An actor of a world with its name: what lies under its lock.
use Rattle.std.specs.Prelude.{ℕ, Option}
use Rattle.std.specs.Option.{option_map}
use Rattle.net_base.specs.declared.actor.ActorName.{ActorName}
use Rattle.net_base.specs.declared.history.Work.{Work}
use Rattle.net_base.specs.declared.world.World.{World}
use Rattle.net_base.specs.ActorStep.{Step}
use Rattle.net_base.specs.Actors.{Actor, opening_actor, actor_step}
use Rattle.net_base.specs.Duties as duties

pub record Named : Type 0 where
  pub name : ActorName
  pub actor : Actor

abbrev pub named : ActorName → Actor → Named
named a s = record { name = a; actor = s }

-- the actor of this name, to which nothing has happened
abbrev pub named_opening : World → ActorName → Named
named_opening w a = named a (opening_actor w.timers a)

-- the step of an actor, which keeps its name
abbrev pub named_step : ActorName → Step Actor → Step Named
named_step a t = record { state = named a t.state; outcome = t.outcome }

-- what the actor answers in the world
abbrev pub answer_in : World → Named → ℕ → Work → Option (Step Named)
answer_in w s now work = option_map (named_step s.name) (actor_step w s.name s.actor now work)

abbrev pub named_due : Named → Option ℕ
named_due s = duties.due_of s.actor

abbrev pub named_generation : Named → ℕ
named_generation s = duties.generation_of s.actor
