-- Views at one front, where the net of the works is that of the definitions.
use Rattle.std.proofs.Common.{◌≡◌, ℕ, List, Option, Some, None, is_some, refl, ap, ◌∙◌}
use Rattle.std.specs.Option.{option_map}
use Rattle.net_base.specs.declared.actor.ActorName.{ActorName}
use Rattle.net_base.specs.declared.history.Work.{Work}
use Rattle.net_base.specs.declared.noted.Noted.{Noted}
use Rattle.net_base.specs.declared.world.World.{World}
use Rattle.net_base.specs.ActorStep.{Step}
use Rattle.net_base.specs.Actors.{Actor, actor_step}
use Rattle.net_base.specs.Duties as duties
use Rattle.locked.specs.Acts.{state_at}
use Rattle.net_locks.specs.Named.{Named, named, named_step, named_opening, answer_in, named_due, named_generation}
use Rattle.net_locks.specs.Works.{noted_net}

pub some_under : (a : ActorName) (t : Option (Step Actor)) → is_some (option_map (named_step a) t) ≡ is_some t
some_under a None = refl
some_under a (Some s) = refl

module _ (state_is : (w : World) (log : List Noted) (a : ActorName) → state_at (named_opening w) (answer_in w) a log ≡ named a ((noted_net w log).actors a))
    (w : World) (log : List Noted) where
  -- what is ready at a lock is ready in the net of the works
  pub ready_is : (a : ActorName) (now : ℕ) (work : Work)
      → is_some (answer_in w (state_at (named_opening w) (answer_in w) a log) now work) ≡ is_some (actor_step w a ((noted_net w log).actors a) now work)
  ready_is a now work =
      ap (λ (q : Named). is_some (answer_in w q now work)) (state_is w log a) ∙ some_under a (actor_step w a ((noted_net w log).actors a) now work)

  pub due_is : (a : ActorName) → named_due (state_at (named_opening w) (answer_in w) a log) ≡ duties.due_of ((noted_net w log).actors a)
  due_is a = ap named_due (state_is w log a)

  pub generation_is : (a : ActorName) → named_generation (state_at (named_opening w) (answer_in w) a log) ≡ duties.generation_of ((noted_net w log).actors a)
  generation_is a = ap named_generation (state_is w log a)
