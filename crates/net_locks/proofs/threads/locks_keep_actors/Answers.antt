use Rattle.std.specs.Prelude.{List}
use Rattle.net_base.specs.declared.actor.ActorName.{ActorName}
use Rattle.net_base.specs.declared.noted.Noted.{Noted}
use Rattle.net_base.specs.declared.world.World.{World}
use Rattle.net_locks.proofs.Nets.{state_is}
use Rattle.net_locks.proofs.Views.{ready_is, due_is, generation_is}
use Rattle.net_locks.proofs.threads.locks_keep_actors.Goals as goal

pub returns : goal.returns
returns c =
    let keeps = λ (w : World) (log : List Noted) (a : ActorName). state_is w c.same_actors_are_equal.ensures log a in
    record { state = keeps; ready = ready_is keeps; due = due_is keeps; generation = generation_is keeps }
