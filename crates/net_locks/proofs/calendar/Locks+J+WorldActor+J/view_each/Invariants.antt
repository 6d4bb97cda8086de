use Rattle.std.proofs.Common.{◌≡◌, ◌≤◌, ◌+◌, ◌++◌, List, take}
use Rattle.net_base.specs.declared.actor.ActorName.{ActorName}
use Rattle.net_base.specs.Actors.{Actor}
use Rattle.net_locks.specs.Works.{noted_net}
use Rattle.net_locks.specs.Knowing.{AreMixed}
use Rattle.net_locks.proofs.calendar.Locks+J+WorldActor+J.view_each.Given as goal

-- the first of them were viewed
abbrev pub invariant-loop-actor : goal.invariant-loop-actor
invariant-loop-actor g l =
    (l.pass ≡ l.initial.pass)
    × (l.initial.dues.room ≤ l.dues.room + l.actor-index)
    × ((old : ActorName → Actor) (as' : List ActorName)
    → AreMixed g.J.Placing.world (noted_net g.J.Placing.world l.initial.pass.seen).actors old as' l.initial.dues.list
    → AreMixed g.J.Placing.world (noted_net g.J.Placing.world l.initial.pass.seen).actors old (as' ++ take l.actor-index l.actors) l.dues.list)
