use Rattle.std.proofs.Common.{◌≡◌, ◌≤◌, [], take, drop}
use Rattle.net_base.specs.declared.actor.ActorName.{ActorName}
use Rattle.net_base.specs.Actors.{Actor}
use Rattle.net_locks.specs.Works.{noted_net}
use Rattle.net_locks.specs.Knowing.{AreMixed, all_touched, touched_count}
use Rattle.net_locks.proofs.calendar.Locks+J+WorldActor+J.view_all.Given as goal

-- those of the first callers were viewed, and there is room for those of the others
abbrev pub invariant-loop-standing : goal.invariant-loop-standing
invariant-loop-standing g l =
    (l.pass ≡ l.initial.pass)
    × (touched_count (drop l.standing-index l.standings) ≤ l.dues.room)
    × ((old : ActorName → Actor)
    → AreMixed g.J.Placing.world (noted_net g.J.Placing.world l.initial.pass.seen).actors old [] l.initial.dues.list
    → AreMixed g.J.Placing.world (noted_net g.J.Placing.world l.initial.pass.seen).actors old (all_touched (take l.standing-index l.standings)) l.dues.list)
