use Rattle.std.specs.Vec.Iter.{into_iter_items, into_iter_len}
use Rattle.host_net.specs.Groups.{all_members, visits}
use Rattle.agenda.proofs.Backing.{Backing}
use Rattle.agenda.proofs.tasks.ended_of.Given as goal

-- the tasks of the first parts are back
abbrev pub invariant-loop-part : goal.invariant-loop-part
invariant-loop-part g l =
    Backing g.T.OwnTask.asks g.T.OwnTask.after g.T.OwnTask.Keeps g.J.Placing.tasks g.J.Placing.world (visits (all_members l.fn.players.groups))
    (into_iter_items l.part-iterator) (into_iter_len l.part-iterator) l.guests.items l.tasks.items
