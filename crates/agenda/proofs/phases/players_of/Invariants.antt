use Rattle.std.proofs.Common.{length}
use Rattle.std.specs.Vec.Iter.{into_iter_items, into_iter_len}
use Rattle.net_base.specs.Next.{zone_of}
use Rattle.agenda.proofs.Dealing.{Dealing}
use Rattle.agenda.proofs.phases.players_of.Given as goal

abbrev pub invariant-loop-guest : goal.invariant-loop-guest
invariant-loop-guest g l =
    Dealing (zone_of g.J.Placing.world) (length l.fn.guests.items) l.players.callers (into_iter_items l.guest-iterator) (into_iter_len l.guest-iterator)
