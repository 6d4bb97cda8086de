use Rattle.std.proofs.Common.{◌≡◌}
use Rattle.std.specs.Vec.Iter.{into_iter_items, into_iter_len}
use Rattle.world_file.proofs.Drained.{Moves}
use Rattle.world_file.proofs.draft.finish_hosts.Given as goal

abbrev pub invariant-loop-host : goal.invariant-loop-host
invariant-loop-host l =
    Moves (into_iter_items l.initial.host-iterator) l.yielded (into_iter_items l.host-iterator) (into_iter_len l.host-iterator)
    × (l.specs.items ≡ l.yielded)
