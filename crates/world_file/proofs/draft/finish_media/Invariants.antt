use Rattle.std.proofs.Common.{◌≡◌}
use Rattle.std.specs.Vec.Iter.{into_iter_items, into_iter_len}
use Rattle.world_file.proofs.Drained.{Moves}
use Rattle.world_file.proofs.draft.finish_media.Given as goal

abbrev pub invariant-loop-medium : goal.invariant-loop-medium
invariant-loop-medium l =
    Moves (into_iter_items l.initial.medium-iterator) l.yielded (into_iter_items l.medium-iterator) (into_iter_len l.medium-iterator)
    × (l.specs.items ≡ l.yielded)
