use Rattle.std.proofs.Common.{◌≡◌, ◌++◌, drop, map}
use Rattle.order_search.specs.Losses.{medium_without}
use Rattle.order_search.proofs.losses.media_without.Given as goal

abbrev pub invariant-loop-medium : goal.invariant-loop-medium
invariant-loop-medium l = l.kept ++ map (medium_without l.lost) (drop l.medium-index l.media) ≡ map (medium_without l.lost) l.media
