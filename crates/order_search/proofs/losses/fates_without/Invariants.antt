use Rattle.std.proofs.Common.{◌≡◌, ◌++◌, drop}
use Rattle.order_search.specs.Losses.{fates_without}
use Rattle.order_search.proofs.losses.fates_without.Given as goal

abbrev pub invariant-loop-frame : goal.invariant-loop-frame
invariant-loop-frame l = l.fates ++ fates_without (drop l.frame-index l.lost) l.medium ≡ fates_without l.lost l.medium
