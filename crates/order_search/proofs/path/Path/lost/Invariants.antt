use Rattle.std.proofs.Common.{◌≡◌, []}
use Rattle.order_search.specs.Choices.{IsKept}
use Rattle.order_search.specs.Losses.{AreFrames}
use Rattle.order_search.proofs.path.Path.lost.Given as goal

abbrev pub invariant-loop-fork : goal.invariant-loop-fork
invariant-loop-fork l = record {
  frames : AreFrames l.lost.items;
  none : IsKept l.self.forks.items → l.lost.items ≡ [];
}
