use Rattle.order_search.proofs.Forking.{none_lost}
use Rattle.order_search.proofs.path.Path.lost.Goals as goal

pub loop-fork-preserved : goal.loop-fork-preserved
loop-fork-preserved c = record {
  frames = c.in_ok-add_frame.ensures;
  none = λ kept.
      none_lost c.args.self.now.forks.items c.as_slice-fork-items.result.now c.loop-fork.fork-index c.in-Lost.frame c.as_slice-fork-items.ensures.value kept c.in-Lost.is;
}
