use Rattle.order_search.proofs.ToldRuns.{ended_is}
use Rattle.order_search.proofs.ended.ended_of.Goals as goal

pub returns : goal.returns
returns c =
    ended_is c.args.world.now c.args.walk.now c.args.lost.now _ c.requires.walk c.requires.ended c.replace-history.ensures.value c.in_ok-summary.ensures
    c.end_of-end.ensures c.in_ok-lost.ensures.items
