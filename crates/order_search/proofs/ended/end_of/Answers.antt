use Rattle.order_search.proofs.ToldRuns.{end_is}
use Rattle.order_search.proofs.ended.end_of.Goals as goal

pub returns : goal.returns
returns c = end_is c.args.world.now c.args.walk.now c.end.result c.requires c.end.ensures
