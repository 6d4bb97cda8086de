use Rattle.order_search.proofs.ToldRuns.{status_is}
use Rattle.order_search.proofs.ended.summary_of_walk.Goals as goal

pub returns : goal.returns
returns c = c.summary_by.ensures.summary (status_is c.args.world.now c.args.walk.now _ c.requires c.answered-answered.ensures c.end-end.ensures)
