use Rattle.std.proofs.Common.{refl}
use Rattle.order_search.proofs.ToldRuns.{telling_is}
use Rattle.order_search.proofs.tellings.telling_of.Goals as goal

pub returns-clause-is : goal.returns-clause-is
returns-clause-is c = telling_is c.args.world.now c.args.walk.now _ c.requires.walk c.requires.ended refl c.in_ok-summary.ensures c.in_ok-results.ensures c.end_of-end.ensures
