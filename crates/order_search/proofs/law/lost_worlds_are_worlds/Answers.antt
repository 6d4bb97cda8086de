use Rattle.order_search.proofs.Losing.{world_without}
use Rattle.order_search.proofs.law.lost_worlds_are_worlds.Goals as goal

pub returns : goal.returns
returns c = world_without
