use Rattle.order_search.proofs.Goers.{nobody_ends, none_weaker}
use Rattle.order_search.proofs.going.first_goer.Goals as goal

pub returns-clause-none : goal.returns-clause-none
returns-clause-none c = none_weaker c.next_goer.result (nobody_ends c.args.world.now c.args.runner.now c.requires) c.next_goer.ensures.none
