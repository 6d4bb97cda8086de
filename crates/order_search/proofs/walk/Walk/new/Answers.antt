use Rattle.std.proofs.Common.{refl}
use Rattle.order_search.proofs.Walking.{opening}
use Rattle.order_search.proofs.walk.Walk.new.Goals as goal

pub returns-clause-is : goal.returns-clause-is
returns-clause-is c = opening c.args.world.now _ c.in_ok-runner.ensures.tracks c.in_ok-runner.ensures.empty c.new-history.ensures refl refl c.in_ok-marks.ensures
