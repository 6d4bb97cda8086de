use Rattle.std.proofs.Common.{refl}
use Rattle.plain_runner.proofs.Opening.{opening_tracks}
use Rattle.plain_runner.proofs.runner.Runner.new.Goals as goal

pub returns-clause-tracks : goal.returns-clause-tracks
returns-clause-tracks c = opening_tracks c.args.world.now _ c.requires c.fresh.ensures refl refl c.in_ok-callers.ensures c.in_ok-net.ensures c.in_ok-ways.ensures

pub returns-clause-empty : goal.returns-clause-empty
returns-clause-empty c = c.fresh.ensures
