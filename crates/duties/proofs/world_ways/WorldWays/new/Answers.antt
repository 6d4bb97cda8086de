use Rattle.std.proofs.Common.{arith}
use Rattle.duties.proofs.Hosts.{all_kept}
use Rattle.duties.proofs.world_ways.WorldWays.new.Goals as goal

pub returns : goal.returns
returns c = all_kept _ _ (omega (arith, c.loop-n.invariant.count, c.loop-n-test.false, c.loop-n.auto.n-end, c.len-n-end.ensures)) c.loop-n.invariant.so_far
