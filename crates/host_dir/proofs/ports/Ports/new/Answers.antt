use Rattle.std.proofs.Common.{arith}
use Rattle.host_dir.proofs.Drawn.{none_yet}
use Rattle.host_dir.proofs.ports.Ports.new.Goals as goal

pub invariant_of-result : goal.invariant_of-result
invariant_of-result c = (omega arith, omega arith, none_yet 5000 c.new.result.keys)
