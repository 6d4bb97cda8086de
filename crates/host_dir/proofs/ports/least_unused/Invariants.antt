use Rattle.host_dir.specs.Ports.{AreUsed}
use Rattle.host_dir.proofs.ports.least_unused.Given as goal

-- the ports before this one are used
abbrev pub invariant-loop-port : goal.invariant-loop-port
invariant-loop-port l = AreUsed l.first l.port l.used.keys
