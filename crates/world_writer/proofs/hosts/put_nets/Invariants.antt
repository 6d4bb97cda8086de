use Rattle.std.proofs.Common.{◌≡◌, ◌++◌, drop, map}
use Rattle.net_base.specs.Paths.{proto_name}
use Rattle.world_writer.specs.Written.{written_behind}
use Rattle.world_writer.proofs.hosts.put_nets.Given as goal

abbrev pub invariant-loop-proto : goal.invariant-loop-proto
invariant-loop-proto l = l.initial.out ++ written_behind (map proto_name l.nets) ≡ l.out ++ written_behind (map proto_name (drop l.proto-index l.nets))
