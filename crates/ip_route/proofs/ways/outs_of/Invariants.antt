use Rattle.std.proofs.Common.{◌≡◌, ◌++◌, drop, map}
use Rattle.ip_route.specs.Kept.{out_of}
use Rattle.ip_route.proofs.ways.outs_of.Given as goal

abbrev pub invariant-loop-iface : goal.invariant-loop-iface
invariant-loop-iface l = l.outs.items ++ map (out_of l.world) (drop l.iface-index l.ifaces) ≡ map (out_of l.world) l.ifaces
