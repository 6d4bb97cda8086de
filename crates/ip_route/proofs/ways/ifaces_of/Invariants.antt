use Rattle.std.proofs.Common.{◌≡◌, ◌++◌, drop, map}
use Rattle.net_base.specs.declared.world.HostSpec.{HostSpec}
use Rattle.ip_route.proofs.ways.ifaces_of.Given as goal

abbrev pub invariant-loop-host : goal.invariant-loop-host
invariant-loop-host l = l.hosts.items ++ map (λ (h : HostSpec). h.ifaces) (drop l.host-index l.host-items) ≡ map (λ (h : HostSpec). h.ifaces) l.host-items
