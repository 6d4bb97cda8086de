use Rattle.std.proofs.Common.{◌≡◌, ◌++◌, drop}
use Rattle.net_base.specs.Routes.{iface_routes}
use Rattle.ip_route.proofs.routes.networks_of.Given as goal

abbrev pub invariant-loop-n : goal.invariant-loop-n
invariant-loop-n l = l.routes.items ++ iface_routes l.n (drop l.n l.ifaces) ≡ iface_routes 0 l.ifaces
