use Rattle.std.proofs.Common.{◌≡◌, ◌++◌, drop, filter_map}
use Rattle.net_base.specs.Routes.{line_route}
use Rattle.ip_route.proofs.routes.Routes.of_host.Given as goal

abbrev pub invariant-loop-line : goal.invariant-loop-line
invariant-loop-line l =
    l.routes.items ++ filter_map (line_route l.networks.items) (drop l.line-index l.line-items)
    ≡ l.initial.routes.items ++ filter_map (line_route l.networks.items) l.line-items
