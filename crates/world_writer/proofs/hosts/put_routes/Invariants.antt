use Rattle.std.proofs.Common.{◌≡◌, ◌++◌, drop, map}
use Rattle.world_text.specs.WorldSpelling.{laid, line_of_route}
use Rattle.world_writer.proofs.hosts.put_routes.Given as goal

abbrev pub invariant-loop-route : goal.invariant-loop-route
invariant-loop-route l = l.initial.out ++ laid (map line_of_route l.routes) ≡ l.out ++ laid (map line_of_route (drop l.route-index l.routes))
