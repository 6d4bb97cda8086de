use Rattle.std.proofs.Common.{◌≡◌, drop}
use Rattle.net_base.specs.Routes.{longest_match}
use Rattle.ip_route.specs.Adding.{better}
use Rattle.ip_route.proofs.routes.longest_match.Given as goal

-- the best so far, and the longest match of what is left
abbrev pub invariant-loop-route : goal.invariant-loop-route
invariant-loop-route l = better l.best (longest_match l.ip (drop l.route-index l.routes)) ≡ longest_match l.ip l.routes
