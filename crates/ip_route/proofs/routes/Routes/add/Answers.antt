use Rattle.std.proofs.Common.{rules}
use Rattle.ip_route.proofs.Refusals.{twice}
use Rattle.ip_route.proofs.routes.Routes.add.Goals as goal

-- the network has a route
pub returns-in-Some-clause-refused : goal.returns-in-Some-clause-refused
returns-in-Some-clause-refused c =
    twice c.args.net c.args.mask c.in-Some.place c.args.hop c.args.self.now (search rules) (search rules)
