-- Which routes are refused.
use Rattle.std.proofs.Common.{◌≡◌, ℕ, true, List, Option, Some, None, ap, ◌∙◌}
use Rattle.std.specs.List.{position_from}
use Rattle.std.specs.Option.{option_map}
use Rattle.std.proofs.lemmas.Iterator.Adapters.{position_from-zero}
use Rattle.net_base.specs.Routes.{Route}
use Rattle.net_base.specs.World.{same_network}
use Rattle.ip_route.specs.declared.error.RouteError.TheVariants as error
use Rattle.ip_route.specs.declared.routes.Hop.{Hop}
use Rattle.ip_route.specs.Adding.{is_route_network, refused_route, route_by}

-- where the network is one, the place of the route that has it already
place_is : (r : Route) (routes : List Route) (o : Option ℕ) → is_route_network r.net r.mask ≡ true → position_from (same_network r) 0 routes ≡ o
    → refused_route r routes ≡ option_map error.Twice o
place_is r routes o network is = rw network (ap (option_map error.Twice) (position_from-zero (same_network r) routes ∙ is))

pub twice : (net mask n : ℕ) (hop : Hop) (routes : List Route) → is_route_network net mask ≡ true
    → position_from (same_network (route_by net mask (record { iface = 0; next = None }))) 0 routes ≡ Some n
    → refused_route (route_by net mask hop) routes ≡ Some (error.Twice n)
twice net mask n hop routes network is = place_is (route_by net mask hop) routes (Some n) network is

pub none : (net mask : ℕ) (hop : Hop) (routes : List Route) → is_route_network net mask ≡ true
    → position_from (same_network (route_by net mask (record { iface = 0; next = None }))) 0 routes ≡ None
    → refused_route (route_by net mask hop) routes ≡ None
none net mask hop routes network is = place_is (route_by net mask hop) routes None network is
