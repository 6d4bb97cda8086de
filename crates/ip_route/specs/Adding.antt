-- Routes that are added: which are refused.
use Rattle.std.specs.Prelude.{◌≡◌, ℕ, ◌==◌, ◌&&◌, Bool, List, Option, Some, None, Result, Ok, Err, ⊤, bit_and, position, if◌then◌else◌}
use Rattle.std.specs.Option.{option_map}
use Rattle.net_base.specs.Routes.{Route, longer}
use Rattle.net_base.specs.World.{is_mask, same_network}
use Rattle.ip_route.specs.declared.error.RouteError.{RouteError}
use Rattle.ip_route.specs.declared.error.RouteError.TheVariants as error
use Rattle.ip_route.specs.declared.routes.Hop.{Hop}

-- the route to this network by the hop
abbrev pub route_by : ℕ → ℕ → Hop → Route
route_by net mask hop = record { net = net; mask = mask; iface = hop.iface; next = hop.next }

-- the ones of the mask are its first bits, and the net has no bits outside it
abbrev pub is_route_network : ℕ → ℕ → Bool
is_route_network net mask = is_mask mask && (bit_and net mask == net)

-- why a route isn't added to these: its network is none, or it is that of the route in this place
abbrev pub refused_route : Route → List Route → Option RouteError
refused_route r routes = if is_route_network r.net r.mask then option_map error.Twice (position (same_network r) routes) else Some error.BadMask

-- the answer is the refusal, or else there may have been no memory
abbrev pub AnswersAdding : Option RouteError → Result ⊤ RouteError → Type 0
AnswersAdding refused (Ok done) = refused ≡ None
AnswersAdding refused (Err error.Memory) = refused ≡ None
AnswersAdding refused (Err e) = refused ≡ Some e

-- the one of two routes with the longer mask, or the first, if there are any
abbrev pub better : Option Route → Option Route → Option Route
better None other = other
better (Some r) other = Some (longer r other)
