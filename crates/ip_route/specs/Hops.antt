-- Where packets go next.
use Rattle.std.specs.Prelude.{ℕ, Some, unwrap_or}
use Rattle.net_base.specs.Routes.{Route}
use Rattle.ip_route.specs.declared.routes.Hop.{Hop}

-- the hop of a packet to the address over the route, whose next address is its own where the route has no gateway
abbrev pub hop_from : ℕ → Route → Hop
hop_from ip r = record { iface = r.iface; next = Some (unwrap_or r.next ip) }
