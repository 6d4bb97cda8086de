-- The routes of a host, and the ways that its packets go.
use Rattle.std.specs.Prelude.{ℕ, ◌+◌, ◌==◌, Bool, false, ◌&&◌, List, [], ◌∷◌, ◌++◌, Option, Some, None, unwrap_or, slice_get, position, find, filter_map, bit_and, nat_lt, if◌then◌else◌}
use Rattle.std.specs.List.{list_any}
use Rattle.std.specs.Option.{option_map, option_map_or, option_and_then}
use Rattle.net_base.specs.declared.world.HostSpec.{HostSpec}
use Rattle.net_base.specs.declared.world.Iface.{Iface}
use Rattle.net_base.specs.declared.world.MediumSpec.{MediumSpec}
use Rattle.net_base.specs.declared.world.RouteLine.{RouteLine}
use Rattle.net_base.specs.declared.world.World.{World}

-- a route to a network, by the number of an interface and perhaps a gateway
pub record Route : Type 0 where
  pub net : ℕ
  pub mask : ℕ
  pub iface : ℕ
  pub next : Option ℕ

-- the route's network contains the address
abbrev pub route_contains : ℕ → Route → Bool
route_contains ip r = bit_and ip r.mask == r.net

-- the one of two routes with the longer mask, or the first
abbrev pub longer : Route → Option Route → Route
longer r None = r
longer r (Some s) = if nat_lt r.mask s.mask then s else r

-- the route with the longest mask that matches
abbrev pub longest_match : ℕ → List Route → Option Route
longest_match ip [] = None
longest_match ip (r ∷ rs) = if route_contains ip r then Some (longer r (longest_match ip rs)) else longest_match ip rs

-- the networks of interfaces, which are numbered from n
abbrev pub iface_routes : ℕ → List Iface → List Route
iface_routes n [] = []
iface_routes n (i ∷ is) = record { net = bit_and i.ip i.mask; mask = i.mask; iface = n; next = None } ∷ iface_routes (n + 1) is

-- a route line goes out by the interface whose network has the longest mask that matches its gateway
abbrev pub line_route : List Route → RouteLine → Option Route
line_route networks l =
    option_map (λ (r : Route). record { net = l.net; mask = l.mask; iface = r.iface; next = Some l.gateway }) (longest_match l.gateway networks)

-- all routes of a host: its interfaces' networks, and its route lines
abbrev pub host_routes : HostSpec → List Route
host_routes h = iface_routes 0 h.ifaces ++ filter_map (line_route (iface_routes 0 h.ifaces)) h.routes

-- Ways.

-- a way out: the medium, the station if there is one, the source address, the mtu
pub record Way : Type 0 where
  pub medium : ℕ
  pub station : Option ℕ
  pub source : ℕ
  pub mtu : ℕ

-- the mtu of a medium, by its number
abbrev pub mtu_of : World → ℕ → ℕ
mtu_of w m = option_map_or (λ (s : MediumSpec). s.mtu) (slice_get w.media m) 0

-- the host has the address
abbrev pub has_ip : ℕ → HostSpec → Bool
has_ip ip h = list_any (λ (i : Iface). i.ip == ip) h.ifaces

-- the host has the address on the medium
abbrev pub stands_at : ℕ → ℕ → HostSpec → Bool
stands_at medium ip h = list_any (λ (i : Iface). (i.medium == medium) && (i.ip == ip)) h.ifaces

-- the host with this address on the medium
abbrev pub station_of : World → ℕ → ℕ → Option ℕ
station_of w medium ip = position (stands_at medium ip) w.hosts

-- the way by an interface to the next address
abbrev pub way_by : World → ℕ → Iface → Way
way_by w next i = record { medium = i.medium; station = station_of w i.medium next; source = i.ip; mtu = mtu_of w i.medium }

-- the way that a route names to an address, which is the next one where the route has no gateway
abbrev pub way_of_route : World → HostSpec → ℕ → Route → Option Way
way_of_route w h ip r = option_map (way_by w (unwrap_or r.next ip)) (slice_get h.ifaces r.iface)

-- the way of a host to its own address, over that address's medium
abbrev pub way_to_itself : World → ℕ → Iface → Way
way_to_itself w n i = record { medium = i.medium; station = Some n; source = i.ip; mtu = mtu_of w i.medium }

-- the way from a host to an address, where the interface is the host's own with this address
abbrev pub way_from : Option Iface → World → ℕ → HostSpec → ℕ → Option Way
way_from (Some i) w n h ip = Some (way_to_itself w n i)
way_from None w n h ip = option_and_then (way_of_route w h ip) (longest_match ip (host_routes h))

-- the way from the n-th host to an address
abbrev pub way : World → ℕ → ℕ → Option Way
way w n ip = option_and_then (λ (h : HostSpec). way_from (find (λ (i : Iface). i.ip == ip) h.ifaces) w n h ip) (slice_get w.hosts n)

-- the n-th host has the address
abbrev pub has_address : World → ℕ → ℕ → Bool
has_address w n ip = option_map_or (has_ip ip) (slice_get w.hosts n) false
