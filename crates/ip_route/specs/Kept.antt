-- What is kept of a world for the ways from one of its hosts.
use Rattle.std.specs.Prelude.{◌≡◌, ℕ, ◌==◌, ◌&&◌, Bool, List, Option, Some, None, find, slice_get, unwrap_or}
use Rattle.std.specs.List.{list_any, position_from}
use Rattle.std.specs.Option.{option_map, option_and_then}
use Rattle.net_base.specs.declared.world.Iface.{Iface}
use Rattle.net_base.specs.declared.world.World.{World}
use Rattle.net_base.specs.Routes.{Route, Way, longest_match, mtu_of, way, has_address}
use Rattle.ip_route.specs.declared.ways.Out.{Out}

-- an interface with the mtu of its medium
abbrev pub out_of : World → Iface → Out
out_of w i = record { medium = i.medium; ip = i.ip; mtu = mtu_of w i.medium }

-- one of these interfaces has the address on the medium
abbrev pub stands_on : ℕ → ℕ → List Iface → Bool
stands_on medium ip ifaces = list_any (λ (i : Iface). (i.medium == medium) && (i.ip == ip)) ifaces

-- the first of the hosts with these interfaces that has the address on the medium
abbrev pub station_among : List (List Iface) → ℕ → ℕ → Option ℕ
station_among hosts medium ip = position_from (stands_on medium ip) 0 hosts

-- out by this interface to the next address
abbrev pub way_out : List (List Iface) → ℕ → Out → Way
way_out hosts next o = record { medium = o.medium; station = station_among hosts o.medium next; source = o.ip; mtu = o.mtu }

-- to the own address of this interface
abbrev pub way_home : ℕ → Out → Way
way_home h o = record { medium = o.medium; station = Some h; source = o.ip; mtu = o.mtu }

abbrev pub own_out : ℕ → List Out → Option Out
own_out ip outs = find (λ (o : Out). o.ip == ip) outs

-- the way where the interface is the host's own with this address
abbrev pub way_kept : Option Out → ℕ → List Out → List Route → List (List Iface) → ℕ → Option Way
way_kept (Some o) h outs routes hosts ip = Some (way_home h o)
way_kept None h outs routes hosts ip =
    option_and_then (λ (r : Route). option_map (way_out hosts (unwrap_or r.next ip)) (slice_get outs r.iface)) (longest_match ip routes)

abbrev pub has_out : ℕ → List Out → Bool
has_out ip outs = list_any (λ (o : Out). o.ip == ip) outs

-- the ways from a host, as they are kept
pub record HostWays : Type 0 where
  pub host : ℕ
  pub outs : List Out
  pub routes : List Route
  -- the interfaces of each host
  pub hosts : List (List Iface)

-- the way to an address
abbrev pub way_to : HostWays → ℕ → Option Way
way_to k ip = way_kept (own_out ip k.outs) k.host k.outs k.routes k.hosts ip

-- the address is one of the host's own
abbrev pub is_own_address : HostWays → ℕ → Bool
is_own_address k ip = has_out ip k.outs

-- these are the ways from the h-th host of the world, and its addresses
unfoldable pub AreWaysOf : World → ℕ → HostWays → Type 0
AreWaysOf w h k = (ip : ℕ) → (way_to k ip ≡ way w h ip) × (is_own_address k ip ≡ has_address w h ip)
