-- What is kept of a world gives its ways.
use Rattle.std.proofs.Common.{◌≡◌, ℕ, zero, suc, ◌+◌, ◌==◌, Bool, true, false, List, [], ◌∷◌, Option, Some, None, map, find, slice_get, unwrap_or, refl, ap, sym, ◌∙◌}
use Rattle.std.specs.List.{list_any, position_from}
use Rattle.std.specs.Option.{option_map, option_and_then}
use Rattle.std.proofs.lemmas.Iterator.Adapters.{position_from-zero}
use Rattle.net_base.specs.declared.world.HostSpec.{HostSpec}
use Rattle.net_base.specs.declared.world.Iface.{Iface}
use Rattle.net_base.specs.declared.world.World.{World}
use Rattle.net_base.specs.Routes.{Route, longest_match, way, way_from, way_by, way_of_route, host_routes, has_address, stands_at, station_of}
use Rattle.ip_route.specs.Kept.{AreWaysOf, HostWays, has_out, is_own_address, out_of, own_out, stands_on, station_among, way_kept, way_out, way_to}

abbrev ifaces : HostSpec → List Iface
ifaces h = h.ifaces

-- the stations are those of the world
stations_from : (medium ip n : ℕ) (hs : List HostSpec) → position_from (stands_on medium ip) n (map ifaces hs) ≡ position_from (stands_at medium ip) n hs
stations_from medium ip n [] = refl
stations_from medium ip n (h ∷ hs) = by (stands_at medium ip h) refl (stations_from medium ip (n + 1) hs)
  where
    by : (b : Bool) → stands_at medium ip h ≡ b → position_from (stands_on medium ip) (n + 1) (map ifaces hs) ≡ position_from (stands_at medium ip) (n + 1) hs
        → position_from (stands_on medium ip) n (map ifaces (h ∷ hs)) ≡ position_from (stands_at medium ip) n (h ∷ hs)
    by true e further = rw e refl
    by false e further = rw e further

stations : (w : World) (medium ip : ℕ) → station_among (map ifaces w.hosts) medium ip ≡ station_of w medium ip
stations w medium ip = stations_from medium ip 0 w.hosts ∙ sym (position_from-zero (stands_at medium ip) w.hosts)

-- the own interface is that of the world
own_is : (w : World) (ip : ℕ) (is : List Iface) → own_out ip (map (out_of w) is) ≡ option_map (out_of w) (find (λ (i : Iface). i.ip == ip) is)
own_is w ip [] = refl
own_is w ip (i ∷ is) = by (i.ip == ip) refl (own_is w ip is)
  where
    by : (b : Bool) → (i.ip == ip) ≡ b → own_out ip (map (out_of w) is) ≡ option_map (out_of w) (find (λ (i : Iface). i.ip == ip) is)
        → own_out ip (map (out_of w) (i ∷ is)) ≡ option_map (out_of w) (find (λ (i : Iface). i.ip == ip) (i ∷ is))
    by true e further = rw e refl
    by false e further = rw e further

has_is : (w : World) (ip : ℕ) (is : List Iface) → has_out ip (map (out_of w) is) ≡ list_any (λ (i : Iface). i.ip == ip) is
has_is w ip [] = refl
has_is w ip (i ∷ is) = by (i.ip == ip) refl (has_is w ip is)
  where
    by : (b : Bool) → (i.ip == ip) ≡ b → has_out ip (map (out_of w) is) ≡ list_any (λ (i : Iface). i.ip == ip) is
        → has_out ip (map (out_of w) (i ∷ is)) ≡ list_any (λ (i : Iface). i.ip == ip) (i ∷ is)
    by true e further = rw e refl
    by false e further = rw e further

out_at : (w : World) (is : List Iface) (n : ℕ) → slice_get (map (out_of w) is) n ≡ option_map (out_of w) (slice_get is n)
out_at w [] n = refl
out_at w (i ∷ is) zero = refl
out_at w (i ∷ is) (suc n) = out_at w is n

out_is : (w : World) (next : ℕ) (i : Option Iface) → option_map (way_out (map ifaces w.hosts) next) (option_map (out_of w) i) ≡ option_map (way_by w next) i
out_is w next None = refl
out_is w next (Some i) = rw (stations w i.medium next) refl

by_route : (w : World) (h : HostSpec) (ip : ℕ) (r : Option Route)
    → option_and_then (λ (r : Route). option_map (way_out (map ifaces w.hosts) (unwrap_or r.next ip)) (slice_get (map (out_of w) h.ifaces) r.iface)) r
    ≡ option_and_then (way_of_route w h ip) r
by_route w h ip None = refl
by_route w h ip (Some r) =
    ap (option_map (way_out (map ifaces w.hosts) (unwrap_or r.next ip))) (out_at w h.ifaces r.iface) ∙ out_is w (unwrap_or r.next ip) (slice_get h.ifaces r.iface)

ways : (w : World) (n : ℕ) (h : HostSpec) (ip : ℕ) (own : Option Iface)
    → way_kept (option_map (out_of w) own) n (map (out_of w) h.ifaces) (host_routes h) (map ifaces w.hosts) ip ≡ way_from own w n h ip
ways w n h ip None = by_route w h ip (longest_match ip (host_routes h))
ways w n h ip (Some i) = refl

way_at : (w : World) (n : ℕ) (h : HostSpec) (ip : ℕ) → slice_get w.hosts n ≡ Some h → way w n ip ≡ way_from (find (λ (i : Iface). i.ip == ip) h.ifaces) w n h ip
way_at w n h ip at = rw at refl

has_at : (w : World) (n : ℕ) (h : HostSpec) (ip : ℕ) → slice_get w.hosts n ≡ Some h → has_address w n ip ≡ list_any (λ (i : Iface). i.ip == ip) h.ifaces
has_at w n h ip at = rw at refl

-- all that is kept of a host of the world
pub are_ways : (w : World) (n : ℕ) (h : HostSpec) (k : HostWays) → slice_get w.hosts n ≡ Some h
    → k ≡ record { host = n; outs = map (out_of w) h.ifaces; routes = host_routes h; hosts = map ifaces w.hosts } → AreWaysOf w n k
unfolding AreWaysOf
are_ways w n h k at is ip =
    (ap (λ (k : HostWays). way_to k ip) is ∙ to ∙ sym (way_at w n h ip at), ap (λ (k : HostWays). is_own_address k ip) is ∙ has_is w ip h.ifaces ∙ sym (has_at w n h ip at))
  where
    to : way_kept (own_out ip (map (out_of w) h.ifaces)) n (map (out_of w) h.ifaces) (host_routes h) (map ifaces w.hosts) ip
        ≡ way_from (find (λ (i : Iface). i.ip == ip) h.ifaces) w n h ip
    to = rw (own_is w ip h.ifaces) (ways w n h ip (find (λ (i : Iface). i.ip == ip) h.ifaces))
