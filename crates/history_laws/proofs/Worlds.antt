-- Ways of a world go to its media and hosts, and its starts aren't 0.
use Rattle.std.proofs.Common.{◌≡◌, ℕ, zero, suc, ◌+◌, ◌-◌, ◌<◌, ◌==◌, ◌&&◌, nat_lt, Bool, true, false, List, [], ◌∷◌, length, Option, Some, None, slice_get, refl, subst, arith}
use Rattle.std.specs.Prelude.{find, nat_le, unwrap_or, if◌then◌else◌, position}
use Rattle.std.specs.List.{list_all}
use Rattle.std.specs.Option.{option_map, option_map_or, option_and_then}
use Rattle.std.proofs.lemmas.Bool.{and_parts, and_from, ltb-true, ltb-false, leb-true, lt-ltb, le-leb, eqb-false}
use Rattle.std.proofs.lemmas.Option.{none-some, same_Some, slice_get_within}
use Rattle.net_base.specs.declared.address.Proto.{Proto}
use Rattle.net_base.specs.declared.address.Proto.TheVariants as proto
use Rattle.net_base.specs.declared.world.HostSpec.{HostSpec}
use Rattle.net_base.specs.declared.world.Iface.{Iface}
use Rattle.net_base.specs.declared.world.World.{World}
use Rattle.net_base.specs.Directory.{Dir, host_start}
use Rattle.net_base.specs.Draws.{drawn_word}
use Rattle.net_base.specs.Routes.{Route, Way, iface_routes, way, way_by, way_from, way_of_route, way_to_itself, longest_match, host_routes, stands_at}
use Rattle.net_base.specs.World.{IsWorld, all_apart, is_host, is_iface, is_name, is_nets, is_route, is_start, same_medium, same_network}
use Rattle.history_laws.proofs.Ordered.{all_at}
use Rattle.history_laws.proofs.DirRows.{MayGive}

-- the parts of a host

abbrev others : HostSpec → Bool
others h =
    all_apart same_medium h.ifaces
    && (list_all (is_route (iface_routes 0 h.ifaces)) h.routes && (all_apart same_network (host_routes h) && list_all is_start h.starts))

ifaces_of : (media : ℕ) (h : HostSpec) → is_host media h ≡ true → list_all (is_iface media) h.ifaces ≡ true
ifaces_of media h is =
    let one = and_parts (is_name h.name) _ is in
    let two = and_parts (is_nets h.nets) _ one.1 in
    let three = and_parts (nat_le (length h.ifaces) 4) _ two.1 in
    (and_parts (list_all (is_iface media) h.ifaces) (others h) three.1).0

starts_of : (media : ℕ) (h : HostSpec) → is_host media h ≡ true → list_all is_start h.starts ≡ true
starts_of media h is =
    let one = and_parts (is_name h.name) _ is in
    let two = and_parts (is_nets h.nets) _ one.1 in
    let three = and_parts (nat_le (length h.ifaces) 4) _ two.1 in
    let four = and_parts (list_all (is_iface media) h.ifaces) (others h) three.1 in
    let five = and_parts (all_apart same_medium h.ifaces) _ four.1 in
    let six = and_parts (list_all (is_route (iface_routes 0 h.ifaces)) h.routes) _ five.1 in
    (and_parts (all_apart same_network (host_routes h)) (list_all is_start h.starts) six.1).1

-- Ways.

-- the way goes to a medium and a host of the world
pub record IsWithin (w : World) (out : Way) : Type 0 where
  pub medium : out.medium < length w.media
  pub station : (to : ℕ) → out.station ≡ Some to → to < length w.hosts

iface_within : (media : ℕ) (i : Iface) → is_iface media i ≡ true → i.medium < media
iface_within media i is = ltb-true i.medium media (and_parts (nat_lt i.medium media) _ is).0

found_within : (media ip : ℕ) (is : List Iface) (i : Iface) → list_all (is_iface media) is ≡ true → find (λ (j : Iface). j.ip == ip) is ≡ Some i → i.medium < media
found_within media ip [] i all is = absurd (none-some i is)
found_within media ip (j ∷ js) i all is = by (j.ip == ip) is (found_within media ip js i (and_parts (is_iface media j) _ all).1)
  where
    by : (b : Bool) → (if b then Some j else find (λ (k : Iface). k.ip == ip) js) ≡ Some i → (find (λ (k : Iface). k.ip == ip) js ≡ Some i → i.medium < media) → i.medium < media
    by true here later = subst (λ (k : Iface). k.medium < media) (same_Some j i here) (iface_within media j (and_parts (is_iface media j) _ all).0)
    by false there later = later there

place_within : (test : HostSpec → Bool) (hs : List HostSpec) (k : ℕ) → position test hs ≡ Some k → k < length hs
place_within test hs k is = search (arith, is)

by_iface : (w : World) (next : ℕ) (i : Iface) → i.medium < length w.media → IsWithin w (way_by w next i)
by_iface w next i within = record { medium = within; station = λ to is. place_within (stands_at i.medium next) w.hosts to is }

by_found : (w : World) (next : ℕ) (is : List Iface) (n : ℕ) (found : Option Iface) (out : Way) → list_all (is_iface (length w.media)) is ≡ true → slice_get is n ≡ found → option_map (way_by w next) found ≡ Some out → IsWithin w out
by_found w next is n None out all at same = absurd (none-some out same)
by_found w next is n (Some i) out all at same = subst (IsWithin w) (same_Some (way_by w next i) out same) (by_iface w next i (iface_within (length w.media) i (all_at (is_iface (length w.media)) is n i all at)))

by_route : (w : World) (h : HostSpec) (ip : ℕ) (found : Option Route) (out : Way) → list_all (is_iface (length w.media)) h.ifaces ≡ true → option_and_then (way_of_route w h ip) found ≡ Some out → IsWithin w out
by_route w h ip None out all is = absurd (none-some out is)
by_route w h ip (Some r) out all is = by_found w (unwrap_or r.next ip) h.ifaces r.iface (slice_get h.ifaces r.iface) out all refl is

by_own : (w : World) (n ip : ℕ) (h : HostSpec) (found : Option Iface) (out : Way) → n < length w.hosts → list_all (is_iface (length w.media)) h.ifaces ≡ true → find (λ (i : Iface). i.ip == ip) h.ifaces ≡ found → way_from found w n h ip ≡ Some out → IsWithin w out
by_own w n ip h (Some i) out lt all at is =
    subst (IsWithin w) (same_Some (way_to_itself w n i) out is) record {
      medium = found_within (length w.media) ip h.ifaces i all at;
      station = λ to same. omega (arith, lt, same_Some n to same);
    }
by_own w n ip h None out lt all at is = by_route w h ip (longest_match ip (host_routes h)) out all is

by_host : (w : World) (n ip : ℕ) (found : Option HostSpec) (out : Way) → IsWorld w → slice_get w.hosts n ≡ found → option_and_then (λ (h : HostSpec). way_from (find (λ (i : Iface). i.ip == ip) h.ifaces) w n h ip) found ≡ Some out → IsWithin w out
by_host w n ip None out world at is = absurd (none-some out is)
by_host w n ip (Some h) out world at is =
    by_own w n ip h (find (λ (i : Iface). i.ip == ip) h.ifaces) out (slice_get_within w.hosts n h at)
    (ifaces_of (length w.media) h (all_at (is_host (length w.media)) w.hosts n h world.hosts at)) refl is

pub way_within : (w : World) (n ip : ℕ) (out : Way) → IsWorld w → way w n ip ≡ Some out → IsWithin w out
way_within w n ip out world is = by_host w n ip (slice_get w.hosts n) out world refl is

-- Starts.

nonzero_is : (n : ℕ) → 0 < (if n == 0 then 1 else n)
nonzero_is n = by (n == 0) refl
  where
    by : (b : Bool) → (n == 0) ≡ b → 0 < (if b then 1 else n)
    by true is = omega arith
    by false is = omega (arith, eqb-false n 0 is)

line_is : (lines : List ℕ) (k : ℕ) → list_all is_start lines ≡ true → k < length lines → 0 < unwrap_or (slice_get lines k) 0
line_is [] k all lt = absurd (omega (arith, lt))
line_is (n ∷ ns) zero all lt = leb-true 1 n (and_parts (nat_le 1 n) _ (and_parts (is_start n) _ all).0).0
line_is (n ∷ ns) (suc k) all lt = line_is ns k (and_parts (is_start n) _ all).1 (omega (arith, lt))

start_is : (w : World) (h k : ℕ) (lines : List ℕ) → list_all is_start lines ≡ true → 0 < host_start w h lines (k + 1)
start_is w h k lines all = by (nat_lt (length lines) (k + 1)) refl
  where
    by : (b : Bool) → nat_lt (length lines) (k + 1) ≡ b → 0 < host_start w h lines (k + 1)
    by true is = rw is (nonzero_is (drawn_word w.seed h (k + 1 - length lines)))
    by false is =
        let lt : k < length lines = omega (arith, ltb-false (length lines) (k + 1) is) in
        let eq : k + 1 - 1 ≡ k = omega arith in
        rw (is, eq) (line_is lines k all lt)

lines_are : (w : World) (h : ℕ) (o : Option HostSpec) → IsWorld w → slice_get w.hosts h ≡ o → list_all is_start (option_map_or (λ (s : HostSpec). s.starts) o []) ≡ true
lines_are w h None world at = refl
lines_are w h (Some s) world at = starts_of (length w.media) s (all_at (is_host (length w.media)) w.hosts h s world.hosts at)

pub may_give : (w : World) (h : ℕ) (p : Proto) (d : Dir) → IsWorld w → MayGive w h p d
may_give w h proto.Udp d world limit le = le-leb limit 8192 le
may_give w h proto.Il d world limit le =
    let start = start_is w h d.starts (option_map_or (λ (s : HostSpec). s.starts) (slice_get w.hosts h) []) (lines_are w h (slice_get w.hosts h) world refl) in
    and_from _ _ (lt-ltb 0 _ start) (le-leb limit 8192 le)
