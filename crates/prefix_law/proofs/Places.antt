-- In a world an address has one host, and a way goes out by an address of its own host.
use Rattle.std.proofs.Common.{◌≡◌, ℕ, zero, suc, ◌==◌, ◌||◌, nat_eq, if◌then◌else◌, Bool, true, false, not, List, [], ◌∷◌, ◌++◌, map, Option, Some, None, slice_get, ◌⊎◌, inl, inr, refl, sym, ap, subst}
use Rattle.std.specs.Prelude.{find, flat_map}
use Rattle.std.specs.List.{list_any}
use Rattle.std.specs.Option.{option_and_then, option_map, option_map_or}
use Rattle.std.proofs.lemmas.Bool.{and_parts, eqb-true, eq-eqb, or_left, or_right, not-true}
use Rattle.std.proofs.lemmas.Option.{none-some, same_Some}
use Rattle.net_base.specs.declared.world.HostSpec.{HostSpec}
use Rattle.net_base.specs.declared.world.Iface.{Iface}
use Rattle.net_base.specs.declared.world.World.{World}
use Rattle.net_base.specs.Routes.{Route, Way, way_by, way_from, way_of_route, longest_match, host_routes, has_ip}
use Rattle.net_base.specs.World.{IsWorld, all_apart, addresses}
use Rattle.prefix_law.proofs.Deeds.{both_ways}
use Rattle.prefix_law.proofs.Trace.{HasPlaces}

either_true : (x y : Bool) → (x || y) ≡ true → (x ≡ true) ⊎ (y ≡ true)
either_true true y is = inl refl
either_true false y is = inr is

-- Addresses of hosts.

any_left : (ip : ℕ) (xs ys : List ℕ) → list_any (nat_eq ip) xs ≡ true → list_any (nat_eq ip) (xs ++ ys) ≡ true
any_left ip [] ys is = absurd (both_ways is refl)
any_left ip (x ∷ xs) ys is =
    elim (either_true (nat_eq ip x) (list_any (nat_eq ip) xs) is) [
      | inl here ↦ or_left (nat_eq ip x) (list_any (nat_eq ip) (xs ++ ys)) here
      | inr there ↦ or_right (nat_eq ip x) (list_any (nat_eq ip) (xs ++ ys)) (any_left ip xs ys there)
    ]

any_right : (ip : ℕ) (xs ys : List ℕ) → list_any (nat_eq ip) ys ≡ true → list_any (nat_eq ip) (xs ++ ys) ≡ true
any_right ip [] ys is = is
any_right ip (x ∷ xs) ys is = or_right (nat_eq ip x) (list_any (nat_eq ip) (xs ++ ys)) (any_right ip xs ys is)

apart_rest : (xs ys : List ℕ) → all_apart nat_eq (xs ++ ys) ≡ true → all_apart nat_eq ys ≡ true
apart_rest [] ys is = is
apart_rest (x ∷ xs) ys is = apart_rest xs ys (and_parts (not (list_any (nat_eq x) (xs ++ ys))) (all_apart nat_eq (xs ++ ys)) is).1

-- nothing stands in both parts
apart_parts : (ip : ℕ) (xs ys : List ℕ) → all_apart nat_eq (xs ++ ys) ≡ true → list_any (nat_eq ip) xs ≡ true → list_any (nat_eq ip) ys ≡ true → ⊥
apart_parts ip [] ys is one two = both_ways one refl
apart_parts ip (x ∷ xs) ys is one two =
    let parts = and_parts (not (list_any (nat_eq x) (xs ++ ys))) (all_apart nat_eq (xs ++ ys)) is in
    elim (either_true (nat_eq ip x) (list_any (nat_eq ip) xs) one) [
      | inl here ↦ both_ways (any_right x xs ys (subst (λ (i : ℕ). list_any (nat_eq i) ys ≡ true) (eqb-true ip x here) two)) (not-true (list_any (nat_eq x) (xs ++ ys)) parts.0)
      | inr there ↦ apart_parts ip xs ys parts.1 there two
    ]

listed : (ip : ℕ) (is : List Iface) → list_any (λ (i : Iface). i.ip == ip) is ≡ true → list_any (nat_eq ip) (map (λ (i : Iface). i.ip) is) ≡ true
listed ip [] has = absurd (both_ways has refl)
listed ip (i ∷ is) has =
    elim (either_true (i.ip == ip) (list_any (λ (j : Iface). j.ip == ip) is) has) [
      | inl here ↦ or_left (nat_eq ip i.ip) (list_any (nat_eq ip) (map (λ (j : Iface). j.ip) is)) (eq-eqb ip i.ip (sym (eqb-true i.ip ip here)))
      | inr there ↦ or_right (nat_eq ip i.ip) (list_any (nat_eq ip) (map (λ (j : Iface). j.ip) is)) (listed ip is there)
    ]

abbrev HasIt : ℕ → List HostSpec → ℕ → Type 0
HasIt ip hs n = option_map_or (has_ip ip) (slice_get hs n) false ≡ true

in_all : (ip : ℕ) (hs : List HostSpec) (n : ℕ) → HasIt ip hs n → list_any (nat_eq ip) (flat_map addresses hs) ≡ true
in_all ip [] n has = absurd (both_ways has refl)
in_all ip (h ∷ hs) zero has = any_left ip (addresses h) (flat_map addresses hs) (listed ip h.ifaces has)
in_all ip (h ∷ hs) (suc n) has = any_right ip (addresses h) (flat_map addresses hs) (in_all ip hs n has)

one_place : (ip : ℕ) (hs : List HostSpec) (m n : ℕ) → all_apart nat_eq (flat_map addresses hs) ≡ true → HasIt ip hs m → HasIt ip hs n → m ≡ n
one_place ip [] m n apart one two = absurd (both_ways one refl)
one_place ip (h ∷ hs) zero zero apart one two = refl
one_place ip (h ∷ hs) zero (suc n) apart one two = absurd (apart_parts ip (addresses h) (flat_map addresses hs) apart (listed ip h.ifaces one) (in_all ip hs n two))
one_place ip (h ∷ hs) (suc m) zero apart one two = absurd (apart_parts ip (addresses h) (flat_map addresses hs) apart (listed ip h.ifaces two) (in_all ip hs m one))
one_place ip (h ∷ hs) (suc m) (suc n) apart one two = ap suc (one_place ip hs m n (apart_rest (addresses h) (flat_map addresses hs) apart) one two)

-- Sources of ways.

found_has : (ip : ℕ) (is : List Iface) (i : Iface) → find (λ (j : Iface). j.ip == ip) is ≡ Some i → list_any (λ (j : Iface). j.ip == i.ip) is ≡ true
found_has ip [] i is = absurd (none-some i is)
found_has ip (j ∷ js) i is = go (j.ip == ip) is (found_has ip js i)
  where
    go : (b : Bool) → (if b then Some j else find (λ (k : Iface). k.ip == ip) js) ≡ Some i
        → (find (λ (k : Iface). k.ip == ip) js ≡ Some i → list_any (λ (k : Iface). k.ip == i.ip) js ≡ true) → ((j.ip == i.ip) || list_any (λ (k : Iface). k.ip == i.ip) js) ≡ true
    go true same later = or_left (j.ip == i.ip) _ (eq-eqb j.ip i.ip (ap (λ (k : Iface). k.ip) (same_Some j i same)))
    go false same later = or_right (j.ip == i.ip) _ (later same)

placed_has : (is : List Iface) (n : ℕ) (i : Iface) → slice_get is n ≡ Some i → list_any (λ (j : Iface). j.ip == i.ip) is ≡ true
placed_has [] n i is = absurd (none-some i is)
placed_has (j ∷ js) zero i is = or_left (j.ip == i.ip) _ (eq-eqb j.ip i.ip (ap (λ (k : Iface). k.ip) (same_Some j i is)))
placed_has (j ∷ js) (suc n) i is = or_right (j.ip == i.ip) _ (placed_has js n i is)

by_route : (w : World) (h : HostSpec) (ip : ℕ) (next : ℕ) (found : Option Iface) (n : ℕ) (out : Way) → slice_get h.ifaces n ≡ found → option_map (way_by w next) found ≡ Some out → has_ip out.source h ≡ true
by_route w h ip next None n out at is = absurd (none-some out is)
by_route w h ip next (Some i) n out at is =
    subst (λ (s : ℕ). has_ip s h ≡ true) (ap (λ (x : Way). x.source) (same_Some _ out is)) (placed_has h.ifaces n i at)

from_route : (w : World) (h : HostSpec) (ip : ℕ) (found : Option Route) (out : Way) → option_and_then (way_of_route w h ip) found ≡ Some out → has_ip out.source h ≡ true
from_route w h ip None out is = absurd (none-some out is)
from_route w h ip (Some r) out is = by_route w h ip _ (slice_get h.ifaces r.iface) r.iface out refl is

from_host : (w : World) (n ip : ℕ) (h : HostSpec) (found : Option Iface) (out : Way) → find (λ (i : Iface). i.ip == ip) h.ifaces ≡ found → way_from found w n h ip ≡ Some out → has_ip out.source h ≡ true
from_host w n ip h (Some i) out at is = subst (λ (s : ℕ). has_ip s h ≡ true) (ap (λ (x : Way). x.source) (same_Some _ out is)) (found_has ip h.ifaces i at)
from_host w n ip h None out at is = from_route w h ip (longest_match ip (host_routes h)) out is

from_world : (w : World) (n ip : ℕ) (found : Option HostSpec) (out : Way) → option_and_then (λ (h : HostSpec). way_from (find (λ (i : Iface). i.ip == ip) h.ifaces) w n h ip) found ≡ Some out
    → option_map_or (has_ip out.source) found false ≡ true
from_world w n ip None out is = absurd (none-some out is)
from_world w n ip (Some h) out is = from_host w n ip h (find (λ (i : Iface). i.ip == ip) h.ifaces) out refl is

pub places : (w : World) → IsWorld w → HasPlaces w
places w world = record {
  one_host = λ h h' ip one two. one_place ip w.hosts h h' world.hosts_addressed one two;
  own_source = λ h ip out is. from_world w h ip (slice_get w.hosts h) out is;
}
