-- The ways that are kept of each host are those of the world.
use Rattle.std.proofs.Common.{◌≡◌, ℕ, zero, suc, ◌≤◌, false, List, [], ◌∷◌, length, Option, Some, None, slice_get, refl, sym, ap, ◌∙◌, arith}
use Rattle.std.specs.Option.{option_map_or, option_and_then}
use Rattle.std.proofs.lemmas.Option.{none-some, slice_get_past}
use Rattle.ip_route.specs.Kept.{AreWaysOf, HostWays, is_own_address, way_to}
use Rattle.net_base.specs.declared.world.World.{World}
use Rattle.net_base.specs.Routes.{way, has_address}
use Rattle.duties.specs.WaysOf.{AreWaysOfWorld, way_at, has_at}

pub way_kept : (w : World) (ks : List HostWays) (h ip : ℕ) → AreWaysOfWorld w ks → way_at ks h ip ≡ way w h ip
unfolding AreWaysOfWorld
way_kept w ks h ip are = (are h ip).0

pub has_kept : (w : World) (ks : List HostWays) (h ip : ℕ) → AreWaysOfWorld w ks → has_at ks h ip ≡ has_address w h ip
unfolding AreWaysOfWorld
has_kept w ks h ip are = (are h ip).1

-- the ways of the hosts so far
abbrev pub AreSoFar : World → List HostWays → Type 0
AreSoFar w ks = (h : ℕ) (k : HostWays) → slice_get ks h ≡ Some k → AreWaysOf w h k

-- both, where the h-th host is kept or there is none
at_host : (w : World) (ks : List HostWays) (h ip : ℕ) (o : Option HostWays) → slice_get ks h ≡ o → length ks ≡ length w.hosts → AreSoFar w ks
    → (way_at ks h ip ≡ way w h ip) × (has_at ks h ip ≡ has_address w h ip)
unfolding AreWaysOf
at_host w ks h ip (Some k) is count all = (
  ap (λ (o : Option HostWays). option_and_then (λ (k : HostWays). way_to k ip) o) is ∙ (all h k is ip).0,
  ap (λ (o : Option HostWays). option_map_or (λ (k : HostWays). is_own_address k ip) o false) is ∙ (all h k is ip).1,
)
at_host w ks h ip None is count all =
    let none : slice_get w.hosts h ≡ None = slice_get_past w.hosts h (beyond ks h is (length w.hosts) count) in
    (rw (is, none) refl, rw (is, none) refl)
  where
    beyond : (ks : List HostWays) (h : ℕ) → slice_get ks h ≡ None → (n : ℕ) → length ks ≡ n → n ≤ h
    beyond [] h is n count = omega (arith, count)
    beyond (k ∷ ks) zero is n count = absurd (none-some k (sym is))
    beyond (k ∷ ks) (suc h) is n count = let rest = beyond ks h is (length ks) refl in omega (arith, rest, count)

-- the ways of all hosts are those of the world
pub all_kept : (w : World) (ks : List HostWays) → length ks ≡ length w.hosts → AreSoFar w ks → AreWaysOfWorld w ks
unfolding AreWaysOfWorld
all_kept w ks count all h ip = at_host w ks h ip (slice_get ks h) refl count all
