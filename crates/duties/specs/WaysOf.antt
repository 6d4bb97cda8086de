-- The ways of all hosts, as they are kept.
use Rattle.std.specs.Prelude.{◌≡◌, ℕ, Bool, false, List, Option, slice_get}
use Rattle.std.specs.Option.{option_map_or, option_and_then}
use Rattle.ip_route.specs.Kept.{HostWays, is_own_address, way_to}
use Rattle.net_base.specs.declared.world.World.{World}
use Rattle.net_base.specs.Routes.{Way, way, has_address}

-- the way from the h-th host to an address
abbrev pub way_at : List HostWays → ℕ → ℕ → Option Way
way_at ks h ip = option_and_then (λ (k : HostWays). way_to k ip) (slice_get ks h)

-- the h-th host has the address
abbrev pub has_at : List HostWays → ℕ → ℕ → Bool
has_at ks h ip = option_map_or (λ (k : HostWays). is_own_address k ip) (slice_get ks h) false

-- these are the ways of the world's hosts, and their addresses
unfoldable pub AreWaysOfWorld : World → List HostWays → Type 0
AreWaysOfWorld w ks = (h ip : ℕ) → (way_at ks h ip ≡ way w h ip) × (has_at ks h ip ≡ has_address w h ip)
