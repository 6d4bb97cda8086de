-- Where the starts of a host come from.
use Rattle.std.specs.Prelude.{◌≡◌, ℕ, [], List, length, slice_get}
use Rattle.std.specs.Option.{option_map_or}
use Rattle.net_base.specs.declared.address.Pair.{Pair}
use Rattle.net_base.specs.declared.address.Proto.{Proto}
use Rattle.net_base.specs.declared.address.Proto.TheVariants as proto
use Rattle.net_base.specs.declared.world.HostSpec.{HostSpec}
use Rattle.net_base.specs.declared.world.World.{World}
use Rattle.host_dir.specs.declared.starts.Starts.{Starts}

-- the start lines of the h-th host
abbrev pub lines_of_starts : World → ℕ → List ℕ
lines_of_starts w h = option_map_or (λ (s : HostSpec). s.starts) (slice_get w.hosts h) []

-- they are those of the h-th host of the world
pub record AreStartsOf (w : World) (h : ℕ) (s : Starts) : Type 0 where
  pub seed : s.seed ≡ w.seed
  pub host : s.host ≡ h
  pub lines : s.lines ≡ lines_of_starts w h

-- how many starts were given out with these pairs: one with each for IL, none for UDP
abbrev pub given_with : Proto → List Pair → ℕ
given_with proto.Il pairs = length pairs
given_with proto.Udp pairs = 0
