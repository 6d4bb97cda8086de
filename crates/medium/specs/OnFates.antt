-- The fates of frames in their order, known one frame ahead.
use Rattle.std.specs.Prelude.{◌≡◌, ℕ, ◌+◌, ◌<◌, ◌≤◌, Bool, true, false, ◌&&◌, List, [], ◌∷◌, find, min, Option, nat_le}
use Rattle.std.specs.List.{AllByRecursion, list_all}
use Rattle.std.specs.Option.{option_map}
use Rattle.net_base.specs.declared.world.Fate.{Fate}
use Rattle.net_base.specs.declared.world.FateRange.{FateRange}
use Rattle.net_base.specs.declared.world.MediumSpec.{MediumSpec}
use Rattle.net_base.specs.Draws.{generator}
use Rattle.net_base.specs.Medium.{fate_of}
use Rattle.net_base.specs.World.{all_apart, is_range, overlap}
use Rattle.rand_pcg.specs.Lcg.{Lcg, advance}
use Rattle.rand_pcg.specs.Pcg.{multiplier_64}

-- the world's line and seed, and how many frames were laid
pub record OnFates : Type 0 where
  pub spec : MediumSpec
  pub seed : ℕ
  pub laid : ℕ

-- the number of the next frame, where there is one
abbrev pub next_frame_number : ℕ → ℕ
next_frame_number laid = min (laid + 1) 18446744073709551615

-- lines as the world file allows them
abbrev pub AreFateLines : List FateRange → Type 0
AreFateLines lines = (list_all is_range lines ≡ true) × (all_apart overlap lines ≡ true)

-- the line names the fate of the m-th frame
abbrev pub names_fate : ℕ → FateRange → Bool
names_fate m line = nat_le line.first m && nat_le m line.last

-- the fate that a line names for the m-th frame
abbrev pub fate_line : ℕ → List FateRange → Option Fate
fate_line m lines = option_map (λ (line : FateRange). line.fate) (find (names_fate m) lines)

-- each line begins where the lines before it begin, or later
abbrev pub AreInOrder : List FateRange → Type 0
AreInOrder [] = Unit {0}
AreInOrder (line ∷ lines) = AllByRecursion (λ (other : FateRange). line.first ≤ other.first) lines × AreInOrder lines

-- the first line names no frame after so many
abbrev pub begins_past : ℕ → List FateRange → Bool
begins_past laid [] = false
begins_past laid (line ∷ lines) = nat_le line.last laid

-- both name the same fates after so many frames
abbrev pub FindsAlike : ℕ → List FateRange → List FateRange → Type 0
FindsAlike laid old new = (m : ℕ) → laid < m → find (names_fate m) new ≡ find (names_fate m) old

-- lengths as the world file allows them
abbrev pub HasMtu : MediumSpec → Type 0
HasMtu spec = (576 ≤ spec.mtu) × (spec.mtu ≤ 16384)

-- rates as the world file allows them
abbrev pub HasRates : MediumSpec → Type 0
HasRates spec = spec.loss + spec.twice + spec.later ≤ 1000

-- what is known ahead of the next frame, and what is left for those after it
pub record IsAhead (spec : MediumSpec) (seed laid : ℕ) (lines : List FateRange) (words : Lcg) (ahead : Fate) : Type 0 where
  pub mtu : HasMtu spec
  pub rates : HasRates spec
  pub order : AreInOrder lines
  pub alike : FindsAlike laid spec.fates lines
  pub drawn : words ≡ advance 64 multiplier_64 (laid + 1) (generator seed (64 + spec.number))
  pub known : ahead ≡ fate_of seed spec (laid + 1)
