-- The fates of a medium and the networks of a host, as they are found.
use Rattle.std.specs.Prelude.{◌≡◌, ◌≤◌, ◌<◌, ℕ, ◌==◌, ◌&&◌, Bool, true, List, [], ◌∷◌, Option, Some, ⊤}
use Rattle.std.specs.List.{list_any}
use Rattle.net_base.specs.declared.world.FateRange.{FateRange}
use Rattle.net_base.specs.declared.world.HostSpec.{HostSpec}
use Rattle.world_text.specs.WorldLines.{knows_network}

-- each fate is found by its last frame
abbrev pub AreFound : (ℕ → Option ℕ) → List FateRange → Type 0
AreFound find [] = ⊤
AreFound find (f ∷ fates) = (find f.last ≡ Some f.first) × AreFound find fates

-- a fate has these frames
abbrev pub has_frames : ℕ → ℕ → FateRange → Bool
has_frames first last f = (f.first == first) && (f.last == last)

-- fates are found by their last frames, and what is found are fates, none of which overlap
pub record AreIndexed (find : ℕ → Option ℕ) (fates : List FateRange) : Type 0 where
  pub listed : AreFound find fates
  pub stand : (last first : ℕ) → find last ≡ Some first → list_any (has_frames first last) fates ≡ true
  pub forward : (last first : ℕ) → find last ≡ Some first → first ≤ last
  pub apart : (last first other start : ℕ) → find last ≡ Some first → find other ≡ Some start → last < other → last < start

-- a network is one of these, by its net and its mask
abbrev pub is_key : ℕ → ℕ → ℕ × ℕ → Bool
is_key net mask key = (key.0 == net) && (key.1 == mask)

-- the networks of a host, with those that its routes lead to
abbrev pub AreNetworks : List (ℕ × ℕ) → HostSpec → Type 0
AreNetworks keys h = (net mask : ℕ) → list_any (is_key net mask) keys ≡ knows_network net mask h
