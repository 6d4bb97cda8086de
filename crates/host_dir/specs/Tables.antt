-- Slots and pairs as they are kept: with each pair the slot that it was given to.
use Rattle.std.specs.Prelude.{◌≡◌, ℕ, List, Some, map, slice_get}
use Rattle.std.specs.Map.{lookup}
use Rattle.net_base.specs.declared.address.Pair.{Pair}
use Rattle.net_base.specs.Directory.{Slot}
use Rattle.net_base.specs.Same.{same_pair}
use Rattle.host_dir.specs.declared.slots.Ends.{Ends}

-- the slots, and the pairs that were granted or born, in order
pub record Tables : Type 0 where
  pub slots : List Slot
  pub pairs : List Pair

-- the pair that is kept so
abbrev pub kept_pair : Ends → Pair
kept_pair e = record { local = record { ip = e.local_ip; port = e.local_port }; remote = record { ip = e.remote_ip; port = e.remote_port } }

abbrev pub kept_pairs : List (Ends × ℕ) → List Pair
kept_pairs given = map (λ (e : Ends × ℕ). kept_pair e.0) given

-- a slot's pair was given to it and no other
unfoldable pub IsIndexed : List Slot → List (Ends × ℕ) → Type 0
IsIndexed slots given =
    (n : ℕ) (s : Slot) (p : Pair) → slice_get slots n ≡ Some s → s.pair ≡ Some p → lookup (λ (e : Ends). same_pair p (kept_pair e)) given ≡ Some n
