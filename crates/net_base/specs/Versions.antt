-- The databases of a world: from when each is in force, and which one is at a moment.
use Rattle.std.specs.Prelude.{ℕ, ◌+◌, ◌<◌, ◌≤◌, ◌≡◌, ◌==◌, ◌&&◌, Bool, true, false, List, [], ◌∷◌, map, get_or, slice_get, Some, nat_le, nat_lt, if◌then◌else◌}
use Rattle.net_base.specs.Ndb.{NdbPair}
use Rattle.net_base.specs.declared.world.Version.{Version}

-- the tuples of a database
abbrev pub Tuples : Type 0
Tuples = List (List (List NdbPair))

-- the number of the last one of these whose moment has come, where the first has the number n; `before` where none has
abbrev pub last_come : ℕ → ℕ → ℕ → List Version → ℕ
last_come before n now [] = before
last_come before n now (v ∷ vs) = last_come (if nat_le v.moment now then n else before) (n + 1) now vs

-- the number, from 0, of the last version whose moment is at most this one
abbrev pub in_force : ℕ → List Version → ℕ
in_force now versions = last_come 0 0 now versions

-- the version with this number is in force at the moment: its own has come, and that of none behind it
pub record IsInForce (versions : List Version) (now n : ℕ) : Type 0 where
  pub version : Version
  pub stands : slice_get versions n ≡ Some version
  pub has_come : version.moment ≤ now
  pub is_last : (k : ℕ) (later : Version) → n < k → slice_get versions k ≡ Some later → now < later.moment

-- the database of the version with this number, which has no tuples where there is none
abbrev pub database_of : List Version → ℕ → Tuples
database_of versions n = get_or (map (λ (v : Version). v.db) versions) n []

-- each of these begins later than those before it, at a moment that a line can say
abbrev pub are_later : ℕ → List Version → Bool
are_later last [] = true
are_later last (v ∷ vs) = nat_lt last v.moment && (nat_le v.moment 1000000000 && are_later v.moment vs)

-- some versions: the first from the moment 0 on, the others one after the other
abbrev pub are_timed : List Version → Bool
are_timed [] = false
are_timed (v ∷ vs) = (v.moment == 0) && are_later 0 vs
