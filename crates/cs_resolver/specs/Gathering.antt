-- Addresses that are gathered, where some may be left out that stand again.
use Rattle.std.specs.Prelude.{◌≡◌, ℕ, true, List, ◌++◌, map, nat_eq, get_or, []}
use Rattle.std.specs.Borrow.{Bor}
use Rattle.std.specs.List.{list_any}
use Rattle.net_base.specs.Ndb.{NdbPair}
use Rattle.net_base.specs.Cs.{once_each}
use Rattle.ndb_search.specs.declared.tuple_numbers.Kind.TheVariants.{Address}
use Rattle.ndb_search.specs.Numbers.{numbers_in}
use Rattle.net_base.specs.declared.ndb.spot.Spot.{Spot}
use Rattle.net_base.specs.Spots.{same_spot}
use Rattle.cs_resolver.specs.Probes.{numbers_at}

-- with these numbers behind the old ones, each once, the list is the same
abbrev pub Gathers : List ℕ → List ℕ → List ℕ → Type 0
Gathers more old new = once_each new ≡ once_each (old ++ more)

-- the numbers are among the others
abbrev pub AreAmong : List ℕ → List ℕ → Type 0
AreAmong numbers others = (n : ℕ) → list_any (nat_eq n) numbers ≡ true → list_any (nat_eq n) others ≡ true

-- the addresses of these tuples were gathered
abbrev pub TuplesRead : List (List (List NdbPair)) → List ℕ → List ℕ → Type 0
TuplesRead db tuples ips =
    (place : ℕ) → list_any (nat_eq place) tuples ≡ true → AreAmong (numbers_in Address (get_or db place [])) ips

-- the addresses at these spots were gathered
abbrev pub SpotsRead : List (List (List NdbPair)) → List Spot → List ℕ → Type 0
SpotsRead db spots ips =
    (spot : Spot) → list_any (same_spot spot) spots ≡ true → AreAmong (numbers_at db Address spot) ips

-- the words as they are seen
abbrev pub words_seen : List (Bor (List ℕ)) → List (List ℕ)
words_seen words = map (λ word. word.now) words
