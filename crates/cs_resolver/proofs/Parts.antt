-- The parts of a query.
use Rattle.std.proofs.Common.{None, ◌≡◌, ℕ, ◌<◌, List, [], ◌∷◌, length, refl, arith}
use Rattle.net_base.specs.Addresses.{parts_at}
use Rattle.net_base.specs.Cs.{query_of, read_query}
use Rattle.net_base.proofs.Shared.{some_part}

more_than_three : (a b c : List ℕ) (others : List (List ℕ)) → 0 < length others → query_of (a ∷ b ∷ c ∷ others) ≡ None
more_than_three a b c [] more = absurd (omega arith)
more_than_three a b c (d ∷ others) more = refl

-- a text with three exclamation marks is no query
pub four_parts : (text after_a after_b after_c a b c : List ℕ) → parts_at 33 text ≡ a ∷ parts_at 33 after_a → parts_at 33 after_a ≡ b ∷ parts_at 33 after_b → parts_at 33 after_b ≡ c ∷ parts_at 33 after_c → read_query text ≡ None
four_parts text after_a after_b after_c a b c first second third =
    rw (first, second, third) (more_than_three a b c (parts_at 33 after_c) (some_part 33 after_c))
