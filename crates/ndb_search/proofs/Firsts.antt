-- The first bits of addresses, each once, and ranges of lengths.
use Rattle.std.proofs.Common.{◌≡◌, ℕ, ◌+◌, ◌<◌, ◌==◌, ◌||◌, nat_eq, arith, zero, suc, Bool, true, false, cond, List, [], ◌∷◌, ◌++◌, length, get_or, take, refl, sym, ap, ◌∙◌, append-nil}
use Rattle.std.specs.Prelude.{flat_map}
use Rattle.std.specs.List.{list_any, range_with_len}
use Rattle.std.proofs.lemmas.List.Folds.{list_any_more}
use Rattle.std.proofs.lemmas.List.Concat.{flat_map-append}
use Rattle.std.proofs.lemmas.Bool.Decides.{nat_tests}
use Rattle.net_base.specs.Networks.{contains_address}
use Rattle.ndb_search.specs.declared.network.Network.{Network as Kept}
use Rattle.ndb_search.specs.Prefixes.{network_seen, first_bits}
use Rattle.ndb_search.proofs.Covered.{same_any}

pub turned : (x n : ℕ) (b : Bool) → (x == n) ≡ b → (n == x) ≡ b
turned x n true e = grind (arith, nat_tests)
turned x n false e = grind (arith, nat_tests)

-- a network of so many bits contains one of the addresses whose first bits are kept
pub contained : (bits : ℕ) (ips firsts : List ℕ) (network : Kept) (b : Bool) → ((first : ℕ) → list_any (nat_eq first) firsts ≡ list_any (λ ip. first_bits bits ip == first) ips) → network.bits ≡ bits → list_any (nat_eq (first_bits bits network.ip)) firsts ≡ b → list_any (contains_address (network_seen network)) ips ≡ b
contained bits ips firsts network b kept same found =
    same_any (contains_address (network_seen network)) (λ ip. first_bits bits ip == first_bits bits network.ip) ips
    (λ ip. ap (λ n. first_bits n network.ip == first_bits n ip) same ∙ sym (turned (first_bits bits network.ip) (first_bits bits ip) (first_bits bits network.ip == first_bits bits ip) refl))
    ∙ (sym (kept (first_bits bits network.ip)) ∙ found)

-- one more element for a test
pub any_more : {X : Type 0} (p : X → Bool) (xs : List X) (i : ℕ) (d : X) (v : Bool) → i < length xs → v ≡ p (get_or xs i d) → cond v true (list_any p (take i xs)) ≡ list_any p (take (i + 1) xs)
any_more p xs i d v within is =
    at v (list_any p (take i xs)) ∙ ap (λ b. list_any p (take i xs) || b) is ∙ sym (list_any_more p xs i d within)
  where
    at : (a b : Bool) → cond a true b ≡ (b || a)
    at true true = refl
    at true false = refl
    at false true = refl
    at false false = refl

one_longer : (a n j : ℕ) → a + n ≡ j → range_with_len a (suc n) ≡ range_with_len a n ++ j ∷ []
one_longer a zero j e = let same : a ≡ j = omega (arith, e) in ap (λ k. k ∷ []) same
one_longer a (suc n) j e = ap (λ rest. a ∷ rest) (one_longer (a + 1) n j (omega (arith, e)))

-- one more number of a range
pub range_more : {Y : Type 0} (f : ℕ → List Y) (n : ℕ) → flat_map f (range_with_len 0 (n + 1)) ≡ flat_map f (range_with_len 0 n) ++ f n
range_more f n =
    let next : n + 1 ≡ suc n = omega arith in
    ap (λ k. flat_map f (range_with_len 0 k)) next
    ∙ ap (flat_map f) (one_longer 0 n n (omega arith))
    ∙ flat_map-append f (range_with_len 0 n) (n ∷ [])
    ∙ ap (λ back. flat_map f (range_with_len 0 n) ++ back) (append-nil (f n))
