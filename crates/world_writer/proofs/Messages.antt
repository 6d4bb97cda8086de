-- The steps of so many messages, one message more.
use Rattle.std.proofs.Common.{◌≡◌, ℕ, zero, suc, ◌+◌, List, [], ◌∷◌, ◌++◌, sym, ◌∙◌, ap, append_assoc, arith}
use Rattle.std.specs.Prelude.{flat_map}
use Rattle.std.specs.List.{range_with_len}
use Rattle.std.proofs.lemmas.List.{append-nil}
use Rattle.std.proofs.lemmas.List.Concat.{flat_map-append}

one_longer : (a n j : ℕ) → a + n ≡ j → range_with_len a (suc n) ≡ range_with_len a n ++ j ∷ []
one_longer a zero j e = let same : a ≡ j = omega (arith, e) in ap (λ k. k ∷ []) same
one_longer a (suc n) j e = ap (λ rest. a ∷ rest) (one_longer (a + 1) n j (omega (arith, e)))

all_with_next : {Y : Type 0} (f : ℕ → List Y) (k : ℕ) → flat_map f (range_with_len 1 (k + 1)) ≡ flat_map f (range_with_len 1 k) ++ f (k + 1)
all_with_next f k =
    let next : k + 1 ≡ suc k = omega arith in
    ap (λ n. flat_map f (range_with_len 1 n)) next
    ∙ ap (flat_map f) (one_longer 1 k (k + 1) (omega arith))
    ∙ flat_map-append f (range_with_len 1 k) ((k + 1) ∷ [])
    ∙ ap (λ back. flat_map f (range_with_len 1 k) ++ back) (append-nil (f (k + 1)))

-- those of the first k messages were added to what was there, and then those of the next
pub one_more : {Y : Type 0} (f : ℕ → List Y) (front before after : List Y) (k : ℕ) → before ≡ front ++ flat_map f (range_with_len 1 k) → after ≡ before ++ f (k + 1) → after ≡ front ++ flat_map f (range_with_len 1 (k + 1))
one_more f front before after k so_far added =
    added ∙ ap (λ steps. steps ++ f (k + 1)) so_far
    ∙ append_assoc front (flat_map f (range_with_len 1 k)) (f (k + 1))
    ∙ ap (λ more. front ++ more) (sym (all_with_next f k))
