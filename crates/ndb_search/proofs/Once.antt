-- Each number once, an element at a time.
use Rattle.std.proofs.Common.{◌≡◌, ℕ, ◌+◌, ◌<◌, nat_eq, Bool, true, false, not, cond, ◌||◌, ◌==◌, List, [], ◌∷◌, ◌++◌, length, get_or, take, refl, sym, ap, ◌∙◌, arith, append-nil}
use Rattle.std.specs.Prelude.{filter}
use Rattle.std.specs.List.{list_any}
use Rattle.std.proofs.lemmas.List.{take_more}
use Rattle.std.proofs.lemmas.List.Elements.{filter-append}
use Rattle.std.proofs.lemmas.Bool.Decides.{nat_tests}
use Rattle.net_base.specs.Cs.{once_each}
use Rattle.net_base.proofs.Shared.{cond_true, cond_false}
use Rattle.ndb_search.proofs.Covered.{same_any}
use Rattle.ndb_search.proofs.Firsts.{turned}

-- the numbers that are not this one
abbrev pub others : ℕ → List ℕ → List ℕ
others n ns = filter (λ m. not (m == n)) ns

-- the number is one of these
abbrev pub among : ℕ → List ℕ → Bool
among n ns = list_any (λ m. m == n) ns

-- another number stays
pub among_others : (x n : ℕ) (ns : List ℕ) → (n == x) ≡ false → among n (others x ns) ≡ among n ns
among_others x n [] apart = refl
among_others x n (m ∷ ns) apart = at (m == x) refl (m == n) refl (among_others x n ns apart)
  where
    at : (same : Bool) → (m == x) ≡ same → (here : Bool) → (m == n) ≡ here → among n (others x ns) ≡ among n ns → list_any (λ k. k == n) (cond (not same) (m ∷ others x ns) (others x ns)) ≡ (here || among n ns)
    at true e true h rest = absurd (grind (arith, nat_tests))
    at true e false h rest = rest
    at false e here h rest = ap (λ b. b || among n (others x ns)) h ∙ ap (λ b. here || b) rest

others_push_same : (x n : ℕ) (ns : List ℕ) → (n == x) ≡ true → others x (ns ++ n ∷ []) ≡ others x ns
others_push_same x n ns same =
    filter-append (λ m. not (m == x)) ns (n ∷ [])
    ∙ ap (λ holds. others x ns ++ cond (not holds) (n ∷ []) []) same ∙ append-nil (others x ns)

others_push_apart : (x n : ℕ) (ns : List ℕ) → (n == x) ≡ false → others x (ns ++ n ∷ []) ≡ others x ns ++ n ∷ []
others_push_apart x n ns apart =
    filter-append (λ m. not (m == x)) ns (n ∷ [])
    ∙ ap (λ holds. others x ns ++ cond (not holds) (n ∷ []) []) apart

-- one more number
pub once_push : (ns : List ℕ) (n : ℕ) → once_each (ns ++ n ∷ []) ≡ cond (among n (once_each ns)) (once_each ns) (once_each ns ++ n ∷ [])
once_push [] n = refl
once_push (x ∷ ns) n = ap (λ rest. x ∷ others x rest) (once_push ns n) ∙ at (x == n) refl (among n (once_each ns)) refl
  where
    at : (same : Bool) → (x == n) ≡ same → (had : Bool) → among n (once_each ns) ≡ had → (x ∷ others x (cond had (once_each ns) (once_each ns ++ n ∷ []))) ≡ cond (same || among n (others x (once_each ns))) (x ∷ others x (once_each ns)) ((x ∷ others x (once_each ns)) ++ n ∷ [])
    at true e true h = refl
    at true e false h = ap (λ rest. x ∷ rest) (others_push_same x n (once_each ns) (turned x n true e))
    at false e true h = sym (cond_true (among n (others x (once_each ns))) _ _ (among_others x n (once_each ns) (turned x n false e) ∙ h))
    at false e false h =
        ap (λ rest. x ∷ rest) (others_push_apart x n (once_each ns) (turned x n false e))
        ∙ sym (cond_false (among n (others x (once_each ns))) _ _ (among_others x n (once_each ns) (turned x n false e) ∙ h))

-- one more number, put among those that are kept
pub once_more : (ns keys after : List ℕ) (i : ℕ) → i < length ns → keys ≡ once_each (take i ns) → after ≡ cond (list_any (nat_eq (get_or ns i 0)) keys) keys (keys ++ get_or ns i 0 ∷ []) → after ≡ once_each (take (i + 1) ns)
once_more ns keys after i within kept put =
    let n = get_or ns i 0 in
    put
    ∙ ap (λ had. cond had keys (keys ++ n ∷ [])) (same_any (nat_eq n) (λ m. m == n) keys (λ m. turned m n (m == n) refl))
    ∙ ap (λ (those : List ℕ). cond (among n those) those (those ++ n ∷ [])) kept
    ∙ sym (ap once_each (take_more ns i 0 within) ∙ once_push (take i ns) n)

-- fewer than two numbers stand once
pub few_once : (ns : List ℕ) → length ns < 2 → once_each ns ≡ ns
few_once [] few = refl
few_once (n ∷ []) few = refl
few_once (n ∷ m ∷ ns) few = absurd (omega (arith, few))
