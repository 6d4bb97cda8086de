-- Names, each once, a name at a time.
use Rattle.std.proofs.Common.{◌≡◌, ℕ, Bool, true, false, not, cond, ◌||◌, bytes_eq, List, [], ◌∷◌, ◌++◌, refl, sym, ap, ◌∙◌, arith, append-nil, append_assoc}
use Rattle.std.specs.Prelude.{filter}
use Rattle.std.specs.List.{list_any}
use Rattle.std.proofs.lemmas.List.Elements.{filter-append}
use Rattle.std.proofs.lemmas.Slice.Eq.{bytes_eq-Decides}
use Rattle.net_base.specs.NdbBundle.{each_once}
use Rattle.formats.proofs.Shared.{false_true}
use Rattle.ndb_reader.specs.Names.{with_one_name, with_names}
use Rattle.net_base.proofs.Shared.{equal_texts}

-- the names that are not this one
others : List ℕ → List (List ℕ) → List (List ℕ)
others n ns = filter (λ m. not (bytes_eq m n)) ns

-- the name is one of these
among : List ℕ → List (List ℕ) → Bool
among n ns = list_any (λ m. bytes_eq m n) ns

pub turned : (x n : List ℕ) → bytes_eq x n ≡ bytes_eq n x
turned x n = grind (arith, bytes_eq-Decides x n, bytes_eq-Decides n x)

-- another name stays
among_others : (x n : List ℕ) (ns : List (List ℕ)) → bytes_eq n x ≡ false → among n (others x ns) ≡ among n ns
unfolding among others
among_others x n [] apart = refl
among_others x n (m ∷ ns) apart = at (bytes_eq m x) refl (bytes_eq m n) refl (among_others x n ns apart)
  where
    clash : bytes_eq m x ≡ true → bytes_eq m n ≡ true → ⊥
    clash g h = false_true (sym apart ∙ (ap (λ k. bytes_eq k x) (sym (equal_texts m n h)) ∙ g))

    at : (same : Bool) → bytes_eq m x ≡ same → (here : Bool) → bytes_eq m n ≡ here → among n (others x ns) ≡ among n ns → list_any (λ k. bytes_eq k n) (cond (not same) (m ∷ others x ns) (others x ns)) ≡ (here || among n ns)
    at true e true h rest = absurd (clash e h)
    at true e false h rest = rest
    at false e here h rest = ap (λ b. b || among n (others x ns)) h ∙ ap (λ b. here || b) rest

others_push : (x n : List ℕ) (ns : List (List ℕ)) (b : Bool) → bytes_eq n x ≡ b → others x (ns ++ n ∷ []) ≡ others x ns ++ cond (not b) (n ∷ []) []
unfolding others
others_push x n ns b same =
    filter-append (λ m. not (bytes_eq m x)) ns (n ∷ [])
    ∙ ap (λ holds. others x ns ++ cond (not holds) (n ∷ []) []) same

-- one more name
once_push : (ns : List (List ℕ)) (n : List ℕ) → each_once (ns ++ n ∷ []) ≡ with_one_name (each_once ns) n
unfolding among others
once_push [] n = refl
once_push (x ∷ ns) n = ap (λ rest. x ∷ others x rest) (once_push ns n) ∙ at (bytes_eq x n) refl (among n (each_once ns)) refl
  where
    at : (same : Bool) → bytes_eq x n ≡ same → (had : Bool) → among n (each_once ns) ≡ had → (x ∷ others x (cond had (each_once ns) (each_once ns ++ n ∷ []))) ≡ cond (same || among n (others x (each_once ns))) (x ∷ others x (each_once ns)) ((x ∷ others x (each_once ns)) ++ n ∷ [])
    at true e true h = refl
    at true e false h = ap (λ rest. x ∷ rest) (others_push x n (each_once ns) true (turned n x ∙ e) ∙ append-nil (others x (each_once ns)))
    at false e true h = sym (ap (λ b. cond b (x ∷ others x (each_once ns)) ((x ∷ others x (each_once ns)) ++ n ∷ [])) (among_others x n (each_once ns) (turned n x ∙ e) ∙ h))
    at false e false h =
        ap (λ rest. x ∷ rest) (others_push x n (each_once ns) false (turned n x ∙ e))
        ∙ sym (ap (λ b. cond b (x ∷ others x (each_once ns)) ((x ∷ others x (each_once ns)) ++ n ∷ [])) (among_others x n (each_once ns) (turned n x ∙ e) ∙ h))

once_more : (ns ms : List (List ℕ)) → with_names (each_once ns) ms ≡ each_once (ns ++ ms)
once_more ns [] = ap each_once (sym (append-nil ns))
once_more ns (m ∷ ms) =
    ap (λ (names : List (List ℕ)). with_names names ms) (sym (once_push ns m))
    ∙ once_more (ns ++ m ∷ []) ms ∙ ap each_once (append_assoc ns (m ∷ []) ms)

-- names that are put in a row stand once each
pub once_all : (ms : List (List ℕ)) → with_names [] ms ≡ each_once ms
once_all ms = once_more [] ms

-- names in two rows
pub names_append : (ns xs ys : List (List ℕ)) → with_names ns (xs ++ ys) ≡ with_names (with_names ns xs) ys
names_append ns [] ys = refl
names_append ns (x ∷ xs) ys = names_append (with_one_name ns x) xs ys
