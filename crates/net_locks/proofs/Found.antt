-- What stands in lists, and the least caller that could record.
use Rattle.std.proofs.Common.{◌≡◌, ℕ, zero, suc, ◌+◌, ◌<◌, ◌≤◌, ◌⊎◌, ◌&&◌, ◌||◌, inl, inr, Bool, true, false, List, [], ◌∷◌, ◌++◌, length, map, min, filter_map, take, get_or, Option, Some, None, refl, ap, sym, subst, ◌∙◌, arith}
use Rattle.std.specs.List.{cons_option}
use Rattle.std.specs.Option.{option_map_or}
use Rattle.std.proofs.lemmas.List.{map-append, take_all, take_more}
use Rattle.std.proofs.lemmas.Bool.{cases_lt, true≢false}
use Rattle.net_base.specs.Stamped.{In}
use Rattle.net_locks.specs.declared.clock.Busy.{Busy}
use Rattle.net_locks.specs.declared.clock.Standing.{Standing}
use Rattle.net_locks.specs.Standings.{DoesAny, FindsBusy, IsLeastOf, standing_callers}

-- Lists.

module _ {A : Type 0} where
  pub in_front : (xs ys : List A) (x : A) → In x xs → In x (xs ++ ys)
  in_front [] ys x there = absurd there
  in_front (y ∷ xs) ys x (inl is) = inl is
  in_front (y ∷ xs) ys x (inr there) = inr (in_front xs ys x there)

  pub in_back : (xs ys : List A) (x : A) → In x ys → In x (xs ++ ys)
  in_back [] ys x there = there
  in_back (y ∷ xs) ys x there = inr (in_back xs ys x there)

  pub in_either : (xs ys : List A) (x : A) → In x (xs ++ ys) → In x xs ⊎ In x ys
  in_either [] ys x there = inr there
  in_either (y ∷ xs) ys x (inl is) = inl (inl is)
  in_either (y ∷ xs) ys x (inr there) = elim (in_either xs ys x there) [ inl left ↦ inl (inr left) | inr right ↦ inr right ]

  pub in_split : (xs : List A) (x : A) → In x xs → (p : List A) × (q : List A) × (xs ≡ p ++ x ∷ q)
  in_split [] x there = absurd there
  in_split (y ∷ xs) x (inl is) = ([], xs, ap (λ (z : A). z ∷ xs) (sym is))
  in_split (y ∷ xs) x (inr there) = let rest = in_split xs x there in (y ∷ rest.0, rest.1, ap (λ (zs : List A). y ∷ zs) rest.2)

  -- what stands at a place
  pub in_at : (xs : List A) (i : ℕ) (x : A) → i < length xs → x ≡ get_or xs i x → In x xs
  in_at [] i x lt is = absurd (omega (arith, lt))
  in_at (y ∷ xs) zero x lt is = inl is
  in_at (y ∷ xs) (suc i) x lt is = inr (in_at xs i x (omega (arith, lt)) is)

module _ {A B : Type 0} (f : A → B) where
  pub in_map : (xs : List A) (x : A) → In x xs → In (f x) (map f xs)
  in_map [] x there = absurd there
  in_map (y ∷ xs) x (inl is) = inl (ap f is)
  in_map (y ∷ xs) x (inr there) = inr (in_map xs x there)

  pub map_in : (xs : List A) (y : B) → In y (map f xs) → (x : A) × In x xs × (y ≡ f x)
  map_in [] y there = absurd there
  map_in (x ∷ xs) y (inl is) = (x, inl refl, is)
  map_in (x ∷ xs) y (inr there) = let p = map_in xs y there in (p.0, inr p.1, p.2)

module _ {A B : Type 0} (f : A → Option B) where
  pub in_filter_map : (xs : List A) (x : A) (y : B) → In x xs → f x ≡ Some y → In y (filter_map f xs)
  in_filter_map [] x y there gives = absurd there
  in_filter_map (z ∷ xs) x y (inl is) gives = rw (ap f (sym is) ∙ gives) (inl refl)
  in_filter_map (z ∷ xs) x y (inr there) gives = past_first (f z) (in_filter_map xs x y there gives)
    where
      past_first : (o : Option B) → In y (filter_map f xs) → In y (cons_option o (filter_map f xs))
      past_first None later = later
      past_first (Some k) later = inr later

  pub filter_map_in : (xs : List A) (y : B) → In y (filter_map f xs) → (x : A) × In x xs × (f x ≡ Some y)
  filter_map_in [] y there = absurd there
  filter_map_in (x ∷ xs) y there = by_first (f x) refl there (filter_map_in xs y)
    where
      more : (z : A) × In z xs × (f z ≡ Some y) → (z : A) × In z (x ∷ xs) × (f z ≡ Some y)
      more p = (p.0, inr p.1, p.2)

      by_first : (o : Option B) → f x ≡ o → In y (cons_option o (filter_map f xs)) → (In y (filter_map f xs) → (z : A) × In z xs × (f z ≡ Some y))
          → (z : A) × In z (x ∷ xs) × (f z ≡ Some y)
      by_first None is there rest = more (rest there)
      by_first (Some k) is (inl same) rest = (x, inl refl, is ∙ ap (λ (j : B). Some j) (sym same))
      by_first (Some k) is (inr later) rest = more (rest later)

-- Callers.

module _ (goes full : ℕ → Bool) (cs : List ℕ) (c : ℕ) where
  one_more : (P : ℕ → Type 0) → ((d : ℕ) → In d cs → P d) → P c → (d : ℕ) → In d (cs ++ c ∷ []) → P d
  one_more P each here d there = at (in_either cs (c ∷ []) d there)
    where
      at : In d cs ⊎ In d (c ∷ []) → P d
      at (inl before) = each d before
      at (inr (inl is)) = subst P (sym is) here
      at (inr (inr none)) = absurd none

  fails_more : (test : ℕ → Bool) → ((d : ℕ) → In d cs → test d ≡ false) → test c ≡ false → (d : ℕ) → In d (cs ++ c ∷ []) → test d ≡ false
  fails_more test each here = one_more (λ (d : ℕ). test d ≡ false) each here

  stays_least : (found : Option ℕ) → IsLeastOf goes cs found → goes c ≡ false → IsLeastOf goes (cs ++ c ∷ []) found
  stays_least None none fails = fails_more goes none fails
  stays_least (Some l) least fails =
      (in_front cs (c ∷ []) l least.0, least.1, one_more (λ (d : ℕ). goes d ≡ true → l ≤ d) least.2 (λ is. absurd (true≢false (sym is ∙ fails))))

  stays_any : (test : ℕ → Bool) (found : Bool) → DoesAny test cs found → test c ≡ false → DoesAny test (cs ++ c ∷ []) found
  stays_any test false none fails = fails_more test none fails
  stays_any test true some fails = (some.0, in_front cs (c ∷ []) some.0 some.1, some.2)

  and_false : (a b : Bool) → b ≡ false → (a && b) ≡ false
  and_false true b is = is
  and_false false b is = refl

  -- a caller more that couldn't record
  pub finds_less : (found : Busy) → FindsBusy goes full cs found → goes c ≡ false → FindsBusy goes full (cs ++ c ∷ []) found
  finds_less found f fails =
      record {
        least_is = stays_least found.least f.least_is fails;
        full_is = stays_any (λ (d : ℕ). full d && goes d) found.full f.full_is (and_false (full c) (goes c) fails);
      }

  new_least : (found : Option ℕ) → IsLeastOf goes cs found → goes c ≡ true → IsLeastOf goes (cs ++ c ∷ []) (Some (option_map_or (λ (l : ℕ). min l c) found c))
  new_least None none is =
      (in_back cs (c ∷ []) c (inl refl), is, one_more (λ (d : ℕ). goes d ≡ true → c ≤ d) (λ d there passes. absurd (true≢false (sym passes ∙ none d there))) (λ _. omega arith))
  new_least (Some l) least is = by_order (cases_lt c l)
    where
      by_order : (c < l) ⊎ (l ≤ c) → IsLeastOf goes (cs ++ c ∷ []) (Some (min l c))
      by_order (inl lt) =
          subst (λ (k : ℕ). IsLeastOf goes (cs ++ c ∷ []) (Some k)) (omega (arith, lt))
          (in_back cs (c ∷ []) c (inl refl), is, one_more (λ (d : ℕ). goes d ≡ true → c ≤ d) (λ d there passes. omega (arith, lt, least.2 d there passes)) (λ _. omega arith))
      by_order (inr le) =
          subst (λ (k : ℕ). IsLeastOf goes (cs ++ c ∷ []) (Some k)) (omega (arith, le))
          (in_front cs (c ∷ []) l least.0, least.1, one_more (λ (d : ℕ). goes d ≡ true → l ≤ d) least.2 (λ _. le))

  new_any : (test : ℕ → Bool) (found new : Bool) → DoesAny test cs found → test c ≡ new → DoesAny test (cs ++ c ∷ []) (found || new)
  new_any test true new some is = stays_true some
    where
      stays_true : (d : ℕ) × In d cs × (test d ≡ true) → DoesAny test (cs ++ c ∷ []) true
      stays_true some = (some.0, in_front cs (c ∷ []) some.0 some.1, some.2)
  new_any test false true none is = (c, in_back cs (c ∷ []) c (inl refl), is)
  new_any test false false none is = fails_more test none is

  -- a caller more that could
  pub finds_more : (found : Busy) (full_it : Bool) → FindsBusy goes full cs found → goes c ≡ true → full_it ≡ full c
      → FindsBusy goes full (cs ++ c ∷ []) (record { least = Some (option_map_or (λ (l : ℕ). min l c) found.least c); full = found.full || full_it })
  finds_more found full_it f passes is =
      record {
        least_is = new_least found.least f.least_is passes;
        full_is = new_any (λ (d : ℕ). full d && goes d) found.full full_it f.full_is (passes_as (full c) (goes c) passes ∙ sym is);
      }
    where
      passes_as : (a b : Bool) → b ≡ true → (a && b) ≡ a
      passes_as true b yes_ = yes_
      passes_as false b yes_ = refl

  pub finds_with : (found : Busy) (full_it : Bool) → FindsBusy goes full cs found → goes c ≡ true → full_it ≡ full c
      → (least : ℕ) → least ≡ option_map_or (λ (l : ℕ). min l c) found.least c → (any : Bool) → any ≡ (found.full || full_it)
      → FindsBusy goes full (cs ++ c ∷ []) (record { least = Some least; full = any })
  finds_with found full_it f passes is least at any so =
      subst (λ (l : ℕ). FindsBusy goes full (cs ++ c ∷ []) (record { least = Some l; full = any })) (sym at)
      (subst (λ (b : Bool). FindsBusy goes full (cs ++ c ∷ []) (record { least = Some (option_map_or (λ (l : ℕ). min l c) found.least c); full = b })) (sym so)
      (finds_more found full_it f passes is))

pub or_true : (a b : Bool) → a ≡ true → a ≡ (a || b)
or_true a b is = is ∙ sym (ap (λ (x : Bool). x || b) is)

pub or_false : (a b : Bool) → a ≡ false → b ≡ (a || b)
or_false a b is = sym (ap (λ (x : Bool). x || b) is)

-- one more of those that stand in a row
pub callers_more : (ss : List Standing) (i : ℕ) (s : Standing) → i < length ss → s ≡ get_or ss i s → standing_callers (take (i + 1) ss) ≡ standing_callers (take i ss) ++ s.caller ∷ []
callers_more ss i s lt is =
    ap standing_callers (take_more ss i s lt)
    ∙ (map-append (λ (t : Standing). t.caller) (take i ss) (get_or ss i s ∷ [])
    ∙ ap (λ (t : Standing). standing_callers (take i ss) ++ t.caller ∷ []) (sym is))

pub callers_all : (ss : List Standing) (i : ℕ) → length ss ≤ i → standing_callers (take i ss) ≡ standing_callers ss
callers_all ss i le = ap standing_callers (take_all i ss le)
