-- Members of lists, and what stands at places.
use Rattle.std.proofs.Common.{◌≡◌, ℕ, zero, suc, ◌+◌, ◌<◌, ◌≤◌, ◌⊎◌, inl, inr, Bool, true, false, cond, List, [], ◌∷◌, ◌++◌, length, map, drop, Option, Some, None, refl, sym, ap, subst, ◌∙◌, slice_get, append_assoc, arith}
use Rattle.std.specs.Prelude.{filter, flat_map, is_none}
use Rattle.std.specs.List.{slice_set}
use Rattle.std.proofs.lemmas.Bool.{true≢false, false≢true}
use Rattle.std.proofs.lemmas.Option.{none-some, same_Some}
use Rattle.net_base.specs.Stamped.{In}

-- Members.

pub in_front : {A : Type 0} (x : A) (xs ys : List A) → In x xs → In x (xs ++ ys)
in_front x [] ys none = absurd none
in_front x (y ∷ xs) ys (inl is) = inl is
in_front x (y ∷ xs) ys (inr there) = inr (in_front x xs ys there)

pub in_back : {A : Type 0} (x : A) (xs ys : List A) → In x ys → In x (xs ++ ys)
in_back x [] ys there = there
in_back x (y ∷ xs) ys there = inr (in_back x xs ys there)

pub in_parts : {A : Type 0} (x : A) (xs ys : List A) → In x (xs ++ ys) → In x xs ⊎ In x ys
in_parts x [] ys there = inr there
in_parts x (y ∷ xs) ys (inl is) = inl (inl is)
in_parts x (y ∷ xs) ys (inr there) = elim (in_parts x xs ys there) [ inl front ↦ inl (inr front) | inr back ↦ inr back ]

pub in_of_get : {A : Type 0} (xs : List A) (k : ℕ) (x : A) → slice_get xs k ≡ Some x → In x xs
in_of_get [] k x is = absurd (none-some x is)
in_of_get (y ∷ xs) zero x is = inl (sym (same_Some y x is))
in_of_get (y ∷ xs) (suc k) x is = inr (in_of_get xs k x is)

pub in_filter : {A : Type 0} (test : A → Bool) (x : A) (xs : List A) → In x xs → test x ≡ true → In x (filter test xs)
in_filter test x [] none is = absurd none
in_filter test x (y ∷ xs) (inl here) is = at_head (test y) (ap test (sym here) ∙ is)
  where
    at_head : (b : Bool) → b ≡ true → In x (cond b (y ∷ filter test xs) (filter test xs))
    at_head true passes = inl here
    at_head false passes = absurd (true≢false (sym passes))
in_filter test x (y ∷ xs) (inr there) is = past_head (in_filter test x xs there is) (test y)
  where
    past_head : In x (filter test xs) → (b : Bool) → In x (cond b (y ∷ filter test xs) (filter test xs))
    past_head rest true = inr rest
    past_head rest false = rest

-- Lists.

pub append_one : {A : Type 0} (xs : List A) (x : A) (more : List A) → (xs ++ x ∷ []) ++ more ≡ xs ++ x ∷ more
append_one xs x more = append_assoc xs (x ∷ []) more

pub none_is : {A : Type 0} (o : Option A) → is_none o ≡ true → o ≡ None
none_is None is = refl
none_is (Some x) is = absurd (false≢true is)

pub no_cons : {A : Type 0} (x : A) (xs : List A) → x ∷ xs ≡ [] → ⊥
no_cons x xs is = absurd (omega (arith, ap length is))

pub length_map : {A B : Type 0} (f : A → B) (xs : List A) → length (map f xs) ≡ length xs
length_map f [] = refl
length_map f (x ∷ xs) = ap (λ n. suc n) (length_map f xs)

pub in_flat : {A B : Type 0} (f : A → List B) (xs : List A) (x : A) (y : B) → In x xs → In y (f x) → In y (flat_map f xs)
in_flat f [] x y there in_f = absurd there
in_flat f (z ∷ xs) x y (inl is) in_f = in_front y (f z) (flat_map f xs) (subst (λ u. In y (f u)) is in_f)
in_flat f (z ∷ xs) x y (inr there) in_f = in_back y (f z) (flat_map f xs) (in_flat f xs x y there in_f)

-- Places.

-- the first, if there is one
pub first_of : {A : Type 0} (xs : List A) (x : A) → slice_get xs 0 ≡ Some x → xs ≡ x ∷ drop 1 xs
first_of [] x is = absurd (none-some x is)
first_of {A} (y ∷ xs) x is = ap (λ (z : A). z ∷ xs) (same_Some y x is)

pub none_first : {A : Type 0} (xs : List A) → slice_get xs 0 ≡ None → xs ≡ []
none_first [] is = refl
none_first (x ∷ xs) is = absurd (none-some x (sym is))

pub there_at : {A : Type 0} (xs : List A) (n : ℕ) → n < length xs → (x : A) × (slice_get xs n ≡ Some x)
there_at [] n lt = absurd (omega (arith, lt))
there_at (x ∷ xs) zero lt = (x, refl)
there_at (x ∷ xs) (suc n) lt = there_at xs n (omega (arith, lt))

-- a place that is set
pub get_set : {A : Type 0} (xs : List A) (i : ℕ) (y : A) → i < length xs → slice_get (slice_set xs i y) i ≡ Some y
get_set [] i y lt = absurd (omega (arith, lt))
get_set (x ∷ xs) zero y lt = refl
get_set (x ∷ xs) (suc i) y lt = get_set xs i y (omega (arith, lt))

pub get_set_other : {A : Type 0} (xs : List A) (i j : ℕ) (y : A) → (i ≡ j → ⊥) → slice_get (slice_set xs i y) j ≡ slice_get xs j
get_set_other [] i j y apart = refl
get_set_other (x ∷ xs) zero zero y apart = absurd (apart refl)
get_set_other (x ∷ xs) zero (suc j) y apart = refl
get_set_other (x ∷ xs) (suc i) zero y apart = refl
get_set_other (x ∷ xs) (suc i) (suc j) y apart = get_set_other xs i j y (λ e. apart (ap suc e))

-- what is left from a place on
pub drop_one : {A : Type 0} (xs : List A) (n : ℕ) (s : A) → slice_get xs n ≡ Some s → drop n xs ≡ s ∷ drop (suc n) xs
drop_one [] n s is = absurd (none-some s is)
drop_one (x ∷ xs) zero s is = ap (λ y. y ∷ xs) (same_Some x s is)
drop_one (x ∷ xs) (suc n) s is = drop_one xs n s is

pub next_one : {A : Type 0} (xs : List A) (n : ℕ) (s : A) → slice_get xs n ≡ Some s → drop n xs ≡ s ∷ drop (n + 1) xs
next_one xs n s is = let e : suc n ≡ n + 1 = omega arith in subst (λ (k : ℕ). drop n xs ≡ s ∷ drop k xs) e (drop_one xs n s is)

pub past_all : {A : Type 0} (xs : List A) (n : ℕ) → length xs ≤ n → drop n xs ≡ []
past_all [] zero le = refl
past_all [] (suc n) le = refl
past_all (x ∷ xs) zero le = absurd (omega (arith, le))
past_all (x ∷ xs) (suc n) le = past_all xs n (omega (arith, le))
