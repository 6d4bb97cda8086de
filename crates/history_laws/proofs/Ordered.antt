-- Relations between the elements of a list and the later ones, by recursion on the list.
use Rattle.std.proofs.Common.{◌≡◌, ◌≢◌, ℕ, ◌+◌, ◌<◌, ◌≤◌, ◌==◌, zero, suc, inl, inr, Bool, true, false, cond, List, [], ◌∷◌, ◌++◌, length, get_or, map, refl, subst, Option, Some, None, slice_get, arith}
use Rattle.std.specs.Prelude.{filter, filter_map, flat_map, AllPairs}
use Rattle.std.specs.List.{AllByRecursion, cons_option, list_all, range_with_len}
use Rattle.std.proofs.lemmas.Bool.{and_parts, eqb-true, eqb-false}
use Rattle.std.proofs.lemmas.Option.{none-some, same_Some}
use Rattle.net_base.specs.Stamped.{In}

-- P holds of each element
abbrev pub Each : {X : Type 0} → (X → Type 0) → List X → Type 0
Each P xs = AllByRecursion P xs

-- R holds of each element and each later one
abbrev pub Later : {X : Type 0} → (X → X → Type 0) → List X → Type 0
Later R [] = Unit {0}
Later R (x ∷ xs) = Each (R x) xs × Later R xs

pub each_get : {X : Type 0} (P : X → Type 0) (xs : List X) → Each P xs → (k : ℕ) (d : X) → k < length xs → P (get_or xs k d)
each_get P [] all k d lt = absurd (omega arith)
each_get P (x ∷ xs) all zero d lt = all.0
each_get P (x ∷ xs) all (suc k) d lt = each_get P xs all.1 k d (omega arith)

pub each_from_get : {X : Type 0} (P : X → Type 0) (xs : List X) → ((k : ℕ) (d : X) → k < length xs → P (get_or xs k d)) → Each P xs
each_from_get P [] all = tt
each_from_get P (x ∷ xs) all = (all 0 x (omega arith), each_from_get P xs (λ k d lt. all (suc k) d (omega arith)))

-- what passes a test that all pass
pub all_at : {X : Type 0} (p : X → Bool) (xs : List X) (k : ℕ) (x : X) → list_all p xs ≡ true → slice_get xs k ≡ Some x → p x ≡ true
all_at p [] k x all is = absurd (none-some x is)
all_at p (y ∷ xs) zero x all is = subst (λ u. p u ≡ true) (same_Some y x is) (and_parts (p y) (list_all p xs) all).0
all_at p (y ∷ xs) (suc k) x all is = all_at p xs k x (and_parts (p y) (list_all p xs) all).1 is

pub pairs_from_later : {X : Type 0} (R : X → X → Type 0) (xs : List X) → Later R xs → AllPairs R xs
pairs_from_later R [] all i j d before lt = absurd (omega arith)
pairs_from_later R (x ∷ xs) all zero zero d before lt = absurd (omega arith)
pairs_from_later R (x ∷ xs) all zero (suc j) d before lt = each_get (R x) xs all.0 j d (omega arith)
pairs_from_later R (x ∷ xs) all (suc i) zero d before lt = absurd (omega arith)
pairs_from_later R (x ∷ xs) all (suc i) (suc j) d before lt = pairs_from_later R xs all.1 i j d (omega arith) (omega arith)

pub later_from_pairs : {X : Type 0} (R : X → X → Type 0) (xs : List X) → AllPairs R xs → Later R xs
later_from_pairs R [] all = tt
later_from_pairs R (x ∷ xs) all = (
  each_from_get (R x) xs (λ k d lt. all 0 (suc k) d (omega arith) (omega arith)),
  later_from_pairs R xs (λ i j d before lt. all (suc i) (suc j) d (omega arith) (omega arith)),
)

pub each_weaker : {X : Type 0} (P Q : X → Type 0) → ((x : X) → P x → Q x) → (xs : List X) → Each P xs → Each Q xs
each_weaker P Q weaker [] all = tt
each_weaker P Q weaker (x ∷ xs) all = (weaker x all.0, each_weaker P Q weaker xs all.1)

pub each_any : {X : Type 0} (P : X → Type 0) → ((x : X) → P x) → (xs : List X) → Each P xs
each_any P holds [] = tt
each_any P holds (x ∷ xs) = (holds x, each_any P holds xs)

pub each_both : {X : Type 0} (P Q R : X → Type 0) → ((x : X) → P x → Q x → R x) → (xs : List X) → Each P xs → Each Q xs → Each R xs
each_both P Q R joins [] ps qs = tt
each_both P Q R joins (x ∷ xs) ps qs = (joins x ps.0 qs.0, each_both P Q R joins xs ps.1 qs.1)

pub each_append : {X : Type 0} (P : X → Type 0) (xs ys : List X) → Each P xs → Each P ys → Each P (xs ++ ys)
each_append P [] ys ps qs = qs
each_append P (x ∷ xs) ys ps qs = (ps.0, each_append P xs ys ps.1 qs)

pub each_map : {X Y : Type 0} (P : Y → Type 0) (f : X → Y) (xs : List X) → Each (λ x. P (f x)) xs → Each P (map f xs)
each_map P f [] all = tt
each_map P f (x ∷ xs) all = (all.0, each_map P f xs all.1)

pub each_filter : {X : Type 0} (P : X → Type 0) (p : X → Bool) (xs : List X) → Each P xs → Each P (filter p xs)
each_filter P p [] all = tt
each_filter P p (x ∷ xs) all = at (p x) (each_filter P p xs all.1)
  where
    at : (b : Bool) → Each P (filter p xs) → Each P (cond b (x ∷ filter p xs) (filter p xs))
    at true rest = (all.0, rest)
    at false rest = rest

pub each_passes : {X : Type 0} (p : X → Bool) (xs : List X) → Each (λ x. p x ≡ true) (filter p xs)
each_passes p [] = tt
each_passes p (x ∷ xs) = at (p x) refl (each_passes p xs)
  where
    at : (b : Bool) → p x ≡ b → Each (λ y. p y ≡ true) (filter p xs) → Each (λ y. p y ≡ true) (cond b (x ∷ filter p xs) (filter p xs))
    at true e rest = (e, rest)
    at false e rest = rest

pub each_filter_map : {X Y : Type 0} (P : Y → Type 0) (h : X → Option Y) → ((x : X) (y : Y) → h x ≡ Some y → P y) → (xs : List X) → Each P (filter_map h xs)
each_filter_map P h gives [] = tt
each_filter_map {X} {Y} P h gives (x ∷ xs) = at (h x) refl (each_filter_map P h gives xs)
  where
    at : (o : Option Y) → h x ≡ o → Each P (filter_map h xs) → Each P (cons_option o (filter_map h xs))
    at None e rest = rest
    at (Some y) e rest = (gives x y e, rest)

pub each_flat_map : {X Y : Type 0} (P : Y → Type 0) (f : X → List Y) → ((x : X) → Each P (f x)) → (xs : List X) → Each P (flat_map f xs)
each_flat_map P f holds [] = tt
each_flat_map P f holds (x ∷ xs) = each_append P (f x) (flat_map f xs) (holds x) (each_flat_map P f holds xs)

pub later_append : {X : Type 0} (R : X → X → Type 0) (xs ys : List X) → Later R xs → Later R ys → Each (λ x. Each (R x) ys) xs → Later R (xs ++ ys)
later_append R [] ys ps qs cross = qs
later_append R (x ∷ xs) ys ps qs cross = (each_append (R x) xs ys ps.0 cross.0, later_append R xs ys ps.1 qs cross.1)

pub later_filter : {X : Type 0} (R : X → X → Type 0) (p : X → Bool) (xs : List X) → Later R xs → Later R (filter p xs)
later_filter R p [] all = tt
later_filter R p (x ∷ xs) all = at (p x) (later_filter R p xs all.1)
  where
    at : (b : Bool) → Later R (filter p xs) → Later R (cond b (x ∷ filter p xs) (filter p xs))
    at true rest = (each_filter (R x) p xs all.0, rest)
    at false rest = rest

-- where P holds of each, S between two gives R between what they are mapped to
pub later_map : {X Y : Type 0} (R : Y → Y → Type 0) (S : X → X → Type 0) (P : X → Type 0) (f : X → Y) → ((x y : X) → P x → P y → S x y → R (f x) (f y)) → (xs : List X) → Each P xs → Later S xs → Later R (map f xs)
later_map R S P f gives [] ps all = tt
later_map R S P f gives (x ∷ xs) ps all = (
  each_map (R (f x)) f xs (each_both P (S x) (λ y. R (f x) (f y)) (λ y py s. gives x y ps.0 py s) xs ps.1 all.0),
  later_map R S P f gives xs ps.1 all.1,
)

-- R between the elements of one piece and those of each later piece
cross_flat_map : {X Y : Type 0} (R : Y → Y → Type 0) (f : X → List Y) (zs : List Y) (ys : List X) → Each (λ y. Each (λ z. Each (R z) (f y)) zs) ys → Each (λ z. Each (R z) (flat_map f ys)) zs
cross_flat_map R f zs [] all = each_any (λ z. Each (R z) []) (λ z. tt) zs
cross_flat_map R f zs (y ∷ ys) all =
    each_both (λ z. Each (R z) (f y)) (λ z. Each (R z) (flat_map f ys)) (λ z. Each (R z) (f y ++ flat_map f ys))
    (λ z here rest. each_append (R z) (f y) (flat_map f ys) here rest) zs all.0 (cross_flat_map R f zs ys all.1)

pub later_flat_map : {X Y : Type 0} (R : Y → Y → Type 0) (S : X → X → Type 0) (P : X → Type 0) (f : X → List Y) → ((x : X) → P x → Later R (f x)) → ((x y : X) → P x → P y → S x y → Each (λ z. Each (R z) (f y)) (f x)) → (xs : List X) → Each P xs → Later S xs → Later R (flat_map f xs)
later_flat_map R S P f within across [] ps all = tt
later_flat_map R S P f within across (x ∷ xs) ps all =
    later_append R (f x) (flat_map f xs) (within x ps.0) (later_flat_map R S P f within across xs ps.1 all.1)
    (cross_flat_map R f (f x) xs (each_both P (S x) (λ y. Each (λ z. Each (R z) (f y)) (f x)) (λ y py s. across x y ps.0 py s) xs ps.1 all.0))

-- the numbers from a on, n of them
pub in_range : (a n c : ℕ) → a ≤ c → c < a + n → In c (range_with_len a n)
in_range a zero c le lt = absurd (omega arith)
in_range a (suc n) c le lt = by (c == a) refl (λ more. in_range (a + 1) n c more (omega arith))
  where
    by : (b : Bool) → (c == a) ≡ b → (a + 1 ≤ c → In c (range_with_len (a + 1) n)) → In c (range_with_len a (suc n))
    by true is rest = inl (eqb-true c a is)
    by false is rest = let apart : c ≢ a = eqb-false c a is in inr (rest (omega (arith, apart)))
