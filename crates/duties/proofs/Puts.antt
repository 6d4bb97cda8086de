-- Where a due moment stands in a list, and the list with another put there.
use Rattle.std.proofs.Common.{◌≡◌, ℕ, suc, ◌≤◌, ◌==◌, Bool, true, false, List, [], ◌∷◌, ◌++◌, length, take, drop, slice_get, nat_lt, option_to_list, Option, if◌then◌else◌, refl, ap, sym, subst, ◌∙◌, arith, append-nil}
use Rattle.std.specs.List.{remove}
use Rattle.std.proofs.lemmas.Bool.{true≢false}
use Rattle.duties.specs.declared.due.Due.{Due}
use Rattle.duties.specs.Places.{HoldsPut, before, is_due_at, due_place, put_at}

-- no more than there are
pub before_within : (k : ℕ) (ds : List Due) → before k ds ≤ length ds
before_within k [] = omega arith
before_within k (d ∷ ds) = by_test (nat_lt (due_place d) k) (before_within k ds)
  where
    by_test : (b : Bool) → before k ds ≤ length ds → (if b then suc (before k ds) else 0) ≤ suc (length ds)
    by_test true rest = omega (arith, rest)
    by_test false rest = omega arith

-- What is put there.

at_front : (o : Option Due) (ds : List Due) → option_to_list o ++ ds ≡ take 0 ds ++ option_to_list o ++ drop 0 ds
at_front o [] = refl
at_front o (d ∷ ds) = refl

-- nothing stands at the place
pub holds_not : (k : ℕ) (ds : List Due) → is_due_at k (slice_get ds (before k ds)) ≡ false → HoldsPut k (before k ds) ds ds
holds_not k [] none o = sym (append-nil (option_to_list o))
holds_not k (d ∷ ds) none o = by_test (nat_lt (due_place d) k) none (λ rest. holds_not k ds rest o)
  where
    at_head : (t : Bool) → t ≡ false → option_to_list o ++ (if t then ds else d ∷ ds) ≡ option_to_list o ++ d ∷ ds
    at_head true is = absurd (true≢false is)
    at_head false is = refl

    by_test : (b : Bool) → is_due_at k (slice_get (d ∷ ds) (if b then suc (before k ds) else 0)) ≡ false
        → (is_due_at k (slice_get ds (before k ds)) ≡ false → put_at k o ds ≡ take (before k ds) ds ++ option_to_list o ++ drop (before k ds) ds)
        → (if b then d ∷ put_at k o ds else option_to_list o ++ (if due_place d == k then ds else d ∷ ds))
        ≡ take (if b then suc (before k ds) else 0) (d ∷ ds) ++ option_to_list o ++ drop (if b then suc (before k ds) else 0) (d ∷ ds)
    by_test true is rest = ap (λ (l : List Due). d ∷ l) (rest is)
    by_test false is rest = at_head (due_place d == k) is

-- or what stands there is taken out
pub holds_there : (k : ℕ) (ds : List Due) → is_due_at k (slice_get ds (before k ds)) ≡ true → HoldsPut k (before k ds) ds (remove ds (before k ds))
holds_there k [] one o = absurd (true≢false (sym one))
holds_there k (d ∷ ds) one o = by_test (nat_lt (due_place d) k) one (λ rest. holds_there k ds rest o)
  where
    at_head : (t : Bool) → t ≡ true → option_to_list o ++ (if t then ds else d ∷ ds) ≡ option_to_list o ++ ds
    at_head true is = refl
    at_head false is = absurd (true≢false (sym is))

    by_test : (b : Bool) → is_due_at k (slice_get (d ∷ ds) (if b then suc (before k ds) else 0)) ≡ true
        → (is_due_at k (slice_get ds (before k ds)) ≡ true
        → put_at k o ds ≡ take (before k ds) (remove ds (before k ds)) ++ option_to_list o ++ drop (before k ds) (remove ds (before k ds)))
        → (if b then d ∷ put_at k o ds else option_to_list o ++ (if due_place d == k then ds else d ∷ ds))
        ≡ take (if b then suc (before k ds) else 0) (remove (d ∷ ds) (if b then suc (before k ds) else 0))
        ++ option_to_list o
        ++ drop (if b then suc (before k ds) else 0) (remove (d ∷ ds) (if b then suc (before k ds) else 0))
    by_test true is rest = ap (λ (l : List Due). d ∷ l) (rest is)
    by_test false is rest = at_head (due_place d == k) is ∙ at_front o ds

-- What is put, where the list is known by several names.
module _ (k m : ℕ) (ds items : List Due) (is : items ≡ ds) (b : Bool) (first second : List Due) (one : first ≡ items) (two : second ≡ items)
    (count : m ≡ before k first) (told : b ≡ is_due_at k (slice_get second m)) where
  count_is : m ≡ before k ds
  count_is = count ∙ ap (before k) (one ∙ is)

  told_is : b ≡ is_due_at k (slice_get ds (before k ds))
  told_is = told ∙ (ap (λ (l : List Due). is_due_at k (slice_get l m)) (two ∙ is) ∙ ap (λ (i : ℕ). is_due_at k (slice_get ds i)) count_is)

  pub not_so : b ≡ false → HoldsPut k m ds ds
  not_so absent = subst (λ (i : ℕ). HoldsPut k i ds ds) (sym count_is) (holds_not k ds (sym told_is ∙ absent))

  pub there_so : b ≡ true → (new : List Due) → new ≡ remove items m → HoldsPut k m ds new
  there_so stands new gone =
      subst (λ (i : ℕ). HoldsPut k i ds new) (sym count_is)
      (subst (λ (l : List Due). HoldsPut k (before k ds) ds l) (sym (gone ∙ (ap (λ (l : List Due). remove l m) is ∙ ap (remove ds) count_is)))
      (holds_there k ds (sym told_is ∙ stands)))

  pub within_so : m ≤ length ds
  within_so = omega (arith, count_is, before_within k ds)
