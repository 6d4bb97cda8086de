-- Tests, and which numbers of a range pass them.
use Rattle.std.proofs.Common.{◌≡◌, ◌≢◌, ℕ, zero, suc, ◌+◌, ◌<◌, ◌≤◌, ◌==◌, ◌&&◌, ◌||◌, ◌⊎◌, inl, inr, Bool, true, false, cond, nat_lt, Some, None, refl, sym, ap, ◌∙◌, arith}
use Rattle.std.specs.Prelude.{find}
use Rattle.std.specs.List.{list_all, list_any, range_with_len}
use Rattle.std.proofs.lemmas.Bool.{true≢false, false≢true, cases_eq, eqb-true, eqb-false, and_left, and_right, false_from_ne_true}
use Rattle.std.proofs.lemmas.Bool.Decides.{nat_tests}

pub not_below : (n : ℕ) → nat_lt n n ≡ false
not_below n = grind (arith, nat_tests)

pub all_range : (test : ℕ → Bool) (n a : ℕ) → ((k : ℕ) → k < a + n → test k ≡ true) → list_all test (range_with_len a n) ≡ true
all_range test zero a all = refl
all_range test (suc n) a all = rw (all a (omega arith), all_range test n (a + 1) (λ k lt. all k (omega (arith, lt)))) refl

pub none_range : (test : ℕ → Bool) (n a : ℕ) → ((k : ℕ) → k < a + n → test k ≡ false) → list_any test (range_with_len a n) ≡ false
none_range test zero a all = refl
none_range test (suc n) a all = rw (all a (omega arith), none_range test n (a + 1) (λ k lt. all k (omega (arith, lt)))) refl

pub some_range : (test : ℕ → Bool) (n a k : ℕ) → a ≤ k → k < a + n → test k ≡ true → list_any test (range_with_len a n) ≡ true
some_range test zero a k above below is = absurd (omega (arith, above, below))
some_range test (suc n) a k above below is = by_first (test a) refl
    (λ apart. some_range test n (a + 1) k (omega (arith, above, apart)) (omega (arith, below)) is)
  where
    by_first : (b : Bool) → test a ≡ b → ((a ≡ k → ⊥) → list_any test (range_with_len (a + 1) n) ≡ true) → list_any test (range_with_len a (suc n)) ≡ true
    by_first true here rest = rw here refl
    by_first false here rest = rw here (rest (λ e. true≢false (sym is ∙ ap test (sym e) ∙ here)))

-- a range with a number that fails
pub fails_range : (test : ℕ → Bool) (n a k : ℕ) → a ≤ k → k < a + n → test k ≡ false → list_all test (range_with_len a n) ≡ false
fails_range test zero a k above below is = absurd (omega (arith, above, below))
fails_range test (suc n) a k above below is = by_first (a == k) refl
    (λ apart. fails_range test n (a + 1) k (omega (arith, above, apart)) (omega (arith, below)) is)
  where
    by_first : (e : Bool) → (a == k) ≡ e → ((a ≡ k → ⊥) → list_all test (range_with_len (a + 1) n) ≡ false)
        → (test a && list_all test (range_with_len (a + 1) n)) ≡ false
    by_first true same rest = and_left (test a) (list_all test (range_with_len (a + 1) n)) (ap test (eqb-true a k same) ∙ is)
    by_first false apart rest = and_right (test a) (list_all test (range_with_len (a + 1) n)) (rest (eqb-false a k apart))

-- a number that passes, where some does
pub record IsPassed (test : ℕ → Bool) (end : ℕ) : Type 0 where
  pub number : ℕ
  pub below : number < end
  pub passes : test number ≡ true

pub passed_range : (test : ℕ → Bool) (n a : ℕ) → list_any test (range_with_len a n) ≡ true → IsPassed test (a + n)
passed_range test zero a is = absurd (false≢true is)
passed_range test (suc n) a is = by_first (test a) refl is (λ rest. passed_range test n (a + 1) rest)
  where
    by_first : (b : Bool) → test a ≡ b → (b || list_any test (range_with_len (a + 1) n)) ≡ true
        → (list_any test (range_with_len (a + 1) n) ≡ true → IsPassed test (a + 1 + n)) → IsPassed test (a + suc n)
    by_first true here is rest = record { number = a; below = omega arith; passes = here }
    by_first false here is rest = let p = rest is in record { number = p.number; below = omega (arith, p.below); passes = p.passes }

-- no number passes, where none does
pub unpassed : (test : ℕ → Bool) (n k : ℕ) → list_any test (range_with_len 0 n) ≡ false → k < n → test k ≡ false
unpassed test n k none lt = false_from_ne_true (test k) (λ is. true≢false (sym (some_range test n 0 k (omega arith) (omega (arith, lt)) is) ∙ none))

pub none_more : (test : ℕ → Bool) (n : ℕ) (b : Bool) → ((c : ℕ) → c < n → test c ≡ false) → b ≡ test n → b ≡ false → (c : ℕ) → c < n + 1 → test c ≡ false
none_more test n b old is none c lt = by_last (c == n) refl
  where
    by_last : (e : Bool) → (c == n) ≡ e → test c ≡ false
    by_last true same = ap test (eqb-true c n same) ∙ sym is ∙ none
    by_last false apart = old c (omega (arith, lt, eqb-false c n apart))

-- The first number of a range that passes a test.

pub cond_true : {X : Type 0} (b : Bool) (x y : X) → b ≡ true → cond b x y ≡ x
cond_true b x y e = ap (λ v. cond v x y) e

pub cond_false : {X : Type 0} (b : Bool) (x y : X) → b ≡ false → cond b x y ≡ y
cond_false b x y e = ap (λ v. cond v x y) e

-- it is found where none before it passes
pub found_in_range : (p : ℕ → Bool) (n a m : ℕ) → a ≤ m → m < a + n → ((k : ℕ) → a ≤ k → k < m → p k ≡ false) → p m ≡ true → find p (range_with_len a n) ≡ Some m
found_in_range p zero a m low high before here = absurd (omega arith)
found_in_range p (suc n) a m low high before here =
    at (cases_eq a m) (λ apart. found_in_range p n (a + 1) m (omega arith) (omega arith) (λ k above below. before k (omega arith) below) here)
  where
    at : (a ≡ m) ⊎ (a ≢ m) → (a ≢ m → find p (range_with_len (a + 1) n) ≡ Some m) → find p (range_with_len a (suc n)) ≡ Some m
    at (inl same) later = cond_true (p a) _ _ (ap p same ∙ here) ∙ ap Some same
    at (inr apart) later = cond_false (p a) _ _ (before a (omega arith) (omega arith)) ∙ later apart

-- none is found where none passes
pub none_in_range : (p : ℕ → Bool) (n a : ℕ) → ((k : ℕ) → a ≤ k → k < a + n → p k ≡ false) → find p (range_with_len a n) ≡ None
none_in_range p zero a before = refl
none_in_range p (suc n) a before =
    cond_false (p a) _ _ (before a (omega arith) (omega arith)) ∙ none_in_range p n (a + 1) (λ k above below. before k (omega arith) (omega arith))
