-- Early messages lie near the next one, each number once, so there are few.
use Rattle.std.proofs.Common.{◌≡◌, ℕ, zero, suc, ◌+◌, ◌<◌, ◌≤◌, ◌==◌, Bool, true, false, List, [], ◌∷◌, length, Option, Some, None, refl, arith, ap, subst}
use Rattle.std.proofs.lemmas.Bool.Decides.{nat_tests}
use Rattle.net_base.specs.IlEnd.{Early, early_at, without_early}
use Rattle.il_machine.specs.Windows.{AreWithin}

-- a range that is wider
pub wider : (low high low' high' : ℕ) (es : List Early) → low' ≤ low → high ≤ high' → AreWithin low high es → AreWithin low' high' es
wider low high low' high' [] below above h = tt
wider low high low' high' (x ∷ xs) below above h = (omega (arith, h.0), omega (arith, h.1), h.2, wider low high low' high' xs below above h.3)

other_first : (k : ℕ) (x : Early) (xs : List Early) (b : Bool) → (x.number == k) ≡ b → early_at k (x ∷ xs) ≡ None → (b ≡ false) × (early_at k xs ≡ None)
other_first k x xs false is none = (refl, (rw is at none))
other_first k x xs true is none = absurd (let h = rw is at none in cc)

-- no message has a number below the range
pub none_below : (k low high : ℕ) (es : List Early) → k ≤ low → AreWithin low high es → early_at k es ≡ None
none_below k low high [] below h = refl
none_below k low high (x ∷ xs) below h =
    let other : (x.number == k) ≡ false = grind (arith, nat_tests, h.0) in
    rw other (none_below k low high xs below h.3)

-- where the first number of the range is missing, the range begins after it
pub begins_after : (low high : ℕ) (es : List Early) → early_at (low + 1) es ≡ None → AreWithin low high es → AreWithin (low + 1) high es
begins_after low high [] none h = tt
begins_after low high (x ∷ xs) none h =
    let o = other_first (low + 1) x xs (x.number == low + 1) refl none in
    let past : low + 1 < x.number = grind (arith, nat_tests, h.0, o.0) in
    (past, h.1, h.2, begins_after low high xs o.1 h.3)

-- what isn't there isn't there without another
none_after : (j k : ℕ) (x : Early) (xs : List Early) (b : Bool) → (x.number == k) ≡ b → (x.number == j) ≡ false → early_at j xs ≡ None → early_at j (without_early k xs) ≡ None
    → early_at j (without_early k (x ∷ xs)) ≡ None
none_after j k x xs true is other none rest = rw is none
none_after j k x xs false is other none rest = rw (is, other) rest

pub none_without : (j k : ℕ) (es : List Early) → early_at j es ≡ None → early_at j (without_early k es) ≡ None
none_without j k [] none = refl
none_without j k (x ∷ xs) none =
    let o = other_first j x xs (x.number == j) refl none in
    none_after j k x xs (x.number == k) refl o.0 o.1 (none_without j k xs o.1)

-- a message goes
less_within : (k low high : ℕ) (x : Early) (xs : List Early) (b : Bool) → (x.number == k) ≡ b → AreWithin low high (x ∷ xs) → AreWithin low high (without_early k xs)
    → AreWithin low high (without_early k (x ∷ xs))
less_within k low high x xs true is h rest = rw is h.3
less_within k low high x xs false is h rest = rw is (h.0, h.1, none_without x.number k xs h.2, rest)

pub without_within : (k low high : ℕ) (es : List Early) → AreWithin low high es → AreWithin low high (without_early k es)
without_within k low high [] h = tt
without_within k low high (x ∷ xs) h = less_within k low high x xs (x.number == k) refl h (without_within k low high xs h.3)

-- and is then gone
gone_after : (k : ℕ) (x : Early) (xs : List Early) (b : Bool) → (x.number == k) ≡ b → early_at x.number xs ≡ None → early_at k (without_early k xs) ≡ None
    → early_at k (without_early k (x ∷ xs)) ≡ None
gone_after k x xs true is once rest =
    let same : x.number ≡ k = grind (arith, nat_tests, is) in
    rw is (subst (λ j. early_at j xs ≡ None) same once)
gone_after k x xs false is once rest = rw (is, is) rest

pub gone : (k low high : ℕ) (es : List Early) → AreWithin low high es → early_at k (without_early k es) ≡ None
gone k low high [] h = refl
gone k low high (x ∷ xs) h = gone_after k x xs (x.number == k) refl h.2 (gone k low high xs h.3)

-- one message less
less_after : (k : ℕ) (text : List ℕ) (x : Early) (xs : List Early) (b : Bool) → (x.number == k) ≡ b → early_at k (x ∷ xs) ≡ Some text
    → (early_at k xs ≡ Some text → length (without_early k xs) + 1 ≡ length xs) → length (without_early k (x ∷ xs)) + 1 ≡ length (x ∷ xs)
less_after k text x xs true is there rest = rw is (omega arith)
less_after k text x xs false is there rest =
    let later : early_at k xs ≡ Some text = rw is at there in
    let less : length (without_early k xs) + 1 ≡ length xs = rest later in
    rw is (omega (arith, less))

pub one_less : (k : ℕ) (text : List ℕ) (es : List Early) → early_at k es ≡ Some text → length (without_early k es) + 1 ≡ length es
one_less k text [] there = absurd (let h = there in cc)
one_less k text (x ∷ xs) there = less_after k text x xs (x.number == k) refl there (one_less k text xs)

-- nothing goes that isn't there
pub none_goes : (k : ℕ) (es : List Early) → early_at k es ≡ None → without_early k es ≡ es
none_goes k [] none = refl
none_goes k (x ∷ xs) none =
    let o = other_first k x xs (x.number == k) refl none in
    rw o.0 (ap (λ ys. x ∷ ys) (none_goes k xs o.1))

-- the next message is got: what is early lies near the one after it
pub one_further : (last : ℕ) (es : List Early) → AreWithin last (last + 20) es → AreWithin (last + 1) (last + 1 + 20) (without_early (last + 1) es)
one_further last es h =
    wider (last + 1) (last + 20) (last + 1) (last + 1 + 20) (without_early (last + 1) es) (omega arith) (omega arith)
    (begins_after last (last + 20) (without_early (last + 1) es) (gone (last + 1) last (last + 20) es h) (without_within (last + 1) last (last + 20) es h))

-- no more messages than numbers
few_after : (n low high : ℕ) (es : List Early) (o : Option (List ℕ)) → early_at (low + 1) es ≡ o → AreWithin low high es
    → ((fs : List Early) → AreWithin (low + 1) high fs → length fs ≤ n) → length es ≤ suc n
few_after n low high es None none h rest =
    let others : length es ≤ n = rest es (begins_after low high es none h) in
    omega (arith, others)
few_after n low high es (Some text) there h rest =
    let others : length (without_early (low + 1) es) ≤ n =
    rest (without_early (low + 1) es) (begins_after low high (without_early (low + 1) es) (gone (low + 1) low high es h) (without_within (low + 1) low high es h)) in
    let less = one_less (low + 1) text es there in
    omega (arith, others, less)

pub few : (n low high : ℕ) (es : List Early) → high ≤ low + n → AreWithin low high es → length es ≤ n
few zero low high [] above h = omega arith
few zero low high (x ∷ xs) above h = absurd (omega (arith, h.0, h.1))
few (suc n) low high es above h = few_after n low high es (early_at (low + 1) es) refl h (λ fs. few n (low + 1) high fs (omega (arith, above)))
