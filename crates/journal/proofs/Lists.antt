-- Beginnings of one list, the lists of a number, and entries at the end.
use Rattle.std.proofs.Common.{◌≡◌, ℕ, zero, suc, ◌+◌, ◌<◌, ◌≤◌, ◌⊎◌, inl, inr, ⊎_elim, Bool, true, false, nat_lt, List, [], ◌∷◌, ◌++◌, length, map, slice_set, if◌then◌else◌, refl, ap, sym, subst, ◌∙◌, arith, append_assoc, length-append}
use Rattle.std.proofs.lemmas.List.{append-nil}
use Rattle.std.proofs.lemmas.Bool.Decides.{nat_tests}
use mathlib.Core.Option.{some, some-injective, some-ne-none}
use mathlib.Core.List.{IsPrefix}
use lib.ListN.{get_elem?}
use Rattle.net_base.specs.declared.noted.Noted.{Noted}
use Rattle.net_base.specs.declared.noted.Number.{Number}
use Rattle.net_base.specs.Stamped.{matches, at, at_from, In}
use Rattle.journal.specs.Rule.{Held, gain, longer_history}

pub prefix_self : {A : Type 0} (xs : List A) → IsPrefix xs xs
prefix_self [] = ([], refl)
prefix_self (x ∷ xs) = (let r = prefix_self xs in r.0, ap (λ ys. x ∷ ys) (prefix_self xs).1)

pub prefix_trans : {A : Type 0} (xs ys zs : List A) → IsPrefix xs ys → IsPrefix ys zs → IsPrefix xs zs
prefix_trans xs ys zs p q = (p.0 ++ q.0, sym (append_assoc xs p.0 q.0) ∙ (ap (λ w. w ++ q.0) p.1 ∙ q.1))

pub prefix_shorter : {A : Type 0} (xs ys zs : List A) → IsPrefix xs zs → IsPrefix ys zs → length xs ≤ length ys → IsPrefix xs ys
prefix_shorter [] ys zs p q le = (ys, refl)
prefix_shorter (x ∷ xs) [] zs p q le = absurd (omega arith)
prefix_shorter (x ∷ xs) (y ∷ ys) [] p q le = absurd (cc (p.1))
prefix_shorter (x ∷ xs) (y ∷ ys) (z ∷ zs) p q le =
    let heads : x ≡ y = cc (p.1, q.1) in
    let rest = prefix_shorter xs ys zs (p.0, cc (p.1)) (q.0, cc (q.1)) (omega arith) in
    (rest.0, cc (heads, rest.1))

pub prefix_whole : {A : Type 0} (xs ys : List A) → IsPrefix xs ys → length ys ≤ length xs → xs ≡ ys
prefix_whole [] [] p le = refl
prefix_whole [] (y ∷ ys) p le = absurd (omega arith)
prefix_whole (x ∷ xs) [] p le = absurd (cc (p.1))
prefix_whole (x ∷ xs) (y ∷ ys) p le =
    let rest = prefix_whole xs ys (p.0, cc (p.1)) (omega arith) in cc (p.1, rest)

pub prefix_length : {A : Type 0} (xs ys : List A) → IsPrefix xs ys → length xs ≤ length ys
prefix_length xs ys p = omega (arith, sym (ap length p.1) ∙ length-append xs p.0)

pub prefix_snoc : {A : Type 0} (xs : List A) (x : A) → IsPrefix xs (xs ++ x ∷ [])
prefix_snoc xs x = (x ∷ [], refl)

-- the list of a number goes along with the entries
pub at_from-append : (k : Number) (n : ℕ) (xs ys : List Noted) → at_from k n (xs ++ ys) ≡ at_from k n xs ++ at_from k (n + length xs) ys
at_from-append k n [] ys = ap (λ (m : ℕ). at_from k m ys) (omega arith)
at_from-append k n (x ∷ xs) ys = next (at_from-append k (n + 1) xs ys ∙ ap (λ (m : ℕ). at_from k (n + 1) xs ++ at_from k m ys) (omega arith)) (matches k x)
  where
    next : at_from k (n + 1) (xs ++ ys) ≡ at_from k (n + 1) xs ++ at_from k (n + length (x ∷ xs)) ys → (b : Bool)
        → (if b then (n, x) ∷ at_from k (n + 1) (xs ++ ys) else at_from k (n + 1) (xs ++ ys)) ≡ (if b then (n, x) ∷ at_from k (n + 1) xs else at_from k (n + 1) xs) ++ at_from k (n + length (x ∷ xs)) ys
    next rest true = ap (λ zs. (n, x) ∷ zs) rest
    next rest false = rest

pub at-append : (k : Number) (xs ys : List Noted) → at k (xs ++ ys) ≡ at k xs ++ at_from k (length xs) ys
at-append k xs ys = at_from-append k 0 xs ys ∙ ap (λ (m : ℕ). at k xs ++ at_from k m ys) (omega arith)

pub at-snoc : (k : Number) (log : List Noted) (x : Noted) → at k (log ++ x ∷ []) ≡ (if matches k x then at k log ++ (length log, x) ∷ [] else at k log)
at-snoc k log x = at-append k log (x ∷ []) ∙ next (matches k x)
  where
    next : (b : Bool) → at k log ++ (if b then (length log, x) ∷ [] else []) ≡ (if b then at k log ++ (length log, x) ∷ [] else at k log)
    next true = refl
    next false = append-nil (at k log)

pub at-length : (k : Number) (n : ℕ) (xs : List Noted) → length (at_from k n xs) ≤ length xs
at-length k n [] = omega arith
at-length k n (x ∷ xs) = next (at-length k (n + 1) xs) (matches k x)
  where
    next : length (at_from k (n + 1) xs) ≤ length xs → (b : Bool) → length (if b then (n, x) ∷ at_from k (n + 1) xs else at_from k (n + 1) xs) ≤ length (x ∷ xs)
    next r true = omega arith
    next r false = omega arith

pub at-prefix : (k : Number) (xs ys : List Noted) → IsPrefix xs ys → IsPrefix (at k xs) (at k ys)
at-prefix k xs ys p = (at_from k (length xs) p.0, sym (at-append k xs p.0) ∙ ap (at k) p.1)

-- what is all of a number in a beginning and in the whole is all of it in between
pub between : (k : Number) (xs ys zs : List Noted) → IsPrefix xs ys → IsPrefix ys zs → at k xs ≡ at k zs → at k ys ≡ at k zs
between k xs ys zs p q same =
    let low = prefix_length (at k xs) (at k ys) (at-prefix k xs ys p) in
    prefix_whole (at k ys) (at k zs) (at-prefix k ys zs q) (subst (λ (l : List (ℕ × Noted)). length l ≤ length (at k ys)) same low)

-- an entry that comes last
pub last_split : (log p q : List Noted) (x y : Noted) → log ++ x ∷ [] ≡ p ++ y ∷ q → ((log ≡ p) × (x ≡ y)) ⊎ ((rest : List Noted) × (log ≡ p ++ y ∷ rest))
last_split [] [] q x y e = inl (refl, cc e)
last_split [] (z ∷ p) q x y e = absurd (omega (arith, ap length e, length-append p (y ∷ q)))
last_split (a ∷ log) [] q x y e = inr (log, cc e)
last_split (a ∷ log) (z ∷ p) q x y e =
    let tails : log ++ x ∷ [] ≡ p ++ y ∷ q = cc e in
    let heads : a ≡ z = cc e in
    ⊎_elim (λ t. inl ((λ i. heads i ∷ t.0 i), t.1)) (λ t. inr (t.0, λ i. heads i ∷ t.1 i)) (last_split log p q x y tails)

pub in-gain : (n : ℕ) (x : Noted) (hs : List Held) (k : Number) (es : List (ℕ × Noted)) → In (k, es) hs → In (gain n x (k, es)) (map (gain n x) hs)
in-gain n x [] k es i = absurd i
in-gain n x (h ∷ hs) k es (inl e) = inl (ap (gain n x) e)
in-gain n x (h ∷ hs) k es (inr i) = inr (in-gain n x hs k es i)

-- what stands in the lists after a gain stood in them before
pub in-gained : (n : ℕ) (x : Noted) (hs : List Held) (k : Number) (es : List (ℕ × Noted)) → In (k, es) (map (gain n x) hs)
    → (fs : List (ℕ × Noted)) × In (k, fs) hs × (es ≡ (gain n x (k, fs)).1)
in-gained n x [] k es i = absurd i
in-gained n x (h ∷ hs) k es (inl e) =
    let same : k ≡ h.0 = ap (λ (t : Held). t.0) e in
    (h.1, inl (λ i. (same i, h.1)), ap (λ (t : Held). t.1) e ∙ ap (λ (j : Number). (gain n x (j, h.1)).1) (sym same))
in-gained n x (h ∷ hs) k es (inr i) = let t = in-gained n x hs k es i in (t.0, inr t.1, t.2)

pub snoc_get : {A : Type 0} (l : List A) (a b : A) (j : ℕ) → get_elem? (l ++ a ∷ []) j ≡ some b → (get_elem? l j ≡ some b) ⊎ ((j ≡ length l) × (a ≡ b))
snoc_get [] a b zero e = inr (refl, some-injective a b e)
snoc_get [] a b (suc j) e = absurd (some-ne-none b (sym e))
snoc_get (x ∷ xs) a b zero e = inl e
snoc_get (x ∷ xs) a b (suc j) e = ⊎_elim (λ t. inl t) (λ t. inr (ap suc t.0, t.1)) (snoc_get xs a b j e)

pub get_within : {A : Type 0} (l : List A) (b : A) (j : ℕ) → get_elem? l j ≡ some b → j < length l
get_within [] b j e = absurd (some-ne-none b (sym e))
get_within (x ∷ xs) b zero e = omega arith
get_within (x ∷ xs) b (suc j) e = let r = get_within xs b j e in omega arith

-- the longer of two
pub longer_is : (xs ys : List Noted) → ((longer_history xs ys ≡ xs) × (length ys ≤ length xs)) ⊎ ((longer_history xs ys ≡ ys) × (length xs ≤ length ys))
longer_is xs ys = next (nat_lt (length xs) (length ys)) refl
  where
    next : (b : Bool) → nat_lt (length xs) (length ys) ≡ b → (((if b then ys else xs) ≡ xs) × (length ys ≤ length xs)) ⊎ (((if b then ys else xs) ≡ ys) × (length xs ≤ length ys))
    next true e = inr (refl, grind (arith, nat_tests))
    next false e = inl (refl, grind (arith, nat_tests))

-- of two beginnings one of which is the whole, the longer is the whole
pub longer_left : (log xs ys : List Noted) → xs ≡ log → IsPrefix ys log → longer_history xs ys ≡ log
longer_left log xs ys e q = ⊎_elim
    (λ t. t.0 ∙ e)
    (λ t. t.0 ∙ (let le = t.1 in prefix_whole ys log q (subst (λ (l : List Noted). length l ≤ length ys) e le)))
    (longer_is xs ys)

pub longer_right : (log xs ys : List Noted) → ys ≡ log → IsPrefix xs log → longer_history xs ys ≡ log
longer_right log xs ys e p = ⊎_elim
    (λ t. t.0 ∙ (let le = t.1 in prefix_whole xs log p (subst (λ (l : List Noted). length l ≤ length xs) e le)))
    (λ t. t.0 ∙ e)
    (longer_is xs ys)

-- what is set beyond the end changes nothing
pub set_outside : {A : Type 0} (xs : List A) (n : ℕ) (x : A) → length xs ≤ n → slice_set xs n x ≡ xs
set_outside [] n x le = refl
set_outside (y ∷ ys) zero x le = absurd (omega (arith, le))
set_outside (y ∷ ys) (suc n) x le = ap (λ zs. y ∷ zs) (set_outside ys n x (omega (arith, le)))
