-- Lists whose elements are apart, elements behind one another, and words without a byte.
use Rattle.std.proofs.Common.{◌≡◌, ℕ, ◌+◌, ◌==◌, suc, Bool, true, false, not, ◌&&◌, ◌||◌, cond, List, [], ◌∷◌, ◌++◌, length, map, refl, sym, ap, subst, ◌∙◌, arith, Option, Some, None, append_assoc, append-nil}
use Rattle.std.specs.Prelude.{bytes_eq, filter_map, nat_eq, nat_lt}
use Rattle.std.specs.List.{list_any, list_all, cons_option, last_or, position_or_len}
use Rattle.std.proofs.lemmas.Bool.{and_parts, eqb-true, false≢true, or_parts}
use Rattle.std.proofs.lemmas.Bool.Decides.{nat_tests}
use Rattle.std.proofs.lemmas.List.Folds.{list_any-append, list_all-append}
use Rattle.std.proofs.lemmas.Slice.Eq.{bytes_eq-Decides}
use Rattle.net_base.specs.World.{all_apart}
use Rattle.world_text.specs.WorldLines.{at_last}
use Rattle.world_text.specs.WorldSpelling.{EachBehind}
use Rattle.net_base.proofs.Shared.{IsWithout, without_one}

-- Tests.

pub false-of-not : (b : Bool) → not b ≡ true → b ≡ false
false-of-not false e = refl
false-of-not true e = absurd (false≢true e)

pub same-bytes : (xs ys : List ℕ) → bytes_eq xs ys ≡ bytes_eq ys xs
same-bytes xs ys = by (bytes_eq xs ys) (bytes_eq ys xs) refl refl
  where
    by : (b c : Bool) → bytes_eq xs ys ≡ b → bytes_eq ys xs ≡ c → b ≡ c
    by true true e f = refl
    by false false e f = refl
    by true false e f = absurd (false≢true (sym f ∙ (bytes_eq-Decides ys xs).1 (sym ((bytes_eq-Decides xs ys).0 e))))
    by false true e f = absurd (false≢true (sym e ∙ (bytes_eq-Decides xs ys).1 (sym ((bytes_eq-Decides ys xs).0 f))))

pub same-numbers : (m n : ℕ) → nat_eq m n ≡ nat_eq n m
same-numbers m n = grind (arith, nat_tests)

-- Elements that are apart.

pub any-map : {A B : Type 0} (p : B → Bool) (f : A → B) (xs : List A) → list_any p (map f xs) ≡ list_any (λ x. p (f x)) xs
any-map p f [] = refl
any-map p f (x ∷ xs) = ap (λ b. p (f x) || b) (any-map p f xs)

pub any-cong : {X : Type 0} (p q : X → Bool) → ((x : X) → p x ≡ q x) → (xs : List X) → list_any p xs ≡ list_any q xs
any-cong p q same [] = refl
any-cong p q same (x ∷ xs) = ap (λ b. b || list_any p xs) (same x) ∙ ap (λ b. q x || b) (any-cong p q same xs)

swap_tests : (a b c e : Bool) → (not (b || a) && (not c && e)) ≡ (not (b || c) && (not a && e))
swap_tests a true c e = refl
swap_tests true false true e = refl
swap_tests true false false e = refl
swap_tests false false true e = refl
swap_tests false false false e = refl

or_swap : (a b c : Bool) → (a || (b || c)) ≡ (b || (a || c))
or_swap true true c = refl
or_swap true false c = refl
or_swap false b c = refl

pub any-insert : {A : Type 0} (p : A → Bool) (xs : List A) (z : A) (ys : List A) → list_any p (xs ++ z ∷ ys) ≡ (p z || list_any p (xs ++ ys))
any-insert p [] z ys = refl
any-insert p (x ∷ xs) z ys = ap (λ b. p x || b) (any-insert p xs z ys) ∙ or_swap (p x) (p z) (list_any p (xs ++ ys))

-- one more anywhere is like none of the others
pub apart-insert : {A : Type 0} (alike : A → A → Bool) → ((x y : A) → alike x y ≡ alike y x) → (xs : List A) (z : A) (ys : List A)
    → all_apart alike (xs ++ z ∷ ys) ≡ (not (list_any (alike z) (xs ++ ys)) && all_apart alike (xs ++ ys))
apart-insert alike same [] z ys = refl
apart-insert alike same (x ∷ xs) z ys =
    ap (λ b. not b && all_apart alike (xs ++ z ∷ ys)) (any-insert (alike x) xs z ys)
    ∙ (ap (λ b. not (alike x z || list_any (alike x) (xs ++ ys)) && b) (apart-insert alike same xs z ys)
    ∙ (swap_tests (list_any (alike x) (xs ++ ys)) (alike x z) (list_any (alike z) (xs ++ ys)) (all_apart alike (xs ++ ys))
    ∙ ap (λ b. not (b || list_any (alike z) (xs ++ ys)) && (not (list_any (alike x) (xs ++ ys)) && all_apart alike (xs ++ ys))) (same x z)))

-- apart with one more at the end
pub apart-push : {A : Type 0} (alike : A → A → Bool) → ((x y : A) → alike x y ≡ alike y x) → (xs : List A) (z : A)
    → all_apart alike (xs ++ z ∷ []) ≡ (not (list_any (alike z) xs) && all_apart alike xs)
apart-push alike same xs z =
    apart-insert alike same xs z [] ∙ ap (λ ys. not (list_any (alike z) ys) && all_apart alike ys) (append-nil xs)

pub apart-map : {A B : Type 0} (alike : B → B → Bool) (f : A → B) (xs : List A) → all_apart alike (map f xs) ≡ all_apart (λ x y. alike (f x) (f y)) xs
apart-map alike f [] = refl
apart-map alike f (x ∷ xs) = ap (λ b. not b && all_apart alike (map f xs)) (any-map (alike (f x)) f xs) ∙ ap (λ b. not (list_any (λ y. alike (f x) (f y)) xs) && b) (apart-map alike f xs)

-- the first ones are apart where all are
pub apart-front : {A : Type 0} (alike : A → A → Bool) (xs ys : List A) → all_apart alike (xs ++ ys) ≡ true → all_apart alike xs ≡ true
apart-front alike [] ys e = refl
apart-front alike (x ∷ xs) ys e =
    let both = and_parts (not (list_any (alike x) (xs ++ ys))) (all_apart alike (xs ++ ys)) e in
    let none = or_parts (list_any (alike x) xs) (list_any (alike x) ys) (sym (list_any-append (alike x) xs ys) ∙ false-of-not (list_any (alike x) (xs ++ ys)) both.0) in
    ap (λ b. not b && all_apart alike xs) none.0 ∙ apart-front alike xs ys both.1

pub all-push : {A : Type 0} (p : A → Bool) (xs : List A) (z : A) → list_all p xs ≡ true → p z ≡ true → list_all p (xs ++ z ∷ []) ≡ true
all-push p xs z all here = list_all-append p xs (z ∷ []) ∙ (ap (λ b. b && (p z && true)) all ∙ ap (λ b. b && true) here)

-- what holds of all and one more
pub all-parts : {A : Type 0} (p : A → Bool) (xs : List A) (z : A) → list_all p (xs ++ z ∷ []) ≡ true → (list_all p xs ≡ true) × (p z ≡ true)
all-parts p xs z all =
    let both = and_parts (list_all p xs) (p z && true) (sym (list_all-append p xs (z ∷ [])) ∙ all) in
    (both.0, (and_parts (p z) true both.1).0)

-- Elements behind one another.

abbrev first_of : {A : Type 0} → A → List A → A
first_of d [] = d
first_of d (x ∷ xs) = x

abbrev others_of : {A : Type 0} → List A → List A
others_of [] = []
others_of (x ∷ xs) = xs

pub no-cons : {A : Type 0} (x : A) (xs : List A) → [] ≡ x ∷ xs → ⊥
no-cons x xs e = let n = ap (λ ys. length ys) e in absurd (omega (arith, n))

pub no-middle : {A : Type 0} (xs : List A) (x : A) (ys : List A) → [] ≡ xs ++ x ∷ ys → ⊥
no-middle [] x ys e = no-cons x ys e
no-middle (z ∷ xs) x ys e = no-cons z (xs ++ x ∷ ys) e

-- an element of a list and one more is the last one, or one of the list
pub data Split {A : Type 0} (xs : List A) (z : A) (before : List A) (x : A) (rest : List A) : Type 0 where
  AtEnd : before ≡ xs → x ≡ z → Split xs z before x rest
  Within : (others : List A) → xs ≡ before ++ x ∷ others → Split xs z before x rest

pub split : {A : Type 0} (xs : List A) (z : A) (before : List A) (x : A) (rest : List A) → xs ++ z ∷ [] ≡ before ++ x ∷ rest → Split xs z before x rest
split [] z [] x rest e = AtEnd refl (sym (ap (first_of z) e))
split [] z (b ∷ before) x rest e = absurd (no-middle before x rest (ap others_of e))
split (w ∷ xs) z [] x rest e = Within xs (ap (λ y. y ∷ xs) (ap (first_of w) e))
split (w ∷ xs) z (b ∷ before) x rest e = by (split xs z before x rest (ap others_of e))
  where
    by : Split xs z before x rest → Split (w ∷ xs) z (b ∷ before) x rest
    by (AtEnd is last) = AtEnd (ap (λ ys. b ∷ ys) is ∙ ap (λ y. y ∷ xs) (sym (ap (first_of w) e))) last
    by (Within others is) = Within others (ap (λ y. y ∷ xs) (ap (first_of w) e) ∙ ap (λ ys. b ∷ ys) is)

pub each-none : {A : Type 0} (F : List A → A → Type 0) → EachBehind F []
each-none F before x rest e = absurd (no-middle before x rest e)

pub each-push : {A : Type 0} (F : List A → A → Type 0) (xs : List A) (z : A) → EachBehind F xs → F xs z → EachBehind F (xs ++ z ∷ [])
each-push {A = A} F xs z each here before x rest e = by (split xs z before x rest e)
  where
    by : Split xs z before x rest → F before x
    by (AtEnd is last) = subst (λ (ys : List A). F ys x) (sym is) (subst (F xs) (sym last) here)
    by (Within others is) = each before x others is

pub each-front : {A : Type 0} (F : List A → A → Type 0) (xs ys : List A) → EachBehind F (xs ++ ys) → EachBehind F xs
each-front F xs ys each before x rest e = each before x (rest ++ ys) (ap (λ zs. zs ++ ys) e ∙ append_assoc before (x ∷ rest) ys)

pub each-last : {A : Type 0} (F : List A → A → Type 0) (xs : List A) (z : A) → EachBehind F (xs ++ z ∷ []) → F xs z
each-last F xs z each = each xs z [] refl

-- what holds of each element, wherever it stands
pub all-if : {A : Type 0} (p : A → Bool) (xs : List A) → ((before : List A) (x : A) (rest : List A) → xs ≡ before ++ x ∷ rest → p x ≡ true) → list_all p xs ≡ true
all-if p [] f = refl
all-if p (x ∷ xs) f = ap (λ b. b && list_all p xs) (f [] x xs refl) ∙ all-if p xs (λ before y rest e. f (x ∷ before) y rest (ap (λ ys. x ∷ ys) e))

pub all-at : {A : Type 0} (p : A → Bool) (xs before : List A) (x : A) (rest : List A) → xs ≡ before ++ x ∷ rest → list_all p xs ≡ true → p x ≡ true
all-at p xs before x rest e all =
    let both = and_parts (list_all p before) (p x && list_all p rest) (sym (list_all-append p before (x ∷ rest)) ∙ (ap (list_all p) (sym e) ∙ all)) in
    (and_parts (p x) (list_all p rest) both.1).0

pub none-if : {A B : Type 0} (f : A → Option B) (xs : List A) → ((before : List A) (x : A) (rest : List A) → xs ≡ before ++ x ∷ rest → f x ≡ None) → filter_map f xs ≡ []
none-if f [] h = refl
none-if f (x ∷ xs) h =
    ap (λ o. cons_option o (filter_map f xs)) (h [] x xs refl) ∙ none-if f xs (λ before y rest e. h (x ∷ before) y rest (ap (λ ys. x ∷ ys) e))

-- The last element.

pub last-push : {A : Type 0} (o : Option A) (xs : List A) (x : A) → last_or o (xs ++ x ∷ []) ≡ Some x
last-push o [] x = refl
last-push o (y ∷ xs) x = last-push (Some y) xs x

pub at_last-push : {A : Type 0} (f : A → A) (xs : List A) (x : A) → at_last f (xs ++ x ∷ []) ≡ xs ++ f x ∷ []
at_last-push f [] x = refl
at_last-push f (y ∷ []) x = refl
at_last-push f (y ∷ z ∷ xs) x = ap (λ ys. y ∷ ys) (at_last-push f (z ∷ xs) x)

-- a list is empty, or has a last element
pub data Ending {A : Type 0} (xs : List A) : Type 0 where
  Empty : xs ≡ [] → Ending xs
  Pushed : (front : List A) (last : A) → xs ≡ front ++ last ∷ [] → Ending xs

pub ending : {A : Type 0} (xs : List A) → Ending xs
ending [] = Empty refl
ending (x ∷ xs) = by (ending xs)
  where
    by : Ending xs → Ending (x ∷ xs)
    by (Empty is) = Pushed [] x (ap (λ ys. x ∷ ys) is)
    by (Pushed front last is) = Pushed (x ∷ front) last (ap (λ ys. x ∷ ys) is)

-- Places.

pub place-map : {A B : Type 0} (p : B → Bool) (f : A → B) (xs : List A) → position_or_len p (map f xs) ≡ position_or_len (λ x. p (f x)) xs
place-map p f [] = refl
place-map p f (x ∷ xs) = ap (λ n. cond (not (p (f x))) (1 + n) 0) (place-map p f xs)

-- there is a place exactly where an element passes
pub place-there : {A : Type 0} (p : A → Bool) (xs : List A) → nat_lt (position_or_len p xs) (length xs) ≡ list_any p xs
place-there p [] = refl
place-there p (x ∷ xs) = by (p x) (place-there p xs)
  where
    some : (n : ℕ) → nat_lt 0 (suc n) ≡ true
    some n = grind (arith, nat_tests)

    more : (m n : ℕ) → nat_lt (1 + m) (suc n) ≡ nat_lt m n
    more m n = grind (arith, nat_tests)

    by : (b : Bool) → nat_lt (position_or_len p xs) (length xs) ≡ list_any p xs → nat_lt (cond (not b) (1 + position_or_len p xs) 0) (suc (length xs)) ≡ (b || list_any p xs)
    by true h = some (length xs)
    by false h = more (position_or_len p xs) (length xs) ∙ h

-- Words.

-- no byte that passes is this one
pub list-without : (p : ℕ → Bool) (b : ℕ) (word : List ℕ) → p b ≡ false → list_all p word ≡ true → IsWithout b word
list-without p b [] none all = λ k d lt. absurd (omega (arith, lt))
list-without p b (c ∷ word) none all =
    let both = and_parts (p c) (list_all p word) all in
    without_one b c word (other (c == b) refl both.0) (list-without p b word none both.1)
  where
    other : (v : Bool) → (c == b) ≡ v → p c ≡ true → v ≡ false
    other false e held = refl
    other true e held = absurd (false≢true (sym none ∙ (ap p (sym (eqb-true c b e)) ∙ held)))

pub without-none : (b : ℕ) (word : List ℕ) → list_any (λ (x : ℕ). x == b) word ≡ false → IsWithout b word
without-none b [] none = λ k d lt. absurd (omega (arith, lt))
without-none b (c ∷ word) none =
    let both = or_parts (c == b) (list_any (λ (x : ℕ). x == b) word) none in
    without_one b c word both.0 (without-none b word both.1)
