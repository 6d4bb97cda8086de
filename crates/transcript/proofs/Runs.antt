-- The lines and sums of entries, by parts of a history.
use Rattle.std.proofs.Common.{◌≡◌, ℕ, zero, suc, ◌+◌, ◌-◌, ◌/◌, ◌<◌, ◌≤◌, List, [], ◌∷◌, ◌++◌, length, take, drop, Some, slice_get, refl, ap, sym, subst, ◌∙◌, append_assoc, arith}
use Rattle.std.proofs.lemmas.List.{append-nil, drop_all, take_all}
use Rattle.std.proofs.lemmas.List.Sums.{sum_by-cons}
use Rattle.std.proofs.lemmas.Option.{none-some, same_Some}
use Rattle.net_base.specs.declared.event.Event.{Event}
use Rattle.net_base.specs.declared.history.Entry.{Entry}
use Rattle.net_base.specs.declared.reply.Reply.{Reply}
use Rattle.net_base.specs.Net.{moment_after}
use Rattle.net_base.specs.Summary.{sum_over}
use Rattle.net_base.specs.Transcript.{line_of, lines_from}
use Rattle.transcript.specs.Part.{part}
use Rattle.transcript.specs.RunStatus.{latest_move}

-- Parts.

first_of : (first last : ℕ) (xs : List Entry) (x : Entry) → slice_get xs first ≡ Some x → first < last → part first last xs ≡ x ∷ part (suc first) last xs
first_of first last [] x is lt = absurd (none-some x is)
first_of first zero (y ∷ ys) x is lt = absurd (omega (arith, lt))
first_of zero (suc last) (y ∷ ys) x is lt = ap (λ z. z ∷ take last ys) (same_Some y x is)
first_of (suc first) (suc last) (y ∷ ys) x is lt = first_of first last ys x is (omega (arith, lt))

part_next : (first last : ℕ) (xs : List Entry) (x : Entry) → slice_get xs first ≡ Some x → first < last → part first last xs ≡ x ∷ part (first + 1) last xs
part_next first last xs x is lt =
    let e : suc first ≡ first + 1 = omega arith in
    subst (λ (k : ℕ). part first last xs ≡ x ∷ part k last xs) e (first_of first last xs x is lt)

part_none : (first last : ℕ) (xs : List Entry) → last ≤ first → part first last xs ≡ []
part_none zero zero xs le = refl
part_none (suc first) zero xs le = refl
part_none zero (suc last) xs le = absurd (omega (arith, le))
part_none (suc first) (suc last) [] le = refl
part_none (suc first) (suc last) (y ∷ ys) le = part_none first last ys (omega (arith, le))

-- the whole of it
pub part_all : (n : ℕ) (xs : List Entry) → n ≡ length xs → part 0 n xs ≡ xs
part_all n xs is = take_all n xs (omega (arith, is))

part_both : (first middle last : ℕ) (xs : List Entry) → first ≤ middle → middle ≤ last → part first middle xs ++ part middle last xs ≡ part first last xs
part_both zero zero last xs le le' = refl
part_both zero (suc middle) zero xs le le' = absurd (omega (arith, le'))
part_both zero (suc middle) (suc last) [] le le' = refl
part_both zero (suc middle) (suc last) (y ∷ ys) le le' = ap (λ (l : List Entry). y ∷ l) (part_both zero middle last ys (omega arith) (omega (arith, le')))
part_both (suc first) zero last xs le le' = absurd (omega (arith, le))
part_both (suc first) (suc middle) zero xs le le' = absurd (omega (arith, le'))
part_both (suc first) (suc middle) (suc last) [] le le' = refl
part_both (suc first) (suc middle) (suc last) (y ∷ ys) le le' = part_both first middle last ys (omega (arith, le)) (omega (arith, le'))

part_long : (first last : ℕ) (xs : List Entry) → first ≤ last → last ≤ length xs → first + length (part first last xs) ≡ last
part_long zero zero xs le within = refl
part_long zero (suc last) [] le within = absurd (omega (arith, within))
part_long zero (suc last) (y ∷ ys) le within = omega (arith, part_long zero last ys (omega arith) (omega (arith, within)))
part_long (suc first) zero xs le within = absurd (omega (arith, le))
part_long (suc first) (suc last) [] le within = absurd (omega (arith, within))
part_long (suc first) (suc last) (y ∷ ys) le within = omega (arith, part_long first last ys (omega (arith, le)) (omega (arith, within)))

-- Lines.

-- those of entries and of others behind them
lines_append : (n : ℕ) (xs ys : List Entry) → lines_from n (xs ++ ys) ≡ lines_from n xs ++ lines_from (n + length xs) ys
lines_append n [] ys = ap (λ k. lines_from k ys) (omega arith)
lines_append n (x ∷ xs) ys =
    ap (λ l. line_of n x ++ l) (lines_append (n + 1) xs ys ∙ ap (λ k. lines_from (n + 1) xs ++ lines_from k ys) (omega arith))
    ∙ sym (append_assoc (line_of n x) (lines_from (n + 1) xs) (lines_from (n + length (x ∷ xs)) ys))

-- those of either part
lines_of_both : (first middle last : ℕ) (xs : List Entry) → first ≤ middle → middle ≤ last → middle ≤ length xs
    → lines_from first (part first middle xs) ++ lines_from middle (part middle last xs) ≡ lines_from first (part first last xs)
lines_of_both first middle last xs le le' within =
    let there : middle ≡ first + length (part first middle xs) = sym (part_long first middle xs le within) in
    ap (λ (k : ℕ). lines_from first (part first middle xs) ++ lines_from k (part middle last xs)) there
    ∙ sym (lines_append first (part first middle xs) (part middle last xs))
    ∙ ap (lines_from first) (part_both first middle last xs le le')

-- those of either half
pub lines_of_halves : (first last : ℕ) (xs : List Entry) → first ≤ last → last ≤ length xs
    → lines_from first (part first (first + (last - first) / 2) xs) ++ lines_from (first + (last - first) / 2) (part (first + (last - first) / 2) last xs)
    ≡ lines_from first (part first last xs)
lines_of_halves first last xs le within =
    lines_of_both first (first + (last - first) / 2) last xs (omega arith) (omega (arith, le)) (omega (arith, le, within))

-- a line more is written
pub lines_next : (out new was : List ℕ) (stamp last : ℕ) (xs : List Entry) (x : Entry) → slice_get xs stamp ≡ Some x → stamp < last
    → new ≡ out ++ line_of stamp x
    → out ++ lines_from stamp (part stamp last xs) ≡ was
    → new ++ lines_from (stamp + 1) (part (stamp + 1) last xs) ≡ was
lines_next out new was stamp last xs x is lt more all =
    ap (λ (l : List ℕ). l ++ lines_from (stamp + 1) (part (stamp + 1) last xs)) more
    ∙ append_assoc out (line_of stamp x) (lines_from (stamp + 1) (part (stamp + 1) last xs))
    ∙ ap (λ (l : List Entry). out ++ lines_from stamp l) (sym (part_next stamp last xs x is lt)) ∙ all

-- all are
pub lines_done : (out was : List ℕ) (stamp last : ℕ) (xs : List Entry) → last ≤ stamp → out ++ lines_from stamp (part stamp last xs) ≡ was → out ≡ was
lines_done out was stamp last xs le all =
    sym (append-nil out) ∙ ap (λ (l : List Entry). out ++ lines_from stamp l) (sym (part_none stamp last xs le)) ∙ all

-- Sums, and the moment.

drop_one : (xs : List Entry) (n : ℕ) (x : Entry) → slice_get xs n ≡ Some x → drop n xs ≡ x ∷ drop (suc n) xs
drop_one [] n x is = absurd (none-some x is)
drop_one (y ∷ ys) zero x is = ap (λ z. z ∷ ys) (same_Some y x is)
drop_one (y ∷ ys) (suc n) x is = drop_one ys n x is

drop_next : (xs : List Entry) (n : ℕ) (x : Entry) → slice_get xs n ≡ Some x → drop n xs ≡ x ∷ drop (n + 1) xs
drop_next xs n x is = let e : suc n ≡ n + 1 = omega arith in subst (λ (k : ℕ). drop n xs ≡ x ∷ drop k xs) e (drop_one xs n x is)

pub sum_next : (f : Event → Reply → ℕ) (xs : List Entry) (n a b : ℕ) (x : Entry) → slice_get xs n ≡ Some x → b ≡ f x.event x.reply
    → a + sum_over f (drop n xs) ≡ sum_over f xs → a + b + sum_over f (drop (n + 1) xs) ≡ sum_over f xs
sum_next f xs n a b x is each all =
    let rest : sum_over f (drop n xs) ≡ f x.event x.reply + sum_over f (drop (n + 1) xs) =
    ap (sum_over f) (drop_next xs n x is) ∙ sum_by-cons (λ (y : Entry). f y.event y.reply) x (drop (n + 1) xs) in
    omega (arith, rest, each, all)

pub sum_done : (f : Event → Reply → ℕ) (xs : List Entry) (n a : ℕ) → length xs ≤ n → a + sum_over f (drop n xs) ≡ sum_over f xs → a ≡ sum_over f xs
sum_done f xs n a le all =
    let none : sum_over f (drop n xs) ≡ 0 = ap (sum_over f) (drop_all n xs le) in
    omega (arith, none, all)

pub latest_next : (xs : List Entry) (n now new : ℕ) (x : Entry) → slice_get xs n ≡ Some x → new ≡ moment_after now x.event
    → latest_move now (drop n xs) ≡ latest_move 0 xs → latest_move new (drop (n + 1) xs) ≡ latest_move 0 xs
latest_next xs n now new x is each all =
    ap (λ (m : ℕ). latest_move m (drop (n + 1) xs)) each ∙ ap (latest_move now) (sym (drop_next xs n x is)) ∙ all

pub latest_done : (xs : List Entry) (n now : ℕ) → length xs ≤ n → latest_move now (drop n xs) ≡ latest_move 0 xs → now ≡ latest_move 0 xs
latest_done xs n now le all = ap (latest_move now) (sym (drop_all n xs le)) ∙ all
