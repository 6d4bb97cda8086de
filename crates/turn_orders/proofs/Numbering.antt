-- The numbers of outcomes: no outcome has two, and a longer list gives none another number.
use Rattle.std.proofs.Common.{◌≡◌, ℕ, zero, suc, ◌+◌, ◌-◌, ◌≤◌, ◌||◌, inl, inr, Bool, true, false, List, [], ◌∷◌, ◌++◌, refl, sym, ap, subst, ◌∙◌, append_assoc, arith}
use Rattle.std.specs.Prelude.{AllPairs, flat_map}
use Rattle.std.specs.List.{range_with_len}
use Rattle.std.proofs.lemmas.Bool.{false≢true}
use Rattle.std.proofs.lemmas.List.{append-nil}
use Rattle.net_base.specs.declared.history.Entry.{Entry}
use Rattle.net_base.specs.declared.world.World.{World}
use Rattle.net_base.specs.Stamped.{In}
use Rattle.net_base.proofs.Shared.{or_true}
use Rattle.history_laws.proofs.Shared.{Later, later_append, pairs_from_later}
use Rattle.turn_orders.specs.Orders.{Told, first_told, histories, histories_with, is_told, refuses_with, told_of, told_onto, told_with}
use Rattle.turn_orders.proofs.Refusing.{none_with_more}
use Rattle.turn_orders.specs.Results.{RunOutcome, outcome_of, same_outcome}
use Rattle.turn_orders.proofs.Ordering.{each_from_in}
use Rattle.turn_orders.proofs.Telling.{Known, New, outcome_itself, telling}

-- No outcome has two numbers.

abbrev Apart : Told → Told → Type 0
Apart s t = s.outcome ≡ t.outcome → ⊥

reported : (ts : List Told) (t : Told) (o : RunOutcome) → In t ts → t.outcome ≡ o → is_told ts o ≡ true
reported [] t o there same = absurd there
reported (u ∷ ts) t o (inl is) same =
    ap (λ (b : Bool). b || is_told ts o) (ap (λ (p : RunOutcome). same_outcome p o) (ap (λ (v : Told). v.outcome) (sym is) ∙ same) ∙ outcome_itself o)
reported (u ∷ ts) t o (inr there) same = ap (λ (b : Bool). same_outcome u.outcome o || b) (reported ts t o there same) ∙ or_true (same_outcome u.outcome o)

apart_with : (w : World) (ts : List Told) (h : List Entry) → Later Apart ts → Later Apart (told_with w ts h)
apart_with w ts h apart = elim (telling w ts h) [
  | Known is same ↦ subst (Later Apart) (sym same) apart
  | New is same ↦
      subst (Later Apart) (sym same)
      (later_append Apart ts (told_of w h ∷ []) apart (tt, tt)
      (each_from_in _ ts (λ t there. ((λ equal. false≢true (sym is ∙ reported ts t (outcome_of w h) there equal)), tt))))
]

apart_onto : (w : World) (ts : List Told) (hs : List (List Entry)) → Later Apart ts → Later Apart (told_onto w ts hs)
apart_onto w ts [] apart = apart
apart_onto w ts (h ∷ hs) apart = apart_onto w (told_with w ts h) hs (apart_with w ts h apart)

pub told_once : (w : World) (hs : List (List Entry)) → AllPairs (λ (s t : Told). s.outcome ≡ t.outcome → ⊥) (first_told w hs)
told_once w hs = pairs_from_later Apart (first_told w hs) (apart_onto w [] hs tt)

-- A longer list.

with_more : (w : World) (ts : List Told) (h : List Entry) → (rest : List Told) × (told_with w ts h ≡ ts ++ rest)
with_more w ts h = elim (telling w ts h) [
  | Known is same ↦ ([], same ∙ sym (append-nil ts))
  | New is same ↦ (told_of w h ∷ [], same)
]

onto_more : (w : World) (ts : List Told) (hs : List (List Entry)) → (rest : List Told) × (told_onto w ts hs ≡ ts ++ rest)
onto_more w ts [] = ([], sym (append-nil ts))
onto_more w ts (h ∷ hs) =
    let one = with_more w ts h in
    let all = onto_more w (told_with w ts h) hs in
    (one.0 ++ all.0, all.1 ∙ ap (λ (us : List Told). us ++ all.0) one.1 ∙ append_assoc ts one.0 all.0)

pub onto-append : (w : World) (ts : List Told) (hs more : List (List Entry)) → told_onto w ts (hs ++ more) ≡ told_onto w (told_onto w ts hs) more
onto-append w ts [] more = refl
onto-append w ts (h ∷ hs) more = onto-append w (told_with w ts h) hs more

pub told_more : (w : World) (hs more : List (List Entry)) → (rest : List Told) × (first_told w (hs ++ more) ≡ first_told w hs ++ rest)
told_more w hs more = let later = onto_more w (first_told w hs) more in (later.0, onto-append w [] hs more ∙ later.1)

flat-append : {A B : Type 0} (f : A → List B) (xs ys : List A) → flat_map f (xs ++ ys) ≡ flat_map f xs ++ flat_map f ys
flat-append f [] ys = refl
flat-append {A} {B} f (x ∷ xs) ys = ap (λ (zs : List B). f x ++ zs) (flat-append f xs ys) ∙ sym (append_assoc (f x) (flat_map f xs) (flat_map f ys))

range_parts : (a m n : ℕ) → range_with_len a (m + n) ≡ range_with_len a m ++ range_with_len (a + m) n
range_parts a zero n = let none : 0 + n ≡ n = omega arith in let start : a + 0 ≡ a = omega arith in rw (none, start) refl
range_parts a (suc m) n =
    let first : suc m + n ≡ suc (m + n) = omega arith in
    let place : a + 1 + m ≡ a + suc m = omega arith in
    ap (range_with_len a) first
    ∙ ap (λ (xs : List ℕ). a ∷ xs) (range_parts (a + 1) m n)
    ∙ ap (λ (b : ℕ). a ∷ (range_with_len (a + 1) m ++ range_with_len b n)) place

pub histories_more : (w : World) (p q : ℕ) → p ≤ q → (rest : List (List Entry)) × (histories w q ≡ histories w p ++ rest)
histories_more w p q le =
    let sum : q + 1 ≡ (p + 1) + (q - p) = omega (arith, le) in (
      flat_map (histories_with w) (range_with_len (0 + (p + 1)) (q - p)),
      ap (λ (n : ℕ). flat_map (histories_with w) (range_with_len 0 n)) sum
          ∙ ap (flat_map (histories_with w)) (range_parts 0 (p + 1) (q - p))
          ∙ flat-append (histories_with w) (range_with_len 0 (p + 1)) (range_with_len (0 + (p + 1)) (q - p)),
    )

-- Pass by pass.

pub first_pass : (w : World) → histories w 0 ≡ histories_with w 0
first_pass w = append-nil (histories_with w 0)

pub next_pass : (w : World) (p : ℕ) → histories w (p + 1) ≡ histories w p ++ histories_with w (p + 1)
next_pass w p =
    let number : 0 + (p + 1) ≡ p + 1 = omega arith in
    ap (flat_map (histories_with w)) (range_parts 0 (p + 1) 1)
    ∙ flat-append (histories_with w) (range_with_len 0 (p + 1)) (range_with_len (0 + (p + 1)) 1)
    ∙ ap (λ (hs : List (List Entry)). histories w p ++ hs) (append-nil (histories_with w (0 + (p + 1))))
    ∙ ap (λ (q : ℕ). histories w p ++ histories_with w q) number

pass_on : (w : World) (p n : ℕ) → refuses_with w p ≡ false → histories w (p + n) ≡ histories w p
pass_on w p zero free = let none : p + 0 ≡ p = omega arith in ap (histories w) none
pass_on w p (suc n) free =
    let more : p + suc n ≡ (p + n) + 1 = omega arith in
    ap (histories w) more
    ∙ next_pass w (p + n)
    ∙ ap (λ (hs : List (List Entry)). histories w (p + n) ++ hs) (none_with_more w p (p + n + 1) free (omega arith))
    ∙ append-nil (histories w (p + n))
    ∙ pass_on w p n free

pub last_pass : (w : World) (p q : ℕ) → refuses_with w p ≡ false → p ≤ q → histories w q ≡ histories w p
last_pass w p q free le = let sum : q ≡ p + (q - p) = omega (arith, le) in ap (histories w) sum ∙ pass_on w p (q - p) free
