-- Entries at their places.
use Rattle.std.proofs.Common.{◌≡◌, ℕ, zero, suc, ◌+◌, ◌<◌, ◌≤◌, ◌⊎◌, inl, inr, ⊎_elim, List, [], ◌∷◌, ◌++◌, length, take, Option, Some, None, slice_get, slice_set, refl, ap, sym, subst, ◌∙◌, arith}
use Rattle.std.specs.Prelude.{slice_index_or}
use Rattle.std.proofs.lemmas.List.{take_all}
use Rattle.std.proofs.lemmas.Option.{none-some, same_Some}
use Rattle.std.proofs.lemmas.Bool.{cases_eq}
use mathlib.Core.Option.{some, some-injective}
use lib.ListN.{get_elem?}
use Rattle.net_base.specs.declared.history.Entry.{Entry}
use Rattle.net_base.specs.Stamped.{In}
use Rattle.journal.specs.declared.places.Place.{Place}
use Rattle.journal.specs.declared.tokens.Stamped.{Stamped}
use Rattle.journal.specs.Closing.{AreAt, IsLeft}
use Rattle.journal.specs.Places.{ArePlaced, AreThere, AreThereFrom, AreClosed, IsPlaced, IsThere, entries_at, in_list, there, with_stamped}
use Rattle.journal.proofs.Gathering.{left_append}

-- What stands at a place.

in_got : (l : List Stamped) (at : ℕ) (e : Stamped) → slice_get l at ≡ Some e → In e l
in_got [] at e is = absurd (none-some e is)
in_got (x ∷ l) zero e is = inl (sym (same_Some x e is))
in_got (x ∷ l) (suc at) e is = inr (in_got l at e is)

left_at : (ls : List (List Stamped)) (k at : ℕ) (e : Stamped) → in_list (slice_get ls k) at ≡ Some e → IsLeft e ls
left_at [] k at e is = absurd (none-some e is)
left_at (l ∷ ls) zero at e is = inl (in_got l at e is)
left_at (l ∷ ls) (suc k) at e is = inr (left_at ls k at e is)

-- the entry of a place that is there
pub stands_at : (n i : ℕ) (ls : List (List Stamped)) (ps : List Place) (p : Place) → AreThereFrom n ls ps → slice_get ps i ≡ Some p
    → (e : Stamped) × (there ls p ≡ Some e) × (slice_get (entries_at ls ps) i ≡ Some e.entry)
stands_at n i ls [] p all is = absurd (none-some p is)
stands_at n zero ls (q ∷ ps) p (first, more) is = (
  first.entry,
  subst (λ (z : Place). there ls z ≡ Some first.entry) (same_Some q p is) first.stands,
  ap (λ (o : Option Stamped). slice_get (with_stamped o (entries_at ls ps)) 0) first.stands,
)
stands_at n (suc i) ls (q ∷ ps) p (first, more) is =
    let t = stands_at (n + 1) i ls ps p more is in
    (t.0, t.1, ap (λ (o : Option Stamped). slice_get (with_stamped o (entries_at ls ps)) (suc i)) first.stands ∙ t.2)

pub long_at : (n : ℕ) (ls : List (List Stamped)) (ps : List Place) → AreThereFrom n ls ps → length (entries_at ls ps) ≡ length ps
long_at n ls [] all = refl
long_at n ls (p ∷ ps) (first, more) =
    ap (λ (o : Option Stamped). length (with_stamped o (entries_at ls ps))) first.stands ∙ ap suc (long_at (n + 1) ls ps more)

-- All of a history.

all_from : (n : ℕ) (ls : List (List Stamped)) (ps : List Place) (rest : List Entry) → AreThereFrom n ls ps → length rest ≡ length ps
    → ((i : ℕ) (e : Stamped) → IsLeft e ls → e.stamp ≡ n + i → get_elem? rest i ≡ some e.entry) → entries_at ls ps ≡ rest
all_from n ls [] [] all long at = refl
all_from n ls [] (x ∷ rest) all long at = absurd (omega (arith, long))
all_from n ls (p ∷ ps) [] all long at = absurd (omega (arith, long))
all_from n ls (p ∷ ps) (x ∷ rest) (first, more) long at =
    let e : Stamped = first.entry in
    let own : e.stamp ≡ n = first.stamp_is in
    let here : x ≡ e.entry = some-injective x e.entry (at 0 e (left_at ls p.list p.at e first.stands) (omega (arith, own))) in
    let behind : entries_at ls ps ≡ rest =
    all_from (n + 1) ls ps rest more (omega (arith, long)) (λ i f left own. at (suc i) f left (omega (arith, own))) in
    ap (λ (o : Option Stamped). with_stamped o (entries_at ls ps)) first.stands
    ∙ ap (λ (y : Entry). y ∷ entries_at ls ps) (sym here)
    ∙ ap (λ (l : List Entry). x ∷ l) behind

pub all_at : (ls : List (List Stamped)) (ps : List Place) (log : List Entry) → AreThere ls ps → length log ≡ length ps → AreAt log ls → entries_at ls ps ≡ log
all_at ls ps log all long at =
    all_from 0 ls ps log all long (λ i e left own. subst (λ (n : ℕ). get_elem? log n ≡ some e.entry) (omega (arith, own)) (at e left))

pub closed_by : (ls : List (List Stamped)) (ps : List Place) (log : List Entry) → AreThere ls ps → length log ≡ length ps → AreAt log ls → AreClosed ls ps
closed_by ls ps log all long at =
    record { all = all; only = subst (λ (l : List Entry). AreAt l ls) (sym (all_at ls ps log all long at)) at }

-- Places that are noted.

last_at : (ls : List (List Stamped)) (es : List Stamped) (at : ℕ) (e : Stamped) → slice_get es at ≡ Some e
    → in_list (slice_get (ls ++ es ∷ []) (length ls)) at ≡ Some e
last_at [] es at e is = is
last_at (l ∷ ls) es at e is = last_at ls es at e is

got_set : (ps : List Place) (n : ℕ) (p : Place) → n < length ps → slice_get (slice_set ps n p) n ≡ Some p
got_set [] n p lt = absurd (omega (arith, lt))
got_set (q ∷ ps) zero p lt = refl
got_set (q ∷ ps) (suc n) p lt = got_set ps n p (omega (arith, lt))

got_other : (ps : List Place) (n m : ℕ) (p : Place) → (m ≡ n → ⊥) → slice_get (slice_set ps n p) m ≡ slice_get ps m
got_other [] n m p other = refl
got_other (q ∷ ps) zero zero p other = absurd (other refl)
got_other (q ∷ ps) zero (suc m) p other = refl
got_other (q ∷ ps) (suc n) zero p other = refl
got_other (q ∷ ps) (suc n) (suc m) p other = got_other ps n m p (λ same. other (ap suc same))

pub long_set : (ps : List Place) (n : ℕ) (p : Place) → length (slice_set ps n p) ≡ length ps
long_set [] n p = refl
long_set (q ∷ ps) zero p = refl
long_set (q ∷ ps) (suc n) p = ap suc (long_set ps n p)

in_take : (es : List Stamped) (j : ℕ) (x e : Stamped) → slice_get es j ≡ Some x → In e (take (suc j) es) → In e (take j es) ⊎ (e ≡ x)
in_take [] j x e is i = absurd (none-some x is)
in_take (y ∷ es) zero x e is (inl same) = inr (same ∙ same_Some y x is)
in_take (y ∷ es) zero x e is (inr i) = absurd i
in_take (y ∷ es) (suc j) x e is (inl same) = inl (inl same)
in_take (y ∷ es) (suc j) x e is (inr i) = ⊎_elim (λ k. inl (inr k)) (λ same. inr same) (in_take es j x e is i)

-- the entries of the lists, and the first j of a list behind them, are placed
abbrev pub PlacedSo : List (List Stamped) → List Stamped → ℕ → List Place → Type 0
PlacedSo ls es j ps = (e : Stamped) → IsLeft e ls ⊎ In e (take j es) → e.stamp < length ps
    → IsPlaced (ls ++ es ∷ []) ps e.stamp

module _ (ls : List (List Stamped)) (es : List Stamped) (j : ℕ) (ps ps' : List Place) (x : Stamped) (k : ℕ)
    (is : slice_get es j ≡ Some x) (behind : length ls ≡ k) (set : ps' ≡ slice_set ps x.stamp record { list = k; at = j })
    (placed : PlacedSo ls es j ps) where
  long : length ps' ≡ length ps
  long = ap length set ∙ long_set ps x.stamp record { list = k; at = j }

  of_this : (e : Stamped) → e.stamp ≡ x.stamp → e.stamp < length ps' → IsPlaced (ls ++ es ∷ []) ps' e.stamp
  of_this e same lt =
      let p : Place = record { list = k; at = j } in
      let within : x.stamp < length ps = omega (arith, lt, same, long) in
      let there_is : slice_get ps' e.stamp ≡ Some p =
      ap (λ (n : ℕ). slice_get ps' n) same ∙ ap (λ (qs : List Place). slice_get qs x.stamp) set ∙ got_set ps x.stamp p within in
      let stands : there (ls ++ es ∷ []) p ≡ Some x =
      subst (λ (n : ℕ). in_list (slice_get (ls ++ es ∷ []) n) j ≡ Some x) behind (last_at ls es j x is) in
      record { place = p; noted = there_is; is = record { entry = x; stands = stands; stamp_is = sym same } }

  of_others : (e : Stamped) → (e.stamp ≡ x.stamp → ⊥) → IsLeft e ls ⊎ In e (take (suc j) es) → e.stamp < length ps'
      → IsPlaced (ls ++ es ∷ []) ps' e.stamp
  of_others e other which lt =
      let before : IsLeft e ls ⊎ In e (take j es) =
      ⊎_elim (λ i. inl i)
      (λ i. ⊎_elim (λ h. inr h) (λ same. absurd (other (ap (λ (z : Stamped). z.stamp) same))) (in_take es j x e is i)) which in
      let t = placed e before (omega (arith, lt, long)) in
      let there_is : slice_get ps' e.stamp ≡ Some t.place =
      ap (λ (qs : List Place). slice_get qs e.stamp) set ∙ got_other ps x.stamp e.stamp record { list = k; at = j } other ∙ t.noted in
      record { place = t.place; noted = there_is; is = t.is }

  placed_one : PlacedSo ls es (suc j) ps'
  placed_one e which lt = ⊎_elim (λ same. of_this e same lt) (λ other. of_others e other which lt) (cases_eq e.stamp x.stamp)

  pub placed_next : PlacedSo ls es (j + 1) ps'
  placed_next = let e : suc j ≡ j + 1 = omega arith in subst (λ (n : ℕ). PlacedSo ls es n ps') e placed_one

pub placed_all : (ls : List (List Stamped)) (es : List Stamped) (n : ℕ) (ps : List Place) → length es ≤ n → PlacedSo ls es n ps → ArePlaced (ls ++ es ∷ []) ps
placed_all ls es n ps le placed e i lt =
    placed e (⊎_elim (λ h. inl h) (λ h. inr (subst (λ (l : List Stamped). In e l) (sym (take_all n es le)) h)) (left_append e ls es i)) lt

-- where all entries of a history are placed, all stand there
record StandsAt (n i : ℕ) (ls : List (List Stamped)) (ps : List Place) : Type 0 where
  place : Place
  noted : slice_get ps i ≡ Some place
  is : IsThere ls place (n + i)

from_at : (n : ℕ) (ls : List (List Stamped)) (ps : List Place) → ((i : ℕ) → i < length ps → StandsAt n i ls ps)
    → AreThereFrom n ls ps
from_at n ls [] each = tt
from_at n ls (q ∷ ps) each =
    let t = each 0 (omega arith) in
    let first : IsThere ls q (n + 0) = subst (λ (z : Place). IsThere ls z (n + 0)) (sym (same_Some q t.place t.noted)) t.is in
    let zero_more : n + 0 ≡ n = omega arith in (
      subst (λ (m : ℕ). IsThere ls q m) zero_more first,
      from_at (n + 1) ls ps (λ i lt.
          let u = each (suc i) (omega (arith, lt)) in
          let more : n + suc i ≡ n + 1 + i = omega arith in
          record { place = u.place; noted = u.noted; is = subst (λ (m : ℕ). IsThere ls u.place m) more u.is }),
    )

got_in : (log : List Entry) (n : ℕ) → n < length log → (x : Entry) × (get_elem? log n ≡ some x)
got_in [] n lt = absurd (omega (arith, lt))
got_in (x ∷ log) zero lt = (x, refl)
got_in (x ∷ log) (suc n) lt = got_in log n (omega (arith, lt))

pub all_there : (ls : List (List Stamped)) (ps : List Place) (log : List Entry) → ArePlaced ls ps → length log ≡ length ps
    → ((n : ℕ) (x : Entry) → get_elem? log n ≡ some x → IsLeft record { stamp = n; entry = x } ls) → AreThere ls ps
all_there ls ps log placed long all =
    from_at 0 ls ps (λ i lt.
    let x = got_in log i (omega (arith, lt, long)) in
    let t = placed record { stamp = i; entry = x.0 } (all i x.0 x.1) lt in
    let same : i ≡ 0 + i = omega arith in
    record { place = t.place; noted = t.noted; is = subst (λ (m : ℕ). IsThere ls t.place m) same t.is })

-- What closed books lend.

-- what stands at a stamp's place is its entry
pub lends : (ls : List (List Stamped)) (ps : List Place) (log : List Entry) → AreClosed ls ps → entries_at ls ps ≡ log
    → (i : ℕ) (p : Place) (e : Stamped) → slice_get ps i ≡ Some p → there ls p ≡ Some e → slice_get log i ≡ Some e.entry
lends ls ps log closed view i p e noted found =
    let t = stands_at 0 i ls ps p closed.all noted in
    let same : t.0 ≡ e = same_Some t.0 e (sym t.1 ∙ found) in
    ap (λ (l : List Entry). slice_get l i) (sym view) ∙ t.2 ∙ ap (λ (z : Stamped). Some z.entry) same

-- and something stands there
pub never_none : (ls : List (List Stamped)) (ps : List Place) → AreClosed ls ps → (i : ℕ) (p : Place) → slice_get ps i ≡ Some p → there ls p ≡ None → ⊥
never_none ls ps closed i p noted none =
    let t = stands_at 0 i ls ps p closed.all noted in
    none-some t.0 (sym none ∙ t.1)

pub long_as : (ls : List (List Stamped)) (ps : List Place) (log : List Entry) → AreClosed ls ps → entries_at ls ps ≡ log → length log ≡ length ps
long_as ls ps log closed view = ap length (sym view) ∙ long_at 0 ls ps closed.all

pub got_by : (ps : List Place) (i : ℕ) (p : Place) → p ≡ slice_index_or ps i p → i < length ps → slice_get ps i ≡ Some p
got_by [] i p is lt = absurd (omega (arith, lt))
got_by (q ∷ ps) zero p is lt = ap (λ (z : Place). Some z) (sym is)
got_by (q ∷ ps) (suc i) p is lt = got_by ps i p is (omega (arith, lt))
