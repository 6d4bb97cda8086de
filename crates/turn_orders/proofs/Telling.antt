-- The outcomes that a search reports of a list of histories.
use Rattle.std.proofs.Common.{◌≡◌, ℕ, ◌<◌, ◌≤◌, ◌||◌, ◌⊎◌, inl, inr, Bool, true, false, cond, List, [], ◌∷◌, ◌++◌, length, take, drop, refl, sym, ap, subst, ◌∙◌, arith}
use Rattle.std.specs.Prelude.{bytes_eq}
use Rattle.std.specs.Cmp.Lexicographic.{pointwise}
use Rattle.std.proofs.lemmas.Bool.{and_from, and_parts, cases_lt, false≢true, or_parts}
use Rattle.std.proofs.lemmas.List.{take_all, take-append-drop}
use Rattle.std.proofs.lemmas.List.Folds.{list_any-append}
use Rattle.net_base.specs.declared.history.Entry.{Entry}
use Rattle.net_base.specs.declared.world.World.{World}
use Rattle.net_base.specs.Legal.{IsLegal, IsTimed}
use Rattle.net_base.specs.Stamped.{In}
use Rattle.net_base.specs.World.{IsWorld}
use Rattle.net_base.proofs.Shared.{equal_texts, in_back, in_front, in_parts, same_text}
use Rattle.history_laws.proofs.Shared.{Each, Later}
use Rattle.turn_orders.specs.Orders.{ComesBefore, Told, first_told, histories, is_told, told_of, told_onto, told_with}
use Rattle.turn_orders.specs.Preemptions.{IsWithin, preemptions}
use Rattle.turn_orders.specs.Results.{RunOutcome, outcome_of, same_outcome}
use Rattle.turn_orders.specs.Turns.{IsEnded}
use Rattle.turn_orders.proofs.Listing.{found_all, listed_within}
use Rattle.turn_orders.proofs.Ordering.{later_histories}

-- The test of outcomes.

pointwise_equal : {A : Type 0} (E : A → A → Bool) → ((x y : A) → E x y ≡ true → x ≡ y) → (xs ys : List A) → pointwise E xs ys ≡ true → xs ≡ ys
pointwise_equal E equal [] [] is = refl
pointwise_equal E equal [] (y ∷ ys) is = absurd (false≢true is)
pointwise_equal E equal (x ∷ xs) [] is = absurd (false≢true is)
pointwise_equal {A} E equal (x ∷ xs) (y ∷ ys) is =
    let parts = and_parts (E x y) (pointwise E xs ys) is in
    ap (λ (z : A). z ∷ xs) (equal x y parts.0) ∙ ap (λ (zs : List A). y ∷ zs) (pointwise_equal E equal xs ys parts.1)

pointwise_itself : {A : Type 0} (E : A → A → Bool) → ((x : A) → E x x ≡ true) → (xs : List A) → pointwise E xs xs ≡ true
pointwise_itself E itself [] = refl
pointwise_itself E itself (x ∷ xs) = and_from (E x x) (pointwise E xs xs) (itself x) (pointwise_itself E itself xs)

pub outcomes_equal : (a b : RunOutcome) → same_outcome a b ≡ true → a ≡ b
outcomes_equal a b is =
    let parts = and_parts (bytes_eq a.summary b.summary) (pointwise (pointwise bytes_eq) a.results b.results) is in
    ap (λ (s : List ℕ). record { summary = s; results = a.results }) (equal_texts a.summary b.summary parts.0)
    ∙ ap (λ (r : List (List (List ℕ))). record { summary = b.summary; results = r })
    (pointwise_equal (pointwise bytes_eq) (pointwise_equal bytes_eq equal_texts) a.results b.results parts.1)

pub outcome_itself : (a : RunOutcome) → same_outcome a a ≡ true
outcome_itself a =
    and_from (bytes_eq a.summary a.summary) (pointwise (pointwise bytes_eq) a.results a.results) (same_text a.summary)
    (pointwise_itself (pointwise bytes_eq) (pointwise_itself bytes_eq same_text) a.results)

-- a reported outcome is the outcome of one of these
told_there : (ts : List Told) (o : RunOutcome) → is_told ts o ≡ true → (t : Told) × In t ts × (t.outcome ≡ o)
told_there [] o is = absurd (false≢true is)
told_there (t ∷ ts) o is = at (same_outcome t.outcome o) refl is (told_there ts o)
  where
    at : (b : Bool) → same_outcome t.outcome o ≡ b → (b || is_told ts o) ≡ true → (is_told ts o ≡ true → (u : Told) × In u ts × (u.outcome ≡ o))
        → (u : Told) × In u (t ∷ ts) × (u.outcome ≡ o)
    at true same some rest = (t, inl refl, outcomes_equal t.outcome o same)
    at false other some rest = let u = rest some in (u.0, inr u.1, u.2)

-- One history more.

told_last : (w : World) (ts : List Told) (h : List Entry) → is_told (ts ++ told_of w h ∷ []) (outcome_of w h) ≡ true
told_last w [] h = ap (λ (b : Bool). b || false) (outcome_itself (outcome_of w h))
told_last w (t ∷ ts) h = or_later (same_outcome t.outcome (outcome_of w h)) (told_last w ts h)
  where
    or_later : (a : Bool) → is_told (ts ++ told_of w h ∷ []) (outcome_of w h) ≡ true → (a || is_told (ts ++ told_of w h ∷ []) (outcome_of w h)) ≡ true
    or_later true rest = refl
    or_later false rest = rest

-- the report after one further history
pub data Telling (w : World) (ts : List Told) (h : List Entry) : Type 0 where
  Known : is_told ts (outcome_of w h) ≡ true → told_with w ts h ≡ ts → Telling w ts h
  New : is_told ts (outcome_of w h) ≡ false → told_with w ts h ≡ ts ++ told_of w h ∷ [] → Telling w ts h

pub telling : (w : World) (ts : List Told) (h : List Entry) → Telling w ts h
telling w ts h = at (is_told ts (outcome_of w h)) refl
  where
    at : (b : Bool) → is_told ts (outcome_of w h) ≡ b → Telling w ts h
    at true is = Known is (ap (λ (b : Bool). cond b ts (ts ++ told_of w h ∷ [])) is)
    at false is = New is (ap (λ (b : Bool). cond b ts (ts ++ told_of w h ∷ [])) is)

told_stays : (w : World) (ts : List Told) (h : List Entry) (t : Told) → In t ts → In t (told_with w ts h)
told_stays w ts h t there = elim (telling w ts h) [
  | Known is same ↦ subst (In t) (sym same) there
  | New is same ↦ subst (In t) (sym same) (in_front t ts (told_of w h ∷ []) there)
]

is_told_now : (w : World) (ts : List Told) (h : List Entry) → is_told (told_with w ts h) (outcome_of w h) ≡ true
is_told_now w ts h = elim (telling w ts h) [
  | Known is same ↦ ap (λ (l : List Told). is_told l (outcome_of w h)) same ∙ is
  | New is same ↦ ap (λ (l : List Told). is_told l (outcome_of w h)) same ∙ told_last w ts h
]

-- an outcome that is not reported then was not reported before
untold_before : (w : World) (ts : List Told) (h : List Entry) (o : RunOutcome) → is_told (told_with w ts h) o ≡ false → is_told ts o ≡ false
untold_before w ts h o not_now = elim (telling w ts h) [
  | Known is same ↦ ap (λ (l : List Told). is_told l o) (sym same) ∙ not_now
  | New is same ↦
      (or_parts (is_told ts o) (is_told (told_of w h ∷ []) o)
      (sym (list_any-append (λ (t : Told). same_outcome t.outcome o) ts (told_of w h ∷ [])) ∙ ap (λ (l : List Told). is_told l o) (sym same) ∙ not_now)).0
]

-- All of a list.

stays : (w : World) (ts : List Told) (hs : List (List Entry)) (t : Told) → In t ts → In t (told_onto w ts hs)
stays w ts [] t there = there
stays w ts (h ∷ hs) t there = stays w (told_with w ts h) hs t (told_stays w ts h t there)

complete_onto : (w : World) (ts : List Told) (hs : List (List Entry)) (h : List Entry) → In h hs
    → (t : Told) × In t (told_onto w ts hs) × (t.outcome ≡ outcome_of w h)
complete_onto w ts [] h there = absurd there
complete_onto w ts (k ∷ hs) h (inl same) =
    let found = told_there (told_with w ts k) (outcome_of w k) (is_told_now w ts k) in
    (found.0, stays w (told_with w ts k) hs found.0 found.1, found.2 ∙ ap (outcome_of w) (sym same))
complete_onto w ts (k ∷ hs) h (inr there) = complete_onto w (told_with w ts k) hs h there

-- a reported outcome that is new: it is the outcome of one of these histories
record IsNew (w : World) (ts : List Told) (hs : List (List Entry)) (t : Told) : Type 0 where
  of : List Entry
  there : In of hs
  is : t ≡ told_of w of
  untold : is_told ts t.outcome ≡ false

sound_onto : (w : World) (ts : List Told) (hs : List (List Entry)) (t : Told) → In t (told_onto w ts hs) → In t ts ⊎ IsNew w ts hs t
sound_onto w ts [] t there = inl there
sound_onto w ts (h ∷ hs) t there = elim (sound_onto w (told_with w ts h) hs t there) [ inl now ↦ by_one now | inr new ↦ inr (later new) ]
  where
    later : IsNew w (told_with w ts h) hs t → IsNew w ts (h ∷ hs) t
    later new = record { of = new.of; there = inr new.there; is = new.is; untold = untold_before w ts h t.outcome new.untold }

    by_one : In t (told_with w ts h) → In t ts ⊎ IsNew w ts (h ∷ hs) t
    by_one now = elim (telling w ts h) [ Known is same ↦ inl (subst (In t) same now) | New is same ↦ by_parts is (in_parts t ts (told_of w h ∷ []) (subst (In t) same now)) ]
      where
        by_parts : is_told ts (outcome_of w h) ≡ false → In t ts ⊎ In t (told_of w h ∷ []) → In t ts ⊎ IsNew w ts (h ∷ hs) t
        by_parts is (inl before) = inl before
        by_parts is (inr (inl last)) =
            inr (record { of = h; there = inl refl; is = last; untold = ap (λ (u : Told). is_told ts u.outcome) last ∙ is })
        by_parts is (inr (inr none)) = absurd none

-- the one has no more preemptions than the other
abbrev NoMore : World → List Entry → List Entry → Type 0
NoMore w h k = preemptions w h ≤ preemptions w k

each_at : {X : Type 0} (P : X → Type 0) (xs : List X) (x : X) → Each P xs → In x xs → P x
each_at P [] x all there = absurd there
each_at P (y ∷ xs) x all (inl is) = subst P (sym is) all.0
each_at P (y ∷ xs) x all (inr there) = each_at P xs x all.1 there

least_onto : (w : World) (ts : List Told) (hs : List (List Entry)) → Later (NoMore w) hs
    → ((t : Told) (h : List Entry) → In t ts → In h hs → t.preemptions ≤ preemptions w h)
    → (t : Told) (h : List Entry) → In t (told_onto w ts hs) → In h hs → t.outcome ≡ outcome_of w h → t.preemptions ≤ preemptions w h
least_onto w ts [] sorted before t h there in_hs same = absurd in_hs
least_onto w ts (k ∷ hs) sorted before t h there (inr in_hs) same =
    least_onto w (told_with w ts k) hs sorted.1 now t h there in_hs same
  where
    now : (u : Told) (l : List Entry) → In u (told_with w ts k) → In l hs → u.preemptions ≤ preemptions w l
    now u l in_now in_later = elim (telling w ts k) [
      | Known is kept ↦ before u l (subst (In u) kept in_now) (inr in_later)
      | New is kept ↦ by_parts (in_parts u ts (told_of w k ∷ []) (subst (In u) kept in_now))
    ]
      where
        by_parts : In u ts ⊎ In u (told_of w k ∷ []) → u.preemptions ≤ preemptions w l
        by_parts (inl old) = before u l old (inr in_later)
        by_parts (inr (inl last)) = subst (λ (v : Told). v.preemptions ≤ preemptions w l) (sym last) (each_at (NoMore w k) hs l sorted.0 in_later)
        by_parts (inr (inr none)) = absurd none
least_onto w ts (k ∷ hs) sorted before t h there (inl first) same = by_place (sound_onto w (told_with w ts k) hs t there)
  where
    here : preemptions w k ≡ preemptions w h
    here = ap (preemptions w) (sym first)

    by_parts : In t ts ⊎ In t (told_of w k ∷ []) → t.preemptions ≤ preemptions w h
    by_parts (inl old) = before t h old (inl first)
    by_parts (inr (inl last)) = let so = ap (λ (v : Told). v.preemptions) last in omega (arith, so, here)
    by_parts (inr (inr none)) = absurd none

    by_place : In t (told_with w ts k) ⊎ IsNew w (told_with w ts k) hs t → t.preemptions ≤ preemptions w h
    by_place (inl now) = elim (telling w ts k) [
      | Known is kept ↦ by_parts (inl (subst (In t) kept now))
      | New is kept ↦ by_parts (in_parts t ts (told_of w k ∷ []) (subst (In t) kept now))
    ]
    by_place (inr new) =
        absurd (false≢true (sym new.untold ∙ ap (is_told (told_with w ts k)) (same ∙ ap (outcome_of w) first) ∙ is_told_now w ts k))

-- The first histories of the list.

no_more : (w : World) (h k : List Entry) → ComesBefore w h k → NoMore w h k
no_more w h k (inl fewer) = omega (arith, fewer)
no_more w h k (inr same) = let e = same.0 in omega (arith, e)

each_no_more : (w : World) (h : List Entry) (ks : List (List Entry)) → Each (ComesBefore w h) ks → Each (NoMore w h) ks
each_no_more w h [] all = tt
each_no_more w h (k ∷ ks) all = (no_more w h k all.0, each_no_more w h ks all.1)

later_no_more : (w : World) (hs : List (List Entry)) → Later (ComesBefore w) hs → Later (NoMore w) hs
later_no_more w [] all = tt
later_no_more w (h ∷ hs) all = (each_no_more w h hs all.0, later_no_more w hs all.1)

each_front : {X : Type 0} (P : X → Type 0) (xs ys : List X) → Each P (xs ++ ys) → Each P xs
each_front P [] ys all = tt
each_front P (x ∷ xs) ys all = (all.0, each_front P xs ys all.1)

later_front : {X : Type 0} (R : X → X → Type 0) (xs ys : List X) → Later R (xs ++ ys) → Later R xs
later_front R [] ys all = tt
later_front R (x ∷ xs) ys all = (each_front (R x) xs ys all.0, later_front R xs ys all.1)

later_across : {X : Type 0} (R : X → X → Type 0) (xs ys : List X) (x y : X) → Later R (xs ++ ys) → In x xs → In y ys → R x y
later_across R [] ys x y all in_xs in_ys = absurd in_xs
later_across R (z ∷ xs) ys x y all (inl is) in_ys = subst (λ v. R v y) (sym is) (each_at (R z) (xs ++ ys) y all.0 (in_back y xs ys in_ys))
later_across R (z ∷ xs) ys x y all (inr there) in_ys = later_across R xs ys x y all.1 there in_ys

pub record IsToldOf (w : World) (p : ℕ) (t : Told) : Type 0 where
  pub within : IsWithin w p t.witness
  pub outcome : t.outcome ≡ outcome_of w t.witness
  pub preemptions : t.preemptions ≡ preemptions w t.witness

in_taken : (n : ℕ) (hs : List (List Entry)) (h : List Entry) → In h (take n hs) → In h hs
in_taken n hs h there = subst (In h) (take-append-drop n hs) (in_front h (take n hs) (drop n hs) there)

pub told_new : (w : World) (hs : List (List Entry)) (t : Told) → In t (first_told w hs) → (h : List Entry) × In h hs × (t ≡ told_of w h)
told_new w hs t there = by_place (sound_onto w [] hs t there)
  where
    by_place : In t [] ⊎ IsNew w [] hs t → (h : List Entry) × In h hs × (t ≡ told_of w h)
    by_place (inl none) = absurd none
    by_place (inr new) = (new.of, new.there, new.is)

pub told_sound : (w : World) (p n : ℕ) (t : Told) → IsWorld w → In t (first_told w (take n (histories w p))) → IsToldOf w p t
told_sound w p n t world there =
    let new = told_new w (take n (histories w p)) t there in
    subst (IsToldOf w p) (sym new.2)
    (record { within = listed_within w p new.0 world (in_taken n (histories w p) new.0 new.1); outcome = refl; preemptions = refl })

pub told_complete : (w : World) (p n : ℕ) (h : List Entry) → IsWorld w → length (histories w p) ≤ n → IsWithin w p h
    → (t : Told) × In t (first_told w (take n (histories w p))) × (t.outcome ≡ outcome_of w h)
told_complete w p n h world all is =
    complete_onto w [] (take n (histories w p)) h (subst (In h) (sym (take_all n (histories w p) all)) (found_all w p h world is))

pub told_least : (w : World) (p n : ℕ) (t : Told) (h : List Entry) → IsWorld w → In t (first_told w (take n (histories w p)))
    → IsLegal w h → IsTimed w h → IsEnded w h → t.outcome ≡ outcome_of w h → t.preemptions ≤ preemptions w h
told_least w p n t h world there legal timed ended same = elim (cases_lt p (preemptions w h)) [ inl more ↦ beyond more | inr few ↦ listed few ]
  where
    new : (k : List Entry) × In k (take n (histories w p)) × (t ≡ told_of w k)
    new = told_new w (take n (histories w p)) t there

    costs : t.preemptions ≡ preemptions w new.0
    costs = ap (λ (v : Told). v.preemptions) new.2

    beyond : p < preemptions w h → t.preemptions ≤ preemptions w h
    beyond more =
        let within = (listed_within w p new.0 world (in_taken n (histories w p) new.0 new.1)).bounded in
        let so = costs in
        omega (arith, more, within, so)

    sorted : Later (NoMore w) (take n (histories w p) ++ drop n (histories w p))
    sorted = later_no_more w (take n (histories w p) ++ drop n (histories w p))
        (subst (Later (ComesBefore w)) (sym (take-append-drop n (histories w p))) (later_histories w world p))

    by_place : In h (take n (histories w p)) ⊎ In h (drop n (histories w p)) → t.preemptions ≤ preemptions w h
    by_place (inl front) =
        least_onto w [] (take n (histories w p)) (later_front (NoMore w) (take n (histories w p)) (drop n (histories w p)) sorted)
        (λ u l none in_hs. absurd none) t h there front same
    by_place (inr back) =
        let le = later_across (NoMore w) (take n (histories w p)) (drop n (histories w p)) new.0 h sorted new.1 back in
        let so = costs in
        omega (arith, le, so)

    listed : preemptions w h ≤ p → t.preemptions ≤ preemptions w h
    listed few =
        by_place (in_parts h (take n (histories w p)) (drop n (histories w p))
        (subst (In h) (sym (take-append-drop n (histories w p)))
        (found_all w p h world (record { legal = legal; timed = timed; bounded = few; ended = ended }))))
