-- Lines in the order of their frames, and drawn words.
use Rattle.std.proofs.Common.{◌≡◌, ℕ, zero, suc, ◌+◌, ◌-◌, ◌%◌, ◌<◌, ◌≤◌, ◌==◌, ◌||◌, not, length, get_or, Bool, true, false, cond, List, [], ◌∷◌, ◌++◌, Option, Some, None, Contains, IsPermutation, find, is_some, nat_le, option_map, option_to_list, refl, sym, ap, subst, ◌∙◌, arith}
use Rattle.std.specs.Prelude.{unwrap_or}
use Rattle.std.specs.List.{AllByRecursion, list_all, list_any}
use Rattle.std.specs.List.Sorted.{IsNonDecreasingBy}
use Rattle.std.proofs.lemmas.Bool.{true≢false, and_parts, not-true, leb-true}
use Rattle.std.proofs.lemmas.Bool.Decides.{nat_tests}
use Rattle.std.proofs.lemmas.List.Folds.{list_any_at}
use Rattle.std.proofs.lemmas.List.Sorted.{Contains-permutation, IsPermutation-sym, list_any-IsPermutation}
use Rattle.std.proofs.lemmas.Option.{none-some, same_Some}
use Rattle.rand_pcg.specs.Lcg.{Lcg, advance, next, next_state, state_after}
use Rattle.rand_pcg.specs.Pcg.{multiplier_64, pcg32}
use Rattle.net_base.specs.declared.world.Fate.{Fate}
use Rattle.net_base.specs.declared.world.FateRange.{FateRange}
use Rattle.net_base.specs.declared.world.MediumSpec.{MediumSpec}
use Rattle.net_base.specs.Draws.{drawn_word, generator}
use Rattle.net_base.specs.Medium.{fate_by_rates, fate_in}
use Rattle.net_base.specs.World.{all_apart, is_medium, is_name, is_range, is_within, overlap}
use Rattle.medium.specs.OnFates.{AreInOrder, FindsAlike, HasMtu, HasRates, IsAhead, begins_past, fate_line, names_fate}

-- Finding in a list and in its permutations.

-- no two elements pass
abbrev AtMostOne : {X : Type 0} → (X → Bool) → List X → Type 0
AtMostOne {X} p xs = (x y : X) → Contains xs x → Contains xs y → p x ≡ true → p y ≡ true → x ≡ y

found_in : {X : Type 0} (p : X → Bool) (xs : List X) (x : X) → find p xs ≡ Some x → Contains xs x × (p x ≡ true)
found_in p [] x e = absurd (none-some x e)
found_in {X} p (y ∷ ys) x e = by_test (p y) refl e (found_in p ys x)
  where
    by_test : (b : Bool) → p y ≡ b → cond b (Some y) (find p ys) ≡ Some x → (find p ys ≡ Some x → Contains ys x × (p x ≡ true)) → Contains (y ∷ ys) x × (p x ≡ true)
    by_test true passes is rest = subst (λ (z : X). Contains (y ∷ ys) z × (p z ≡ true)) (same_Some y x is) ((0, omega arith, refl), passes)
    by_test false passes is rest = let r = rest is in ((suc r.0.0, omega (arith, r.0.1), r.0.2), r.1)

is_found : {X : Type 0} (p : X → Bool) (xs : List X) → is_some (find p xs) ≡ list_any p xs
is_found p [] = refl
is_found {X} p (y ∷ ys) = by_test (p y) (is_found p ys)
  where
    by_test : (b : Bool) → is_some (find p ys) ≡ list_any p ys → is_some (cond b (Some y) (find p ys)) ≡ (b || list_any p ys)
    by_test true rest = refl
    by_test false rest = rest

found_alike : {X : Type 0} (p : X → Bool) (xs ys : List X) → AtMostOne p xs → IsPermutation xs ys → find p ys ≡ find p xs
found_alike {X} p xs ys one moved = by_found (find p ys) (find p xs) refl refl
  where
    same : is_some (find p ys) ≡ is_some (find p xs)
    same = is_found p ys ∙ sym (list_any-IsPermutation p xs ys moved) ∙ sym (is_found p xs)

    by_found : (a b : Option X) → find p ys ≡ a → find p xs ≡ b → a ≡ b
    by_found None None ea eb = refl
    by_found (Some x) None ea eb = absurd (true≢false (sym (ap (λ (o : Option X). is_some o) ea) ∙ same ∙ ap (λ (o : Option X). is_some o) eb))
    by_found None (Some y) ea eb = absurd (true≢false (sym (ap (λ (o : Option X). is_some o) eb) ∙ sym same ∙ ap (λ (o : Option X). is_some o) ea))
    by_found (Some x) (Some y) ea eb =
        let a = found_in p ys x ea in
        let b = found_in p xs y eb in
        ap (λ (z : X). Some z) (one x y (Contains-permutation ys xs x (IsPermutation-sym xs ys moved) a.0) b.0 a.1 b.1)

-- Lines that don't overlap.

both_name : (m : ℕ) (f g : FateRange) → names_fate m f ≡ true → names_fate m g ≡ true → overlap f g ≡ true
both_name m f g ef eg = grind (arith, nat_tests)

apart_one : (m : ℕ) (fs : List FateRange) → all_apart overlap fs ≡ true → AtMostOne (names_fate m) fs
apart_one m [] apart x y cx cy px py = absurd (omega (arith, cx.1))
apart_one m (f ∷ fs) apart x y cx cy px py = by_place (apart_one m fs parts.1 x y) cx.0 cy.0 (cx.1, cx.2) (cy.1, cy.2)
  where
    parts : (not (list_any (overlap f) fs) ≡ true) × (all_apart overlap fs ≡ true)
    parts = and_parts (not (list_any (overlap f) fs)) (all_apart overlap fs) apart

    alone : (z : FateRange) (j : ℕ) → j < length fs → get_or fs j z ≡ z → names_fate m f ≡ true → names_fate m z ≡ true → ⊥
    alone z j lt is pf pz =
        true≢false (sym (list_any_at (overlap f) fs j z lt (ap (λ (g : FateRange). overlap f g) is ∙ both_name m f z pf pz)) ∙ not-true (list_any (overlap f) fs) parts.0)

    by_place : (Contains fs x → Contains fs y → names_fate m x ≡ true → names_fate m y ≡ true → x ≡ y) → (i j : ℕ) → (i < length (f ∷ fs)) × (get_or (f ∷ fs) i x ≡ x) → (j < length (f ∷ fs)) × (get_or (f ∷ fs) j y ≡ y) → x ≡ y
    by_place rest zero zero a b = sym a.1 ∙ b.1
    by_place rest zero (suc j) a b = absurd (alone y j (omega (arith, b.0)) b.1 (ap (λ (g : FateRange). names_fate m g) a.1 ∙ px) py)
    by_place rest (suc i) zero a b = absurd (alone x i (omega (arith, a.0)) a.1 (ap (λ (g : FateRange). names_fate m g) b.1 ∙ py) px)
    by_place rest (suc i) (suc j) a b = rest (i, omega (arith, a.0), a.1) (j, omega (arith, b.0), b.1) px py

-- Lines in order.

all_above : (n : ℕ) (fs : List FateRange) → ((j : ℕ) (d : FateRange) → j < length fs → n ≤ (get_or fs j d).first) → AllByRecursion (λ (g : FateRange). n ≤ g.first) fs
all_above n [] h = tt
all_above n (f ∷ fs) h = (h 0 f (omega arith), all_above n fs (λ j d lt. h (suc j) d (omega (arith, lt))))

pub in_order : (fs : List FateRange) → IsNonDecreasingBy (λ (f : FateRange). f.first) fs → AreInOrder fs
in_order [] h = tt
in_order (f ∷ fs) h =
    (all_above f.first fs (λ j d lt. h 0 (suc j) d (omega arith) (omega (arith, lt))), in_order fs (λ i j d le lt. h (suc i) (suc j) d (omega (arith, le)) (omega (arith, lt))))

-- a line of earlier frames names nothing further
pub past_line : (laid : ℕ) (f : FateRange) (fs : List FateRange) → nat_le f.last laid ≡ true → FindsAlike laid (f ∷ fs) fs
past_line laid f fs past m lt =
    let not_named : names_fate m f ≡ false = grind (arith, nat_tests) in
    rw not_named refl

-- no line that begins later names the frame
none_names : (m : ℕ) (fs : List FateRange) (n : ℕ) → m < n → AllByRecursion (λ (g : FateRange). n ≤ g.first) fs → find (names_fate m) fs ≡ None
none_names m [] n lt all = refl
none_names m (f ∷ fs) n lt all =
    let le : n ≤ f.first = all.0 in
    let not_named : names_fate m f ≡ false = grind (arith, nat_tests) in
    rw not_named (none_names m fs n lt all.1)

-- the first line tells, where it doesn't end before the frame
pub line_tells : (laid : ℕ) (f : FateRange) (fs : List FateRange) → AreInOrder (f ∷ fs) → nat_le f.last laid ≡ false → f.first - 1 ≤ laid → fate_line (laid + 1) (f ∷ fs) ≡ Some f.fate
line_tells laid f fs order ends begins =
    let named : names_fate (laid + 1) f ≡ true = grind (arith, nat_tests) in
    rw named refl

pub line_is_later : (laid : ℕ) (f : FateRange) (fs : List FateRange) → AreInOrder (f ∷ fs) → laid < f.first - 1 → fate_line (laid + 1) (f ∷ fs) ≡ None
line_is_later laid f fs order later =
    ap (λ (o : Option FateRange). option_map (λ (line : FateRange). line.fate) o) (none_names (laid + 1) (f ∷ fs) f.first (omega (arith, later)) (omega arith, order.0))

-- Drawn words.

steps_on : (w m p n s : ℕ) → next_state w m p (state_after w m p n s) ≡ state_after w m p (suc n) s
unfolding state_after
steps_on w m p zero s = refl
steps_on w m p (suc n) s = steps_on w m p n (next_state w m p s)

one_more : (n : ℕ) (g : Lcg) → next 64 multiplier_64 (advance 64 multiplier_64 n g) ≡ advance 64 multiplier_64 (n + 1) g
one_more n g =
    let more : suc n ≡ n + 1 = omega arith in
    ap (λ (s : ℕ). record g { state = s }) (steps_on 64 multiplier_64 g.increment n g.state ∙ ap (λ (k : ℕ). state_after 64 multiplier_64 g.increment k g.state) more)

pub as_begun : (g : Lcg) → g ≡ advance 64 multiplier_64 0 g
unfolding state_after
as_begun g = refl

-- the fate of a frame, where it is named or drawn
fate_is : (o : Option FateRange) (seed m : ℕ) (s : MediumSpec) (word : ℕ) → word ≡ drawn_word seed (64 + s.number) m → unwrap_or (option_map (λ (line : FateRange). line.fate) o) (fate_by_rates s (word % 1000)) ≡ fate_in o seed s m
fate_is (Some line) seed m s word e = refl
fate_is None seed m s word e = ap (λ (n : ℕ). fate_by_rates s (n % 1000)) e

-- what is known of a frame, and what is left for those after it
pub knows : (spec : MediumSpec) (seed laid : ℕ) (old lines : List FateRange) (words next_words : Lcg) (ahead : Fate) → HasMtu spec → HasRates spec → FindsAlike laid spec.fates old → AreInOrder lines → FindsAlike laid old lines
    → words ≡ advance 64 multiplier_64 laid (generator seed (64 + spec.number)) → next_words ≡ next 64 multiplier_64 words
    → ahead ≡ unwrap_or (fate_line (laid + 1) old) (fate_by_rates spec ((pcg32 words).0 % 1000))
    → IsAhead spec seed laid lines next_words ahead
knows spec seed laid old lines words next_words ahead mtu rates alike order rest drawn after known = record {
  mtu = mtu;
  rates = rates;
  order = order;
  alike = λ m lt. rest m lt ∙ alike m lt;
  drawn = after ∙ ap (λ (g : Lcg). next 64 multiplier_64 g) drawn ∙ one_more laid (generator seed (64 + spec.number));
  known =
      let before : (laid + 1) - 1 ≡ laid = omega arith in
      let word : (pcg32 words).0 ≡ drawn_word seed (64 + spec.number) (laid + 1) =
      ap (λ (g : Lcg). (pcg32 g).0) drawn ∙ ap (λ (n : ℕ). (pcg32 (advance 64 multiplier_64 n (generator seed (64 + spec.number)))).0) (sym before) in
      known
      ∙ ap (λ (o : Option FateRange). unwrap_or (option_map (λ (line : FateRange). line.fate) o) (fate_by_rates spec ((pcg32 words).0 % 1000))) (alike (laid + 1) (omega arith))
      ∙ fate_is (find (names_fate (laid + 1)) spec.fates) seed (laid + 1) spec (pcg32 words).0 word;
}

-- A medium of a world.

pub record OfWorld (spec : MediumSpec) : Type 0 where
  pub mtu : HasMtu spec
  pub rates : HasRates spec
  pub apart : all_apart overlap spec.fates ≡ true

pub of_world : (spec : MediumSpec) → is_medium spec.number spec ≡ true → OfWorld spec
of_world spec is =
    let named = and_parts (spec.number == spec.number) _ is in
    let long = and_parts (is_name spec.name) _ named.1 in
    let rated = and_parts (is_within 576 16384 spec.mtu) _ long.1 in
    let ranged = and_parts (nat_le (spec.loss + spec.twice + spec.later) 1000) _ rated.1 in
    let within = and_parts (nat_le 576 spec.mtu) (nat_le spec.mtu 16384) rated.0 in
    record {
      mtu = (leb-true 576 spec.mtu within.0, leb-true spec.mtu 16384 within.1);
      rates = leb-true (spec.loss + spec.twice + spec.later) 1000 ranged.0;
      apart = (and_parts (list_all is_range spec.fates) (all_apart overlap spec.fates) ranged.1).1;
    }

pub sorted_alike : (spec : MediumSpec) (lines : List FateRange) → is_medium spec.number spec ≡ true → IsPermutation spec.fates lines → (m : ℕ) → find (names_fate m) lines ≡ find (names_fate m) spec.fates
sorted_alike spec lines is moved m = found_alike (names_fate m) spec.fates lines (apart_one m spec.fates (of_world spec is).apart) moved

-- the first line goes, where it is of earlier frames
pub dropped : (laid : ℕ) (old lines rest : List FateRange) (first : Option FateRange) → lines ≡ option_to_list first ++ rest → begins_past laid lines ≡ true → AreInOrder lines × FindsAlike laid old lines → AreInOrder rest × FindsAlike laid old rest
dropped laid old lines rest None is past kept = subst (λ (fs : List FateRange). AreInOrder fs × FindsAlike laid old fs) is kept
dropped laid old lines rest (Some f) is past kept = (
  (subst AreInOrder is kept.0).1,
  λ m lt. past_line laid f rest (sym (ap (λ (fs : List FateRange). begins_past laid fs) is) ∙ past) m lt ∙ ap (λ (fs : List FateRange). find (names_fate m) fs) (sym is) ∙ kept.1 m lt,
)

-- the first line tells nothing, where it begins later
pub tells_nothing : (laid : ℕ) (lines : List FateRange) (f : FateRange) → f ≡ get_or lines 0 f → AreInOrder lines → laid < f.first - 1 → None ≡ fate_line (laid + 1) lines
tells_nothing laid [] f is order later = refl
tells_nothing laid (g ∷ gs) f is order later =
    sym (line_is_later laid g gs order (subst (λ (h : FateRange). laid < h.first - 1) is later))
