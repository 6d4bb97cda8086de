-- Fates that are found by their last frames.
use Rattle.std.proofs.Common.{◌≡◌, ℕ, ◌<◌, ◌≤◌, ◌==◌, ◌⊎◌, inl, inr, Bool, true, false, ◌&&◌, ◌||◌, List, [], ◌∷◌, ◌++◌, refl, sym, ap, subst, ◌∙◌, arith, Option, Some, None}
use Rattle.std.specs.Prelude.{◌≢◌, IsSome, nat_le, nat_lt, cond}
use Rattle.std.specs.BTreeMap.{BTreeMap, is_at}
use Rattle.std.specs.BTreeMap.Range.{IsRangeOf}
use Rattle.std.specs.declared.ops.Bound.TheVariants.{Included, Unbounded}
use Rattle.std.specs.declared.cmp.Ordering.TheVariants.{Less, Equal, Greater}
use Rattle.std.specs.Map.{lookup}
use Rattle.std.specs.Ordering.{is_eq, is_gt, nat_cmp}
use Rattle.std.proofs.lemmas.Map.Keys.{le_from_not_gt}
use Rattle.std.specs.List.{list_any}
use Rattle.std.proofs.lemmas.Bool.{and_parts, eqb-true, false≢true, cases_lt}
use Rattle.std.proofs.lemmas.Bool.Decides.{nat_tests}
use Rattle.std.proofs.lemmas.List.Folds.{list_any-append}
use Rattle.std.proofs.lemmas.Option.{none-some, same_Some}
use Rattle.net_base.specs.declared.world.FateRange.{FateRange}
use Rattle.net_base.specs.World.{overlap}
use Rattle.world_file.specs.Indexed.{AreFound, AreIndexed, has_frames}

is-overlap : (a b c d : ℕ) → a ≤ b → c ≤ d → (nat_le a b && nat_le c d) ≡ true
is-overlap a b c d f g = grind (arith, nat_tests)

no-overlap-left : (a b c d : ℕ) → b < a → (nat_le a b && nat_le c d) ≡ false
no-overlap-left a b c d lt = grind (arith, nat_tests)

no-overlap-right : (a b c d : ℕ) → d < c → (nat_le a b && nat_le c d) ≡ false
no-overlap-right a b c d lt = by (nat_le a b)
  where
    no : (m n : ℕ) → n < m → nat_le m n ≡ false
    no m n h = grind (arith, nat_tests)

    by : (v : Bool) → (v && nat_le c d) ≡ false
    by true = no c d lt
    by false = refl

some-is : {A : Type 0} (o : Option A) (x : A) → o ≡ Some x → IsSome o
some-is o x e = subst IsSome (sym e) refl

-- What a look-up tells.

-- nothing is found from the first frame on
pub none_from : (find : ℕ → Option ℕ) (new : FateRange) (fates : List FateRange) → AreFound find fates → ((q : ℕ) → new.first ≤ q → find q ≡ None) → list_any (overlap new) fates ≡ false
none_from find new [] found none = refl
none_from find new (f ∷ fates) found none = by (cases_lt f.last new.first) ∙ none_from find new fates found.1 none
  where
    by : (f.last < new.first) ⊎ (new.first ≤ f.last) → (overlap new f || list_any (overlap new) fates) ≡ list_any (overlap new) fates
    by (inl lt) = ap (λ b. b || list_any (overlap new) fates) (no-overlap-left new.first f.last f.first new.last lt)
    by (inr le) = absurd (none-some f.first (sym (none f.last le) ∙ found.0))

-- what is found first begins behind the last frame
pub none_before : (find : ℕ → Option ℕ) (new : FateRange) (fates : List FateRange) (last first : ℕ) → AreIndexed find fates → find last ≡ Some first
    → ((q : ℕ) → new.first ≤ q → IsSome (find q) → last ≤ q) → new.last < first → list_any (overlap new) fates ≡ false
none_before find new fates last first k at least far = all fates k.listed
  where
    one : (f : FateRange) → find f.last ≡ Some f.first → (f.last < new.first) ⊎ (new.first ≤ f.last) → overlap new f ≡ false
    one f e (inl lt) = no-overlap-left new.first f.last f.first new.last lt
    one f e (inr le) =
        let low = least f.last le (some-is (find f.last) f.first e) in
        let forward = k.forward last first at in
        second f e (cases_lt last f.last) low forward
      where
        second : (g : FateRange) → find g.last ≡ Some g.first → (last < g.last) ⊎ (g.last ≤ last) → last ≤ g.last → first ≤ last → overlap new g ≡ false
        second g e2 (inl lt) low forward = let start = k.apart last first g.last g.first at e2 lt in no-overlap-right new.first g.last g.first new.last (omega (arith, start, far, forward))
        second g e2 (inr le2) low forward =
            let same : g.last ≡ last = omega (arith, le2, low) in
            let begins = same_Some first g.first (sym at ∙ (ap find (sym same) ∙ e2)) in no-overlap-right new.first g.last g.first new.last (omega (arith, begins, far))

    all : (fs : List FateRange) → AreFound find fs → list_any (overlap new) fs ≡ false
    all [] found = refl
    all (f ∷ fs) found = ap (λ b. b || list_any (overlap new) fs) (one f found.0 (cases_lt f.last new.first)) ∙ all fs found.1

framed : (new : FateRange) (first last : ℕ) (fates : List FateRange) → list_any (has_frames first last) fates ≡ true → new.first ≤ last → first ≤ new.last → list_any (overlap new) fates ≡ true
framed new first last [] there low high = absurd (false≢true there)
framed new first last (f ∷ fates) there low high = by (has_frames first last f) refl there (λ h. framed new first last fates h low high)
  where
    by : (b : Bool) → has_frames first last f ≡ b → (b || list_any (has_frames first last) fates) ≡ true → (list_any (has_frames first last) fates ≡ true → list_any (overlap new) fates ≡ true)
        → (overlap new f || list_any (overlap new) fates) ≡ true
    by true is h later =
        let parts = and_parts (f.first == first) (f.last == last) is in
        let a = eqb-true f.first first parts.0 in
        let b = eqb-true f.last last parts.1 in
        ap (λ v. v || list_any (overlap new) fates) (is-overlap new.first f.last f.first new.last (omega (arith, b, low)) (omega (arith, a, high)))
    by false is h later = or_true (overlap new f) (later h)
      where
        or_true : (v : Bool) → list_any (overlap new) fates ≡ true → (v || list_any (overlap new) fates) ≡ true
        or_true true e = refl
        or_true false e = e

-- what is found first begins at the last frame or before
pub some_there : (find : ℕ → Option ℕ) (new : FateRange) (fates : List FateRange) (last first : ℕ) → AreIndexed find fates → find last ≡ Some first → new.first ≤ last → first ≤ new.last
    → list_any (overlap new) fates ≡ true
some_there find new fates last first k at low high = framed new first last fates (k.stand last first at) low high

-- One fate more.

same-or : (a b : ℕ) → (a ≡ b) ⊎ (a ≢ b)
same-or a b = by (a == b) refl
  where
    by : (v : Bool) → (a == b) ≡ v → (a ≡ b) ⊎ (a ≢ b)
    by true e = inl (eqb-true a b e)
    by false e = inr (λ is. false≢true (sym e ∙ same a b is))
      where
        same : (m n : ℕ) → m ≡ n → (m == n) ≡ true
        same m n h = grind (arith, nat_tests)

-- what is found doesn't overlap
free : (new : FateRange) (first last : ℕ) (fates : List FateRange) → list_any (has_frames first last) fates ≡ true → list_any (overlap new) fates ≡ false → new.first ≤ last → first ≤ new.last → ⊥
free new first last fates there none low high = false≢true (sym none ∙ framed new first last fates there low high)

module _ (find next : ℕ → Option ℕ) (new : FateRange) (fates : List FateRange) (k : AreIndexed find fates) (none : list_any (overlap new) fates ≡ false) (order : new.first ≤ new.last)
    (here : next new.last ≡ Some new.first) (others : (q : ℕ) → q ≢ new.last → next q ≡ find q) where
  -- a fate so far doesn't end where the new one does
  not-last : (f : FateRange) → find f.last ≡ Some f.first → f.last ≢ new.last
  not-last f e is =
      let forward = k.forward f.last f.first e in
      free new f.first f.last fates (k.stand f.last f.first e) none (omega (arith, is, order)) (omega (arith, is, forward))

  listed-more : (fs : List FateRange) → AreFound find fs → AreFound next (fs ++ new ∷ [])
  listed-more [] found = (here, tt)
  listed-more (f ∷ fs) found = (others f.last (not-last f found.0) ∙ found.0, listed-more fs found.1)

  more : (first last : ℕ) → list_any (has_frames first last) fates ≡ true → list_any (has_frames first last) (fates ++ new ∷ []) ≡ true
  more first last e = list_any-append (has_frames first last) fates (new ∷ []) ∙ ap (λ b. b || list_any (has_frames first last) (new ∷ [])) e

  itself : (m : ℕ) → (m == m) ≡ true
  itself m = grind (arith, nat_tests)

  last-stands : list_any (has_frames new.first new.last) (fates ++ new ∷ []) ≡ true
  last-stands =
      list_any-append (has_frames new.first new.last) fates (new ∷ [])
      ∙ (ap (λ v. list_any (has_frames new.first new.last) fates || ((v && (new.last == new.last)) || false)) (itself new.first)
      ∙ (ap (λ v. list_any (has_frames new.first new.last) fates || (v || false)) (itself new.last) ∙ or_true (list_any (has_frames new.first new.last) fates)))
    where
      or_true : (v : Bool) → (v || true) ≡ true
      or_true true = refl
      or_true false = refl

  stand-more : (last first : ℕ) → next last ≡ Some first → (last ≡ new.last) ⊎ (last ≢ new.last) → list_any (has_frames first last) (fates ++ new ∷ []) ≡ true
  stand-more last first e (inl is) =
      let same = same_Some new.first first (sym here ∙ (ap next (sym is) ∙ e)) in
      ap (λ n. list_any (has_frames n last) (fates ++ new ∷ [])) (sym same) ∙ (ap (λ n. list_any (has_frames new.first n) (fates ++ new ∷ [])) is ∙ last-stands)
  stand-more last first e (inr other) = more first last (k.stand last first (sym (others last other) ∙ e))

  forward-more : (last first : ℕ) → next last ≡ Some first → (last ≡ new.last) ⊎ (last ≢ new.last) → first ≤ last
  forward-more last first e (inl is) = let same = same_Some new.first first (sym here ∙ (ap next (sym is) ∙ e)) in omega (arith, same, is, order)
  forward-more last first e (inr other) = k.forward last first (sym (others last other) ∙ e)

  apart-more : (last first other start : ℕ) → next last ≡ Some first → next other ≡ Some start → last < other → (last ≡ new.last) ⊎ (last ≢ new.last) → (other ≡ new.last) ⊎ (other ≢ new.last) → last < start
  apart-more last first other start e f lt (inl is) (inl too) = absurd (omega (arith, is, too, lt))
  apart-more last first other start e f lt (inl is) (inr second) =
      let found = sym (others other second) ∙ f in by (cases_lt last start) found
    where
      by : (last < start) ⊎ (start ≤ last) → find other ≡ Some start → last < start
      by (inl ok) found = ok
      by (inr low) found = absurd (free new start other fates (k.stand other start found) none (omega (arith, is, lt, order)) (omega (arith, is, low)))
  apart-more last first other start e f lt (inr one) (inl too) =
      let found = sym (others last one) ∙ e in
      let same = same_Some new.first start (sym here ∙ (ap next (sym too) ∙ f)) in
      let forward = k.forward last first found in by (cases_lt last start) found same forward
    where
      by : (last < start) ⊎ (start ≤ last) → find last ≡ Some first → new.first ≡ start → first ≤ last → last < start
      by (inl ok) found same forward = ok
      by (inr low) found same forward = absurd (free new first last fates (k.stand last first found) none (omega (arith, same, low)) (omega (arith, too, lt, forward)))
  apart-more last first other start e f lt (inr one) (inr second) = k.apart last first other start (sym (others last one) ∙ e) (sym (others other second) ∙ f) lt

  pub indexed_more : AreIndexed next (fates ++ new ∷ [])
  indexed_more = record {
    listed = listed-more fates k.listed;
    stand = λ last first e. stand-more last first e (same-or last new.last);
    forward = λ last first e. forward-more last first e (same-or last new.last);
    apart = λ last first other start e f lt. apart-more last first other start e f lt (same-or last new.last) (same-or other new.last);
  }

-- What the map of last frames tells.

-- the first frame of the fate with this last frame
abbrev pub found_in : List (ℕ × ℕ) → ℕ → Option ℕ
found_in entries last = lookup (is_at (nat_cmp last)) entries

pub indexed_same : (es now : List (ℕ × ℕ)) (fates new : List FateRange) → AreIndexed (found_in es) fates → now ≡ es → new ≡ fates → AreIndexed (found_in now) new
indexed_same es now fates new k same list = subst (λ (xs : List (ℕ × ℕ)). AreIndexed (found_in xs) new) (sym same) (subst (AreIndexed (found_in es)) (sym list) k)

not-at : (a b : ℕ) → b ≢ a → is_at (nat_cmp a) b ≡ false
not-at a b other = by (nat_lt a b) (a == b) refl
  where
    by : (v w : Bool) → (a == b) ≡ w → is_eq (cond v Less (cond w Equal Greater)) ≡ false
    by true w e = refl
    by false true e = absurd (other (sym (eqb-true a b e)))
    by false false e = refl

not-past : (a b : ℕ) → a ≤ b → is_gt (nat_cmp a b) ≡ false
not-past a b le = by (nat_lt a b) refl (a == b) refl
  where
    apart : nat_lt a b ≡ false → (a == b) ≡ false → ⊥
    apart e f = let high : b ≤ a = grind (arith, nat_tests) in differ (omega (arith, le, high)) f
      where
        differ : a ≡ b → (a == b) ≡ false → ⊥
        differ is unlike = let alike : (a == b) ≡ true = grind (arith, nat_tests) in false≢true (sym unlike ∙ alike)

    by : (v : Bool) → nat_lt a b ≡ v → (w : Bool) → (a == b) ≡ w → is_gt (cond v Less (cond w Equal Greater)) ≡ false
    by true e w f = refl
    by false e true f = refl
    by false e false f = absurd (apart e f)

-- one fate more in the map
pub indexed_pushed : (es now : List (ℕ × ℕ)) (new : FateRange) (fates whole : List FateRange) → AreIndexed (found_in es) fates → list_any (overlap new) fates ≡ false → new.first ≤ new.last
    → found_in now new.last ≡ Some new.first → ((q : ℕ) → is_at (nat_cmp new.last) q ≡ false → found_in now q ≡ found_in es q) → whole ≡ fates ++ new ∷ [] → AreIndexed (found_in now) whole
indexed_pushed es now new fates whole k none order here others is =
    subst (AreIndexed (found_in now)) (sym is) (indexed_more (found_in es) (found_in now) new fates k none order here (λ q other. others q (not-at new.last q other)))

-- the entry that is found first decides
pub first_tells : (m : BTreeMap ℕ ℕ) (r rest : List (ℕ × ℕ)) (last first : ℕ) (new : FateRange) (fates : List FateRange) → IsRangeOf nat_cmp (Included new.first) Unbounded m r → r ≡ (last, first) ∷ rest
    → AreIndexed (found_in m.entries) fates → nat_le first new.last ≡ list_any (overlap new) fates
first_tells m r rest last first new fates range is k = by (nat_le first new.last) refl
  where
    found : IsRangeOf nat_cmp (Included new.first) Unbounded m ((last, first) ∷ rest)
    found = subst (IsRangeOf nat_cmp (Included new.first) Unbounded m) is range

    low : new.first ≤ last
    low = le_from_not_gt new.first last found.1.0.0

    at : found_in m.entries last ≡ Some first
    at = found.1.1

    least : (q : ℕ) → new.first ≤ q → IsSome (found_in m.entries q) → last ≤ q
    least q le some = le_from_not_gt last q (found.2 q (not-past new.first q le, tt) some)

    by : (b : Bool) → nat_le first new.last ≡ b → b ≡ list_any (overlap new) fates
    by true e = sym (some_there (found_in m.entries) new fates last first k at low (grind (arith, nat_tests)))
    by false e = sym (none_before (found_in m.entries) new fates last first k at least (grind (arith, nat_tests)))

-- where none is found, none overlaps
pub none_tells : (m : BTreeMap ℕ ℕ) (r : List (ℕ × ℕ)) (new : FateRange) (fates : List FateRange) → IsRangeOf nat_cmp (Included new.first) Unbounded m r → r ≡ [] → AreIndexed (found_in m.entries) fates
    → false ≡ list_any (overlap new) fates
none_tells m r new fates range is k = sym (none_from (found_in m.entries) new fates k.listed (λ q le. range.5 is q (not-past new.first q le, tt)))
