-- The names of entries, the newest first.
use Rattle.std.proofs.Common.{◌≡◌, ℕ, Bool, true, false, ◌||◌, List, [], ◌∷◌, ◌++◌, Vec, vec_items, Option, Some, None, option_map, is_some, Result, Ok, Err, is_ok, is_err, OnOk, bytes_eq, if◌then◌else◌, refl, sym, ap, ◌∙◌, subst}
use Rattle.std.proofs.lemmas.Bool.{false≢true}
use Rattle.std.specs.List.{IsDistinct, AllByRecursion}
use Rattle.std.specs.Map.{keys_of, lookup, remove_entry}
use Rattle.std.proofs.lemmas.Slice.Eq.{bytes_eq-Decides}
use Rattle.net_base.specs.Steps as steps
use Rattle.net_base.specs.Steps.{Bound, Fid as File, fid_among, is_among}
use Rattle.net_tree.specs.declared.fids.Fid.{Fid}
use Rattle.net_tree.specs.Bindings.{name_in_front, bindings, bound_file, bound_of, newest_onto, AreApart}
use Rattle.net_base.proofs.Shared.{or_true}

abbrev or_else : Option File → Option File → Option File
or_else None other = other
or_else (Some f) other = Some f

none_of : (o : Option Fid) → is_some o ≡ false → o ≡ None
none_of None e = refl
none_of (Some f) e = absurd (false≢true (sym e))

-- what is so where a call succeeds, and it does
pub on_ok : {T E P : Type 0} (r : Result T E) → is_err r ≡ false → OnOk r P → P
on_ok (Ok x) fine given = given
on_ok (Err e) fine given = absurd (false≢true (sym fine))

pub is_fine : {T E : Type 0} (r : Result T E) → is_ok r ≡ true → is_err r ≡ false
is_fine (Ok x) fine = refl
is_fine (Err e) fine = absurd (false≢true fine)

pub same_bindings : {a b : List Bound} {r s : Option (List ℕ)} → a ≡ b → r ≡ s → bindings a r ≡ bindings b s
same_bindings e f = λ i. bindings (e i) (f i)

module _ {Z : Type 0} where
  abbrev has : List ℕ → Vec ℕ Z → Bool
  has c k = bytes_eq c (vec_items k)

  -- no key has the text
  abbrev Without : List ℕ → List (Vec ℕ Z) → Type 0
  Without c ks = AllByRecursion (λ (k : Vec ℕ Z). has c k ≡ false) ks

  -- what is apart from an entry hasn't its text
  without : (c : List ℕ) (k : Vec ℕ Z) (ks : List (Vec ℕ Z)) → has c k ≡ true → Without (vec_items k) ks → Without c ks
  without c k ks e all = subst (λ (x : List ℕ). Without x ks) (sym ((bytes_eq-Decides c (vec_items k)).0 e)) all

  first_apart : (e : Vec ℕ Z × Fid) (es : List (Vec ℕ Z × Fid)) → AreApart (e ∷ es) → Without (vec_items e.0) (keys_of es)
  unfolding IsDistinct
  first_apart e es apart = apart.0

  rest_apart : (e : Vec ℕ Z × Fid) (es : List (Vec ℕ Z × Fid)) → AreApart (e ∷ es) → AreApart es
  unfolding IsDistinct
  rest_apart e es apart = apart.1

  not_found : (c : List ℕ) (es : List (Vec ℕ Z × Fid)) → Without c (keys_of es) → lookup (has c) es ≡ None
  not_found c [] all = refl
  not_found c (e ∷ es) all = rw (all.0) (not_found c es all.1)

  not_removed : (c : List ℕ) (es : List (Vec ℕ Z × Fid)) → Without c (keys_of es) → remove_entry (has c) es ≡ es
  not_removed c [] all = refl
  not_removed c (e ∷ es) all = rw (all.0) (ap (λ (xs : List (Vec ℕ Z × Fid)). e ∷ xs) (not_removed c es all.1))

  fid_newest : (c : List ℕ) (names : List Bound) (es : List (Vec ℕ Z × Fid)) → AreApart es
      → fid_among c (newest_onto names es) ≡ or_else (option_map bound_file (lookup (has c) es)) (fid_among c names)
  fid_newest c names [] apart = refl
  fid_newest c names (e ∷ es) apart =
      fid_newest c (bound_of e ∷ names) es (rest_apart e es apart)
      ∙ by (has c e.0) refl (λ is. not_found c es (without c e.0 (keys_of es) is (first_apart e es apart)))
    where
      by : (b : Bool) → has c e.0 ≡ b → (has c e.0 ≡ true → lookup (has c) es ≡ None)
          → or_else (option_map bound_file (lookup (has c) es)) (if b then Some (bound_file e.1) else fid_among c names)
          ≡ or_else (option_map bound_file (if b then Some e.1 else lookup (has c) es)) (fid_among c names)
      by true is none = rw (none is) refl
      by false is none = refl

  -- what the newest binding of a name is bound to
  pub fid_found : (c : List ℕ) (es : List (Vec ℕ Z × Fid)) → AreApart es → option_map bound_file (lookup (has c) es) ≡ fid_among c (newest_onto [] es)
  fid_found c es apart = sym (fid_newest c [] es apart ∙ by (option_map bound_file (lookup (has c) es)))
    where
      by : (o : Option File) → or_else o None ≡ o
      by None = refl
      by (Some f) = refl

  bound_newest : (c : List ℕ) (names : List Bound) (es : List (Vec ℕ Z × Fid)) → is_among (newest_onto names es) c ≡ (is_some (lookup (has c) es) || is_among names c)
  bound_newest c names [] = refl
  bound_newest c names (e ∷ es) = bound_newest c (bound_of e ∷ names) es ∙ by (has c e.0)
    where
      by : (b : Bool) → (is_some (lookup (has c) es) || (b || is_among names c)) ≡ (is_some (if b then Some e.1 else lookup (has c) es) || is_among names c)
      by true = or_true _
      by false = refl

  -- whether a name is bound
  pub bound_found : (c : List ℕ) (es : List (Vec ℕ Z × Fid)) → is_some (lookup (has c) es) ≡ is_among (newest_onto [] es) c
  bound_found c es = sym (bound_newest c [] es ∙ by (is_some (lookup (has c) es)))
    where
      by : (b : Bool) → (b || false) ≡ b
      by true = refl
      by false = refl

  newest_last : (names : List Bound) (es : List (Vec ℕ Z × Fid)) (e : Vec ℕ Z × Fid) → newest_onto names (es ++ e ∷ []) ≡ bound_of e ∷ newest_onto names es
  newest_last names [] e = refl
  newest_last names (x ∷ es) e = newest_last (bound_of x ∷ names) es e

  unbind_newest : (c : List ℕ) (names : List Bound) (es : List (Vec ℕ Z × Fid)) → AreApart es
      → newest_onto (steps.without c names) (remove_entry (has c) es) ≡ steps.without c (newest_onto names es)
  unbind_newest c names [] apart = refl
  unbind_newest c names (e ∷ es) apart =
      by (has c e.0) refl (λ is. not_removed c es (without c e.0 (keys_of es) is (first_apart e es apart)))
      ∙ unbind_newest c (bound_of e ∷ names) es (rest_apart e es apart)
    where
      by : (b : Bool) → has c e.0 ≡ b → (has c e.0 ≡ true → remove_entry (has c) es ≡ es)
          → newest_onto (steps.without c names) (if b then es else e ∷ remove_entry (has c) es) ≡ newest_onto (steps.without c (bound_of e ∷ names)) (remove_entry (has c) es)
      by true is same = rw is (rw (same is) refl)
      by false is same = rw is refl

  -- what is left where a name is unbound
  pub unbound : (c : List ℕ) (es : List (Vec ℕ Z × Fid)) → AreApart es → newest_onto [] (remove_entry (has c) es) ≡ steps.without c (newest_onto [] es)
  unbound c es apart = unbind_newest c [] es apart

  -- a name that isn't bound has no entry
  pub not_bound : (c : List ℕ) (k : Vec ℕ Z) (es : List (Vec ℕ Z × Fid)) → vec_items k ≡ c → is_among (newest_onto [] es) c ≡ false → lookup (has (vec_items k)) es ≡ None
  not_bound c k es same free = none_of _ (bound_found (vec_items k) es ∙ (ap (λ (x : List ℕ). is_among (newest_onto [] es) x) same ∙ free))

  -- a name that is bound last is the newest
  pub bound_more : (c : List ℕ) (k : Vec ℕ Z) (f : Fid) (es fs : List (Vec ℕ Z × Fid)) → vec_items k ≡ c → fs ≡ es ++ (k, f) ∷ [] → newest_onto [] fs ≡ name_in_front c (bound_file f) (newest_onto [] es)
  bound_more c k f es fs same is =
      ap (λ (xs : List (Vec ℕ Z × Fid)). newest_onto [] xs) is
      ∙ (newest_last [] es (k, f) ∙ ap (λ (x : List ℕ). name_in_front x (bound_file f) (newest_onto [] es)) same)
