-- The version in force is the last one whose moment has come.
use Rattle.std.proofs.Common.{◌≡◌, ℕ, zero, suc, ◌+◌, ◌<◌, ◌≤◌, ◌==◌, ◌&&◌, Bool, true, false, List, [], ◌∷◌, Some, slice_get, nat_lt, nat_le, if◌then◌else◌, refl, sym, subst, arith}
use Rattle.std.proofs.lemmas.Bool.{and_parts, false≢true, eqb-true, leb-true, leb-false, ltb-true}
use Rattle.std.proofs.lemmas.Option.{none-some, same_Some}
use Rattle.net_base.specs.declared.world.Version.{Version}
use Rattle.net_base.specs.Versions.{IsInForce, are_later, are_timed, in_force, last_come}

-- none of these has come
abbrev AreToCome : ℕ → List Version → Type 0
AreToCome now vs = (k : ℕ) (v : Version) → slice_get vs k ≡ Some v → now < v.moment

-- of versions that stand behind n others, the one in force: it is one of the others where none of these has come
data Come (now before n : ℕ) (vs : List Version) (m : ℕ) : Type 0 where
  Before : m ≡ before → AreToCome now vs → Come now before n vs m
  Among : (k : ℕ) → m ≡ n + k → IsInForce vs now k → Come now before n vs m

later_parts : (last : ℕ) (v : Version) (vs : List Version) → are_later last (v ∷ vs) ≡ true → (last < v.moment) × (are_later v.moment vs ≡ true)
later_parts last v vs later =
    let one = and_parts (nat_lt last v.moment) (nat_le v.moment 1000000000 && are_later v.moment vs) later in
    let two = and_parts (nat_le v.moment 1000000000) (are_later v.moment vs) one.1 in
    (ltb-true last v.moment one.0, two.1)

-- behind a moment that is to come all are
all_to_come : (now last : ℕ) (vs : List Version) → now ≤ last → are_later last vs ≡ true → AreToCome now vs
all_to_come now last [] le later k v at = absurd (none-some v at)
all_to_come now last (u ∷ vs) le later zero v at =
    let above = (later_parts last u vs later).0 in
    subst (λ (x : Version). now < x.moment) (same_Some u v at) (omega (arith, le, above))
all_to_come now last (u ∷ vs) le later (suc k) v at =
    let parts = later_parts last u vs later in
    let above = parts.0 in
    all_to_come now u.moment vs (omega (arith, le, above)) parts.1 k v at

-- where none has come the one before stays
none_comes : (now before n last : ℕ) (vs : List Version) → now ≤ last → are_later last vs ≡ true → last_come before n now vs ≡ before
none_comes now before n last [] le later = refl
none_comes now before n last (v ∷ vs) le later =
    let parts = later_parts last v vs later in
    let above = parts.0 in
    by (nat_le v.moment now) refl (none_comes now before (n + 1) v.moment vs (omega (arith, le, above)) parts.1) above
  where
    by : (b : Bool) → nat_le v.moment now ≡ b → last_come before (n + 1) now vs ≡ before → last < v.moment → last_come (if b then n else before) (n + 1) now vs ≡ before
    by false at rest above = rest
    by true at rest above = let come = leb-true v.moment now at in absurd (omega (arith, le, above, come))

-- the first of these has come: it is in force where none behind it has
first_stays : (now : ℕ) (v : Version) (vs : List Version) → v.moment ≤ now → AreToCome now vs → IsInForce (v ∷ vs) now 0
first_stays now v vs has_come rest = record {
  version = v;
  stands = refl;
  has_come = has_come;
  is_last = later;
}
  where
    later : (k : ℕ) (u : Version) → 0 < k → slice_get (v ∷ vs) k ≡ Some u → now < u.moment
    later zero u lt at = absurd (omega (arith, lt))
    later (suc k) u lt at = rest k u at

one_behind : (now k : ℕ) (v : Version) (vs : List Version) → IsInForce vs now k → IsInForce (v ∷ vs) now (suc k)
one_behind now k v vs f = record {
  version = f.version;
  stands = f.stands;
  has_come = f.has_come;
  is_last = later;
}
  where
    later : (j : ℕ) (u : Version) → suc k < j → slice_get (v ∷ vs) j ≡ Some u → now < u.moment
    later zero u lt at = absurd (omega (arith, lt))
    later (suc j) u lt at = f.is_last j u (omega (arith, lt)) at

comes : (now before n last : ℕ) (vs : List Version) → are_later last vs ≡ true → Come now before n vs (last_come before n now vs)
comes now before n last [] later = Before refl (λ k v at. absurd (none-some v at))
comes now before n last (v ∷ vs) later =
    let rest = (later_parts last v vs later).1 in
    by (nat_le v.moment now) refl rest (comes now n (n + 1) v.moment vs rest)
  where
    among : v.moment ≤ now → Come now n (n + 1) vs (last_come n (n + 1) now vs) → Come now before n (v ∷ vs) (last_come n (n + 1) now vs)
    among has_come (Before same to_come) = Among 0 (omega (arith, same)) (first_stays now v vs has_come to_come)
    among has_come (Among k same f) = Among (suc k) (omega (arith, same)) (one_behind now k v vs f)

    by : (b : Bool) → nat_le v.moment now ≡ b → are_later v.moment vs ≡ true → Come now n (n + 1) vs (last_come n (n + 1) now vs) → Come now before n (v ∷ vs) (last_come (if b then n else before) (n + 1) now vs)
    by true at rest c = among (leb-true v.moment now at) c
    by false at rest c =
        let late = leb-false v.moment now at in
        Before (none_comes now before (n + 1) v.moment vs (omega (arith, late)) rest) (to_come late rest)
      where
        to_come : now < v.moment → are_later v.moment vs ≡ true → AreToCome now (v ∷ vs)
        to_come late rest zero u at = subst (λ (x : Version). now < x.moment) (same_Some v u at) late
        to_come late rest (suc k) u at = all_to_come now v.moment vs (omega (arith, late)) rest k u at

either_zero : (b : Bool) → ◌≡◌ {A = ℕ} (if b then 0 else 0) 0
either_zero true = refl
either_zero false = refl

pub is_in_force : (now : ℕ) (vs : List Version) → are_timed vs ≡ true → IsInForce vs now (in_force now vs)
is_in_force now [] timed = absurd (false≢true timed)
is_in_force now (v ∷ vs) timed =
    let parts = and_parts (v.moment == 0) (are_later 0 vs) timed in
    let first = eqb-true v.moment 0 parts.0 in
    let later = subst (λ (last : ℕ). are_later last vs ≡ true) (sym first) parts.1 in
    subst (λ (before : ℕ). IsInForce (v ∷ vs) now (last_come before 1 now vs)) (sym (either_zero (nat_le v.moment now)))
    (by (omega (arith, first)) (comes now 0 1 v.moment vs later))
  where
    by : v.moment ≤ now → Come now 0 1 vs (last_come 0 1 now vs) → IsInForce (v ∷ vs) now (last_come 0 1 now vs)
    by has_come (Before same to_come) = subst (λ (n : ℕ). IsInForce (v ∷ vs) now n) (sym same) (first_stays now v vs has_come to_come)
    by has_come (Among k same f) = subst (λ (n : ℕ). IsInForce (v ∷ vs) now n) (omega (arith, same)) (one_behind now k v vs f)
