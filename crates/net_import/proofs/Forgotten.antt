-- A name is forgotten by taking out the first remote file that has it, until none has.
use Rattle.std.proofs.Common.{◌≡◌, ℕ, suc, ◌+◌, ◌<◌, Bool, true, false, not, List, [], ◌∷◌, length, Some, None, if◌then◌else◌, refl, sym, subst, ap, ◌∙◌, arith}
use Rattle.std.specs.Prelude.{bytes_eq, filter, position, remove}
use Rattle.std.specs.List.{position_from}
use Rattle.std.proofs.lemmas.Iterator.Adapters.{position_from-zero}
use Rattle.std.proofs.lemmas.Option.{none-some, same_Some}
use Rattle.net_base.specs.declared.left.Left.{Left}
use Rattle.net_base.specs.declared.left.Remote.{Remote}
use Rattle.net_base.specs.Remotes.{without_remote}

module _ {X : Type 0} (p : X → Bool) where
  abbrev others : List X → List X
  others xs = filter (λ (x : X). not (p x)) xs

  -- what stands at this place passes, and without it the others are the same
  abbrev Passing : List X → ℕ → ℕ → Type 0
  Passing xs k i = (j : ℕ) × (i ≡ k + j) × (j < length xs) × (others (remove xs j) ≡ others xs)

  passing_by : (x : X) (xs : List X) (k i : ℕ) (b : Bool) → p x ≡ b → (if b then Some k else position_from p (k + 1) xs) ≡ Some i
      → (position_from p (k + 1) xs ≡ Some i → Passing xs (k + 1) i) → Passing (x ∷ xs) k i
  passing_by x xs k i true passes is behind = (0, omega (arith, same_Some k i is), omega arith, rw passes refl)
  passing_by x xs k i false fails is behind =
      let more = behind is in
      (suc more.0, omega (arith, more.1), omega (arith, more.2), rw fails (ap (λ (ys : List X). x ∷ ys) more.3))

  passing : (xs : List X) (k i : ℕ) → position_from p k xs ≡ Some i → Passing xs k i
  passing [] k i is = absurd (none-some i is)
  passing (x ∷ xs) k i is = passing_by x xs k i (p x) refl is (passing xs (k + 1) i)

  -- where none passes all are others
  none_by : (x : X) (xs : List X) (k : ℕ) (b : Bool) → p x ≡ b → (if b then Some k else position_from p (k + 1) xs) ≡ None
      → (position_from p (k + 1) xs ≡ None → others xs ≡ xs) → others (x ∷ xs) ≡ x ∷ xs
  none_by x xs k true passes is behind = absurd (none-some k (sym is))
  none_by x xs k false fails is behind = rw fails (ap (λ (ys : List X). x ∷ ys) (behind is))

  none_passes : (xs : List X) (k : ℕ) → position_from p k xs ≡ None → others xs ≡ xs
  none_passes [] k is = refl
  none_passes (x ∷ xs) k is = none_by x xs k (p x) refl is (none_passes xs (k + 1))

abbrev has : List ℕ → Remote → Bool
has called r = bytes_eq called r.name

-- where a file has the name, it stands at this place
pub within : (called : List ℕ) (left : Left) (place : ℕ) → position (has called) left.remotes ≡ Some place → place < length left.remotes
within called left place is =
    let first = passing (has called) left.remotes 0 place (sym (position_from-zero (has called) left.remotes) ∙ is) in
    omega (arith, first.1, first.2)

-- once the file of the name at this place is gone, as much is left to forget
pub forgets_more : (called : List ℕ) (left : Left) (place : ℕ) → position (has called) left.remotes ≡ Some place
    → without_remote called (record left { remotes = remove left.remotes place }) ≡ without_remote called left
forgets_more called left place is =
    let first = passing (has called) left.remotes 0 place (sym (position_from-zero (has called) left.remotes) ∙ is) in
    let same : place ≡ first.0 = omega (arith, first.1) in
    ap (λ (rs : List Remote). record left { remotes = rs }) (subst (λ (i : ℕ). others (has called) (remove left.remotes i) ≡ others (has called) left.remotes) (sym same) first.3)

-- once no file has the name nothing is left to forget
pub forgotten : (called : List ℕ) (left : Left) → position (has called) left.remotes ≡ None → left ≡ without_remote called left
forgotten called left is =
    ap (λ (rs : List Remote). record left { remotes = rs }) (sym (none_passes (has called) left.remotes 0 (sym (position_from-zero (has called) left.remotes) ∙ is)))
