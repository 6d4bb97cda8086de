-- Marks of fids: what a remote file more adds to them, and that the first number without a mark is the lowest free fid.
use Rattle.std.proofs.Common.{◌≡◌, ℕ, zero, suc, ◌+◌, ◌-◌, ◌<◌, ◌≤◌, ◌==◌, ◌&&◌, ◌||◌, Bool, true, false, not, List, [], ◌∷◌, ◌++◌, length, map, replicate, Some, if◌then◌else◌, refl, sym, ap, ap₂, ◌∙◌, arith}
use Rattle.std.specs.Prelude.{find, bytes_eq, nat_le, position, slice_set}
use Rattle.std.specs.List.{list_any, position_from, range_with_len}
use Rattle.std.proofs.Math.Seq.{set_out}
use Rattle.std.proofs.lemmas.Bool.Decides.{nat_tests}
use Rattle.std.proofs.lemmas.Iterator.Adapters.{position_from-zero}
use Rattle.std.proofs.lemmas.List.Folds.{list_any-append}
use Rattle.std.proofs.lemmas.Option.{none-some, same_Some}
use Rattle.net_base.specs.declared.left.Left.{Left}
use Rattle.net_base.specs.declared.left.Remote.{Remote}
use Rattle.net_base.specs.Remotes.{free_fid, has_fid}
use Rattle.net_import.specs.Marks.{remote_marked, marks}

-- ---- the first without a mark

module _ (f : ℕ → Bool) where
  -- the number without a mark that stands at this place
  abbrev First : ℕ → ℕ → ℕ → ℕ → Type 0
  First a j k i = (d : ℕ) × (i ≡ j + d) × (find (λ (n : ℕ). not (f n)) (range_with_len a k) ≡ Some (a + d))

  first_by : (a j k i : ℕ) (b : Bool) → f a ≡ b → (if not b then Some j else position_from not (j + 1) (map f (range_with_len (a + 1) k))) ≡ Some i
      → (position_from not (j + 1) (map f (range_with_len (a + 1) k)) ≡ Some i → First (a + 1) (j + 1) k i) → First a j (suc k) i
  first_by a j k i false free is behind = (0, omega (arith, same_Some j i is), rw free (ap (λ (n : ℕ). Some n) (omega arith)))
  first_by a j k i true taken is behind =
      let more = behind is in
      (suc more.0, omega (arith, more.1), rw taken (more.2 ∙ ap (λ (n : ℕ). Some n) (omega arith)))

  first : (a j k i : ℕ) → position_from not j (map f (range_with_len a k)) ≡ Some i → First a j k i
  first a j zero i is = absurd (none-some i is)
  first a j (suc k) i is = first_by a j k i (f a) refl is (first (a + 1) (j + 1) k i)

pub lowest : (left : Left) (call : List ℕ) (place : ℕ) → position not (marks left.remotes call (length left.remotes + 1)) ≡ Some place
    → place + 1 ≡ free_fid left call
lowest left call place is =
    let found = first (has_fid left call) 1 0 (length left.remotes + 1) place
    (sym (position_from-zero not (marks left.remotes call (length left.remotes + 1))) ∙ is) in
    rw found.2 (omega (arith, found.1))

-- ---- a remote file more

same_or : (b c : Bool) → c ≡ false → b ≡ (b || c)
same_or true c is = refl
same_or false c is = sym is

or_is : (b c : Bool) → c ≡ true → true ≡ (b || c)
or_is true c is = refl
or_is false c is = sym is

-- numbers above a fid keep their marks
above : (f : ℕ → Bool) (fid a k : ℕ) → fid < a → map f (range_with_len a k) ≡ map (λ (n : ℕ). f n || (fid == n)) (range_with_len a k)
above f fid a zero below = refl
above f fid a (suc k) below =
    ap₂ (λ (b : Bool) (bs : List Bool). b ∷ bs) (same_or (f a) (fid == a) (grind (arith, nat_tests, below))) (above f fid (a + 1) k (omega (arith, below)))

with_mark : (f : ℕ → Bool) (fid a k i : ℕ) → fid ≡ a + i
    → slice_set (map f (range_with_len a k)) i true ≡ map (λ (n : ℕ). f n || (fid == n)) (range_with_len a k)
with_mark f fid a zero i is = refl
with_mark f fid a (suc k) zero is =
    ap₂ (λ (b : Bool) (bs : List Bool). b ∷ bs) (or_is (f a) (fid == a) (grind (arith, nat_tests, is))) (above f fid (a + 1) k (omega (arith, is)))
with_mark f fid a (suc k) (suc i) is =
    ap₂ (λ (b : Bool) (bs : List Bool). b ∷ bs) (same_or (f a) (fid == a) (grind (arith, nat_tests, is))) (with_mark f fid (a + 1) k i (omega (arith, is)))

-- tests that agree give the same marks
same_marks : (f g : ℕ → Bool) (a k : ℕ) → ((n : ℕ) → a ≤ n → f n ≡ g n) → map f (range_with_len a k) ≡ map g (range_with_len a k)
same_marks f g a zero same = refl
same_marks f g a (suc k) same =
    ap₂ (λ (b : Bool) (bs : List Bool). b ∷ bs) (same a (omega arith)) (same_marks f g (a + 1) k (λ n from. same n (omega (arith, from))))

or_none : (b c : Bool) → c ≡ false → (b || (c || false)) ≡ b
or_none true c is = refl
or_none false c is = rw is refl

or_one : (b c d : Bool) → c ≡ d → (b || (c || false)) ≡ (b || d)
or_one true c d is = refl
or_one false true d is = is
or_one false false d is = is

marked_by : (rs : List Remote) (r : Remote) (call : List ℕ) (k : ℕ) (b c : Bool) → bytes_eq call r.call ≡ b → nat_le 1 r.fid ≡ c
    → marks (rs ++ r ∷ []) call k ≡ (if b && c then slice_set (marks rs call k) (r.fid - 1) true else marks rs call k)
marked_by rs r call k true true is some =
    same_marks _ _ 1 k (λ n from. list_any-append _ rs (r ∷ []) ∙ or_one _ _ (r.fid == n) (rw is refl))
    ∙ sym (with_mark _ r.fid 1 k (r.fid - 1) (grind (arith, nat_tests, some)))
marked_by rs r call k true false is some =
    same_marks _ _ 1 k (λ n from. list_any-append _ rs (r ∷ []) ∙ or_none _ _ (rw is (grind (arith, nat_tests, some, from))))
marked_by rs r call k false c is some =
    same_marks _ _ 1 k (λ n from. list_any-append _ rs (r ∷ []) ∙ or_none _ _ (rw is refl))

pub marked_more : (rs : List Remote) (r : Remote) (call : List ℕ) (k : ℕ) → marks (rs ++ r ∷ []) call k ≡ remote_marked (marks rs call k) r call
marked_more rs r call k = marked_by rs r call k (bytes_eq call r.call) (nat_le 1 r.fid) refl refl

-- no marks are there at first
pub none_marked : (call : List ℕ) (a k : ℕ) → replicate k false ≡ map (λ (n : ℕ). list_any (λ (r : Remote). bytes_eq call r.call && (r.fid == n)) []) (range_with_len a k)
none_marked call a zero = refl
none_marked call a (suc k) = ap (λ (bs : List Bool). false ∷ bs) (none_marked call (a + 1) k)

-- ---- a remote file that marks nothing

pub other_call : (taken : List Bool) (r : Remote) (call : List ℕ) → bytes_eq call r.call ≡ false → taken ≡ remote_marked taken r call
other_call taken r call is = rw is refl

zero_by : (taken : List Bool) (i : ℕ) (b c : Bool) → c ≡ false → taken ≡ (if b && c then slice_set taken i true else taken)
zero_by taken i true c is = rw is refl
zero_by taken i false c is = refl

pub no_fid : (taken : List Bool) (r : Remote) (call : List ℕ) → r.fid < 1 → taken ≡ remote_marked taken r call
no_fid taken r call none = zero_by taken (r.fid - 1) (bytes_eq call r.call) (nat_le 1 r.fid) (grind (arith, nat_tests, none))

past_by : (taken : List Bool) (i : ℕ) (b : Bool) → length taken ≤ i → taken ≡ (if b then slice_set taken i true else taken)
past_by taken i true past = sym (set_out taken i true past)
past_by taken i false past = refl

pub past_all : (taken : List Bool) (r : Remote) (call : List ℕ) → 1 ≤ r.fid → length taken < r.fid → taken ≡ remote_marked taken r call
past_all taken r call some past = past_by taken (r.fid - 1) (bytes_eq call r.call && nat_le 1 r.fid) (omega (arith, some, past))
