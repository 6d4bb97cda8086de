-- A walk along a chain meets what has its bucket, in order.
use Rattle.std.proofs.Common.{◌≡◌, ℕ, ◌+◌, ◌<◌, ◌==◌, Bool, true, false, cond, List, [], ◌∷◌, ◌++◌, length, map, refl, ap, ◌∙◌, arith}
use Rattle.std.specs.Prelude.{suc}
use Rattle.std.specs.List.{filter}
use Rattle.std.proofs.lemmas.List.{length-map}
use Rattle.std.proofs.lemmas.Bool.Decides.{nat_tests}
use Rattle.ndb_reader.specs.Chains.{first_in}

module _ {X : Type 0} (key : X → ℕ) (bucket : ℕ) where
  -- those of the bucket
  abbrev pub in_bucket : List X → List X
  in_bucket xs = filter (λ x. key x == bucket) xs

  -- what stands before the first of a bucket, that one, and what stands behind it
  pub record Met (xs : List X) (left : ℕ) : Type 0 where
    pub before : List X
    pub one : X
    pub behind : List X
    pub is : xs ≡ before ++ one ∷ behind
    pub key_is : key one ≡ bucket
    pub count : left ≡ suc (length behind)
    pub rest : in_bucket xs ≡ one ∷ in_bucket behind

  pub met : (xs : List X) (left : ℕ) → left ≡ first_in bucket (map key xs) → 0 < left → Met xs left
  met [] left is some = absurd (omega (arith, is, some))
  met (x ∷ xs) left is some = by (key x == bucket) refl is (met xs left)
    where
      by : (same : Bool) → (key x == bucket) ≡ same → left ≡ cond same (suc (length (map key xs))) (first_in bucket (map key xs)) → (left ≡ first_in bucket (map key xs) → 0 < left → Met xs left) → Met (x ∷ xs) left
      by true e is later = record {
        before = [];
        one = x;
        behind = xs;
        is = refl;
        key_is = grind (arith, nat_tests, e);
        count = is ∙ ap suc (length-map xs key);
        rest = ap (λ b. cond b (x ∷ in_bucket xs) (in_bucket xs)) e;
      }
      by false e is later =
          let m = later is some in
          record {
            before = x ∷ m.before;
            one = m.one;
            behind = m.behind;
            is = ap (λ (ys : List X). x ∷ ys) m.is;
            key_is = m.key_is;
            count = m.count;
            rest = ap (λ b. cond b (x ∷ in_bucket xs) (in_bucket xs)) e ∙ m.rest;
          }

  -- none is left where none has the bucket
  pub none-met : (xs : List X) → first_in bucket (map key xs) ≡ 0 → in_bucket xs ≡ []
  none-met [] none = refl
  none-met (x ∷ xs) none = by (key x == bucket) none (none-met xs)
    where
      by : (same : Bool) → cond same (suc (length (map key xs))) (first_in bucket (map key xs)) ≡ 0 → (first_in bucket (map key xs) ≡ 0 → in_bucket xs ≡ []) → cond same (x ∷ in_bucket xs) (in_bucket xs) ≡ []
      by true none later = absurd (omega (arith, none))
      by false none later = later none
