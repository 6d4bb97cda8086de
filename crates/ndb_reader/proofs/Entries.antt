-- Entries that are put before the others.
use Rattle.std.proofs.Common.{◌≡◌, ℕ, ◌+◌, ◌≤◌, ◌<◌, ◌==◌, Bool, true, false, cond, List, [], ◌∷◌, ◌++◌, length, get_or, refl, sym, ap, ◌∙◌, arith}
use Rattle.std.specs.Prelude.{suc}
use Rattle.std.proofs.lemmas.List.{get_or_append_left, get_or_at, get_or-set_other, length-set}
use Rattle.std.proofs.lemmas.Grind.{get_or-set_at}
use Rattle.std.proofs.Math.ListN.{set}
use Rattle.std.proofs.lemmas.Bool.Decides.{nat_tests}
use Rattle.ndb_reader.specs.Chains.{first_in, AreNexts}

pub first-within : (bucket : ℕ) (buckets : List ℕ) → first_in bucket buckets ≤ length buckets
first-within bucket [] = omega arith
first-within bucket (b ∷ buckets) = by (b == bucket) (first-within bucket buckets)
  where
    by : (same : Bool) → first_in bucket buckets ≤ length buckets → cond same (suc (length buckets)) (first_in bucket buckets) ≤ suc (length buckets)
    by true within = omega arith
    by false within = omega (arith, within)

pub nexts-more : (nexts more buckets : List ℕ) → length buckets ≤ length nexts → AreNexts nexts buckets → AreNexts (nexts ++ more) buckets
nexts-more nexts more [] within are = tt
nexts-more nexts more (bucket ∷ buckets) within are = (
  get_or_append_left nexts more 0 (length buckets) (omega (arith, within)) ∙ are.0,
  nexts-more nexts more buckets (omega (arith, within)) are.1,
)

pub nexts-push : (nexts buckets : List ℕ) (bucket head : ℕ) → length nexts ≡ length buckets → head ≡ first_in bucket buckets → AreNexts nexts buckets → AreNexts (nexts ++ head ∷ []) (bucket ∷ buckets)
nexts-push nexts buckets bucket head count is are = (
  get_or_at nexts head [] 0 (length buckets) count ∙ is,
  nexts-more nexts (head ∷ []) buckets (omega (arith, count)) are,
)

-- the entry behind which these stand
pub next-at : (nexts before : List ℕ) (bucket : ℕ) (behind : List ℕ) → AreNexts nexts (before ++ bucket ∷ behind) → get_or nexts (length behind) 0 ≡ first_in bucket behind
next-at nexts [] bucket behind are = are.0
next-at nexts (b ∷ before) bucket behind are = next-at nexts before bucket behind are.1

-- the heads with an entry that is put before the others
pub heads-push : (heads buckets : List ℕ) (bucket head : ℕ) → bucket < length heads → head ≡ suc (length buckets) → ((b : ℕ) → b < length heads → get_or heads b 0 ≡ first_in b buckets)
    → (b : ℕ) → b < length (set heads bucket head) → get_or (set heads bucket head) b 0 ≡ first_in b (bucket ∷ buckets)
heads-push heads buckets bucket head room is are b within = by (bucket == b) refl
  where
    by : (same : Bool) → (bucket == b) ≡ same → get_or (set heads bucket head) b 0 ≡ cond (bucket == b) (suc (length buckets)) (first_in b buckets)
    by true e =
        get_or-set_at heads bucket b head 0 (grind (arith, nat_tests, e)) room ∙ is
        ∙ sym (ap (λ (c : Bool). cond c (suc (length buckets)) (first_in b buckets)) e)
    by false e =
        get_or-set_other heads bucket b head 0 (λ (h : b ≡ bucket). grind (arith, nat_tests, e, h))
        ∙ are b (omega (arith, within, length-set heads bucket head))
        ∙ sym (ap (λ (c : Bool). cond c (suc (length buckets)) (first_in b buckets)) e)
