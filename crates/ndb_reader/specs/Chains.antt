-- Chains of entries, each with a bucket: an entry tells the next one that has its bucket. The entries are counted from the last one.
use Rattle.std.specs.Prelude.{◌≡◌, ℕ, suc, ◌<◌, ◌==◌, List, [], ◌∷◌, length, get_or, if◌then◌else◌, ⊤}
use Rattle.ndb_reader.specs.declared.chains.Chains.{Chains}

-- how many entries stand from the first one on that has the bucket, 0 where none has it
abbrev pub first_in : ℕ → List ℕ → ℕ
first_in bucket [] = 0
first_in bucket (b ∷ buckets) = if b == bucket then suc (length buckets) else first_in bucket buckets

-- each entry tells how many stand from the next one of its bucket on
abbrev pub AreNexts : List ℕ → List ℕ → Type 0
AreNexts nexts [] = ⊤
AreNexts nexts (bucket ∷ buckets) = (get_or nexts (length buckets) 0 ≡ first_in bucket buckets) × AreNexts nexts buckets

-- how many buckets there are
abbrev pub width_of : Chains → ℕ
width_of chains = length chains.heads.items

-- the entries have these buckets, in order
pub record AreChains (chains : Chains) (buckets : List ℕ) : Type 0 where
  pub count : length chains.nexts.items ≡ length buckets
  pub heads : (bucket : ℕ) → bucket < width_of chains → get_or chains.heads.items bucket 0 ≡ first_in bucket buckets
  pub nexts : AreNexts chains.nexts.items buckets
