-- The buckets of pairs.
use Rattle.std.specs.Prelude.{ℕ, ◌*◌, ◌%◌, ◌^◌, List, fold, bit_xor}
use Rattle.net_base.specs.Ndb.{NdbPair}

-- the hash before any byte
abbrev pub first_hash : ℕ
first_hash = 0xcbf2_9ce4_8422_2325

-- the hash after one more byte
abbrev pub step : ℕ → ℕ → ℕ
step hash byte = (bit_xor hash byte * 0x100_0000_01b3) % 2 ^ 64

-- the bucket of a pair, of so many
unfoldable pub bucket_of_pair : ℕ → List ℕ → List ℕ → ℕ
bucket_of_pair width attr value = fold step (fold step first_hash attr) value % width

abbrev pub pair_bucket : ℕ → NdbPair → ℕ
pair_bucket width pair = bucket_of_pair width pair.attr pair.value
