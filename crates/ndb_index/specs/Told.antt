-- A tuple as a query tells it.
use Rattle.std.specs.Prelude.{ℕ, List, flat_map}
use Rattle.net_base.specs.Ndb.{NdbPair}
use Rattle.ndb_reader.specs.Written.{pairs_text}

-- the pairs of a tuple in order, as one line
abbrev pub tuple_as_line : List (List NdbPair) → List ℕ
tuple_as_line tuple = pairs_text (flat_map (λ line. line) tuple)
