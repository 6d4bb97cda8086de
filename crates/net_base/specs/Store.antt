-- A database in one run of bytes, in which pairs stand one behind the other, each value right behind its attribute.
use Rattle.std.specs.Prelude.{◌≡◌, ℕ, zero, suc, ◌≤◌, ◌-◌, List, [], ◌∷◌, ◌++◌, length, drop, map, flat_map, slice_range}
use Rattle.net_base.specs.Ndb.{NdbPair}
use Rattle.net_base.specs.declared.ndb.runs.Mark.{Mark}
use Rattle.net_base.specs.declared.ndb.runs.Runs.{Runs}
use Rattle.net_base.specs.Parts.{last_end, parts, Rise}

-- a pair of these texts
abbrev pub pair_with : List ℕ → List ℕ → NdbPair
pair_with attr value = record { attr = attr; value = value }

-- the pair that begins here and has this mark
abbrev pub pair_between : ℕ → Mark → List ℕ → NdbPair
pair_between start mark bytes = pair_with (slice_range bytes start mark.attr) (slice_range bytes mark.attr mark.value)

-- the pairs with these marks, the first of which begins here
abbrev pub marked : ℕ → List Mark → List ℕ → List NdbPair
marked start [] bytes = []
marked start (mark ∷ marks) bytes = pair_between start mark bytes ∷ marked mark.value marks bytes

-- where the last of these pairs ends, the first of which begins here
abbrev pub last_value : ℕ → List Mark → ℕ
last_value start [] = start
last_value start (mark ∷ marks) = last_value mark.value marks

-- where the pair with this number begins
abbrev pub value_at : ℕ → List Mark → ℕ → ℕ
value_at start marks zero = start
value_at start [] (suc i) = start
value_at start (mark ∷ marks) (suc i) = value_at mark.value marks i

-- an attribute ends where it begins or behind that, its value behind it, and the last one where so many bytes end
abbrev pub MarksRise : ℕ → List Mark → ℕ → Type 0
MarksRise start [] count = start ≡ count
MarksRise start (mark ∷ marks) count = (start ≤ mark.attr) × (mark.attr ≤ mark.value) × MarksRise mark.value marks count

-- the marks where so many bytes in front are gone
abbrev pub mark_lowered : ℕ → Mark → Mark
mark_lowered count mark = record { attr = mark.attr - count; value = mark.value - count }

abbrev pub marks_lowered : ℕ → List Mark → List Mark
marks_lowered count marks = map (mark_lowered count) marks

-- all pairs of the runs
abbrev pub pairs_in : Runs → List NdbPair
pairs_in runs = marked 0 runs.pairs.items runs.bytes.items

-- the lines of the runs that have ended
abbrev pub lines_in : Runs → List (List NdbPair)
lines_in runs = parts 0 runs.lines.items (pairs_in runs)

-- the tuples of the runs that have ended
abbrev pub tuples_in : Runs → List (List (List NdbPair))
tuples_in runs = parts 0 runs.tuples.items (lines_in runs)

-- the lines behind the last tuple
abbrev pub open_lines : Runs → List (List NdbPair)
open_lines runs = drop (last_end 0 runs.tuples.items) (lines_in runs)

-- the pairs behind the last line
abbrev pub open_pairs : Runs → List NdbPair
open_pairs runs = drop (last_end 0 runs.lines.items) (pairs_in runs)

-- pairs fill the bytes; lines end within the pairs, and tuples within the lines
pub record AreSound (runs : Runs) : Type 0 where
  pub bytes : MarksRise 0 runs.pairs.items (length runs.bytes.items)
  pub lines : Rise 0 runs.lines.items (length runs.pairs.items)
  pub tuples : Rise 0 runs.tuples.items (length runs.lines.items)

-- nothing stands behind the last tuple
pub record AreWhole (runs : Runs) : Type 0 where
  pub lines : last_end 0 runs.lines.items ≡ length runs.pairs.items
  pub tuples : last_end 0 runs.tuples.items ≡ length runs.lines.items

-- the pairs of all tuples in a row
abbrev pub all_pairs : List (List (List NdbPair)) → List NdbPair
all_pairs tuples = flat_map (λ tuple. flat_map (λ line. line) tuple) tuples

-- a database that grows: its tuples, the lines of the one that is open, and the pairs of the line that is open
pub record Grown : Type 0 where
  pub tuples : List (List (List NdbPair))
  pub lines : List (List NdbPair)
  pub pairs : List NdbPair

abbrev pub grown : Runs → Grown
grown runs = record { tuples = tuples_in runs; lines = open_lines runs; pairs = open_pairs runs }

abbrev pub empty : Grown
empty = record { tuples = []; lines = []; pairs = [] }

-- with a pair more on the line that is open
abbrev pub with_pair : NdbPair → Grown → Grown
with_pair pair g = record { tuples = g.tuples; lines = g.lines; pairs = g.pairs ++ pair ∷ [] }

-- with more pairs on the line that is open
abbrev pub with_pairs : List NdbPair → Grown → Grown
with_pairs pairs g = record { tuples = g.tuples; lines = g.lines; pairs = g.pairs ++ pairs }

-- with the line that was open
abbrev pub line_ended : Grown → Grown
line_ended g = record { tuples = g.tuples; lines = g.lines ++ g.pairs ∷ []; pairs = [] }

-- with the tuple that was open
abbrev pub tuple_ended : Grown → Grown
tuple_ended g = record { tuples = g.tuples ++ g.lines ∷ []; lines = []; pairs = g.pairs }

-- with more tuples
abbrev pub with_tuples : List (List (List NdbPair)) → Grown → Grown
with_tuples tuples g = record { tuples = g.tuples ++ tuples; lines = g.lines; pairs = g.pairs }
