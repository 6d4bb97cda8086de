-- The files of a bundle in one row of tuples and one row of names, each known by where it ends.
use Rattle.std.specs.Prelude.{ℕ, zero, suc, ◌≤◌, List, [], ◌∷◌, ◌++◌, length, drop, flat_map, slice_range}
use Rattle.net_base.specs.Ndb.{NdbPair}
use Rattle.net_base.specs.NdbBundle.{File}
use Rattle.net_base.specs.Store.{Grown}
use Rattle.ndb_reader.specs.declared.files.FileEnd.{FileEnd}
use Rattle.ndb_reader.specs.declared.files.Files.{Files}
use Rattle.ndb_reader.specs.declared.bundle.Bundle.{Bundle}

-- the files with these ends, the first of which begins here
abbrev pub files_ended : ℕ → ℕ → List FileEnd → List ℕ → List (List (List NdbPair)) → List File
files_ended name tuple [] names tuples = []
files_ended name tuple (end ∷ ends) names tuples =
    record { name = slice_range names name end.name; tuples = slice_range tuples tuple end.tuple } ∷ files_ended end.name end.tuple ends names tuples

-- where the last file's name ends, and its tuples do
abbrev pub last_name : ℕ → List FileEnd → ℕ
last_name start [] = start
last_name start (end ∷ ends) = last_name end.name ends

abbrev pub last_tuple : ℕ → List FileEnd → ℕ
last_tuple start [] = start
last_tuple start (end ∷ ends) = last_tuple end.tuple ends

-- where the file with this number begins
abbrev pub file_begins_at : ℕ → List FileEnd → ℕ → ℕ
file_begins_at start ends zero = start
file_begins_at start [] (suc i) = start
file_begins_at start (end ∷ ends) (suc i) = file_begins_at end.name ends i

abbrev pub tuple_at : ℕ → List FileEnd → ℕ → ℕ
tuple_at start ends zero = start
tuple_at start [] (suc i) = start
tuple_at start (end ∷ ends) (suc i) = tuple_at end.tuple ends i

-- each file ends where it begins or behind that, and the last one within so many bytes of names and so many tuples
abbrev pub FilesRise : ℕ → ℕ → List FileEnd → ℕ → ℕ → Type 0
FilesRise name tuple [] bytes count = (name ≤ bytes) × (tuple ≤ count)
FilesRise name tuple (end ∷ ends) bytes count = (name ≤ end.name) × (tuple ≤ end.tuple) × FilesRise end.name end.tuple ends bytes count

-- the tuple of these lines, where there are any
abbrev pub tuple_of : List (List NdbPair) → List (List (List NdbPair))
tuple_of [] = []
tuple_of (line ∷ lines) = (line ∷ lines) ∷ []

-- the files that have ended, and of the one that grows its name, its tuples but the last, that one's lines, and a line's pairs
pub record Filed : Type 0 where
  pub closed : List File
  pub name : List ℕ
  pub whole : List (List (List NdbPair))
  pub last : List (List NdbPair)
  pub pairs : List NdbPair

-- what is shown, by what is kept
abbrev pub filed_by : List FileEnd → List ℕ → Grown → Filed
filed_by ends names growing = record {
  closed = files_ended 0 0 ends names growing.tuples;
  name = drop (last_name 0 ends) names;
  whole = drop (last_tuple 0 ends) growing.tuples;
  last = growing.lines;
  pairs = growing.pairs;
}

abbrev pub filed : Files → Filed
filed files = filed_by files.ends.items files.names.items files.growing

-- the files' names and tuples stand within those that are kept
abbrev pub AreFiled : Files → Type 0
AreFiled files = FilesRise 0 0 files.ends.items (length files.names.items) (length files.growing.tuples)

-- with a line's pairs
abbrev pub line_filed : List NdbPair → Filed → Filed
line_filed pairs f = record { closed = f.closed; name = f.name; whole = f.whole; last = f.last; pairs = f.pairs ++ pairs }

-- with the line that was open, which goes on with the last tuple
abbrev pub gone_on : Filed → Filed
gone_on f = record { closed = f.closed; name = f.name; whole = f.whole; last = f.last ++ f.pairs ∷ []; pairs = [] }

-- without an open tuple
abbrev pub last_ended : Filed → Filed
last_ended f = record { closed = f.closed; name = f.name; whole = f.whole ++ tuple_of f.last; last = []; pairs = f.pairs }

-- with the line that was open, which starts a tuple
abbrev pub with_started : Filed → Filed
with_started f = gone_on (last_ended f)

-- the file that grows, as it stands
abbrev pub file_grown : Filed → File
file_grown f = record { name = f.name; tuples = f.whole ++ tuple_of f.last }

-- with a file of this name that grows
abbrev pub file_begun : List ℕ → Filed → Filed
file_begun name f = record { closed = f.closed ++ file_grown f ∷ []; name = name; whole = []; last = []; pairs = f.pairs }

-- the tuples of files in a row
abbrev pub tuples_of : List File → List (List (List NdbPair))
tuples_of files = flat_map (λ file. file.tuples) files

-- all files of a bundle
abbrev pub files_of : Bundle → List File
files_of bundle = files_ended 0 0 bundle.ends.items bundle.names.items bundle.db

abbrev pub AreBundled : Bundle → Type 0
AreBundled bundle = FilesRise 0 0 bundle.ends.items (length bundle.names.items) (length bundle.db)
