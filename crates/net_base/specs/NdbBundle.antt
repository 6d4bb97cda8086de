-- Bundles of files in one text of a database, their bad lines, and the choice of files.
use Rattle.std.specs.Prelude.{ℕ, ◌+◌, Bool, not, ◌&&◌, List, [], ◌∷◌, ◌++◌, length, drop, bytes_eq, codes, Option, Some, None, is_none, if◌then◌else◌}
use Rattle.std.specs.List.{list_any, filter, flat_map, find, before_first, after_last}
use Rattle.net_base.specs.Ndb.{NdbPair}
use Rattle.net_base.specs.Networks.{tuple_names}
use Rattle.net_base.specs.Search.{values_in}
use Rattle.net_base.specs.NdbText.{is_white, is_percent, is_zero, begins, begins_with, is_empty, lines_of, Word, words_of, starts_tuple, goes_on, tuples_of}

-- Files.

-- what stands behind `%file ` on a line
abbrev pub bundle_file : List ℕ → List ℕ
bundle_file line = drop 6 line

-- `%file NAME` begins a file: one blank, and one word without white space
abbrev pub is_file_line : List ℕ → Bool
is_file_line line = begins_with (codes "%file ") line && (not (is_empty (bundle_file line)) && not (list_any is_white (bundle_file line)))

-- a file of a bundle, with its tuples
pub record File : Type 0 where
  pub name : List ℕ
  pub tuples : List (List (List NdbPair))

-- the name of the file that stands before the first `%file NAME` line
abbrev pub unnamed_file : List ℕ
unnamed_file = codes "/lib/ndb/local"

-- the file with this name that begins these lines: it goes on to the next `%file NAME` line
abbrev pub file_of : List ℕ → List (List ℕ) → File
file_of name lines = record { name = name; tuples = tuples_of (before_first is_file_line lines) }

-- the file that stands before the first `%file NAME` line
abbrev pub local_file : List (List ℕ) → File
local_file lines = file_of unnamed_file lines

-- the files that `%file NAME` lines begin
abbrev pub named_files : List (List ℕ) → List File
named_files [] = []
named_files (line ∷ lines) =
    if is_file_line line then file_of (bundle_file line) lines ∷ named_files lines else named_files lines

-- Bad lines.

-- whether a file whose lines so far are the last of these has a tuple
abbrev pub has_tuple : List (List ℕ) → Bool
has_tuple before = list_any starts_tuple (after_last is_file_line before)

-- a word begins with `=`
abbrev pub is_nameless : Word → Bool
is_nameless word = is_empty word.attr

-- the number of a cause that holds
abbrev pub cause : ℕ → Bool → List ℕ
cause number holds = if holds then number ∷ [] else []

-- the causes for which a line is bad whose file has a tuple before it or has none, in rising order: it goes on with no tuple, a
-- quote isn't closed on it, a word begins with `=`, something follows a closing quote, it has a zero byte, it begins with `%` and
-- isn't `%file NAME`
abbrev pub causes_of : Bool → List ℕ → List ℕ
causes_of has line =
    cause 1 (goes_on line && not has)
    ++ (cause 2 (list_any (λ word. word.unclosed) (words_of line))
    ++ (cause 3 (list_any is_nameless (words_of line))
    ++ (cause 4 (list_any (λ word. word.followed) (words_of line))
    ++ (cause 5 (list_any is_zero line)
    ++ cause 6 (begins is_percent line && not (is_file_line line))))))

-- the least of causes in rising order
abbrev pub least_of_causes : List ℕ → Option ℕ
least_of_causes [] = None
least_of_causes (c ∷ causes) = Some c

-- the line with this number, where it has a least cause, else what is told of the lines behind it
abbrev pub told_line : ℕ → Option ℕ → Option (ℕ × ℕ) → Option (ℕ × ℕ)
told_line number None behind = behind
told_line number (Some c) behind = Some (number, c)

-- the first line with a cause, by its number from 1, and its least cause, among the lines that come after these
abbrev pub first_bad : (Bool → List ℕ → List ℕ) → List (List ℕ) → List (List ℕ) → Option (ℕ × ℕ)
first_bad causes before [] = None
first_bad causes before (line ∷ lines) =
    told_line (length before + 1) (least_of_causes (causes (has_tuple before) line)) (first_bad causes (before ++ line ∷ []) lines)

-- the first bad line of a text and its least cause
abbrev pub bad_line : List ℕ → Option (ℕ × ℕ)
bad_line text = first_bad causes_of [] (lines_of text)

-- The choice of files.

-- each text once, where it stands first
abbrev pub each_once : List (List ℕ) → List (List ℕ)
each_once [] = []
each_once (text ∷ texts) = text ∷ filter (λ other. not (bytes_eq other text)) (each_once texts)

-- the tuples of all files with this name, in order
abbrev pub tuples_named : List File → List ℕ → List (List (List NdbPair))
tuples_named files name = flat_map (λ file. file.tuples) (filter (λ file. bytes_eq file.name name) files)

-- the tuples of the files with these names, or of the first file alone where no name is given
abbrev pub tuples_chosen : File → List File → List (List ℕ) → List (List (List NdbPair))
tuples_chosen local files [] = local.tuples
tuples_chosen local files (name ∷ names) = flat_map (tuples_named (local ∷ files)) (name ∷ names)

-- the names that a tuple gives by its `file` values, each once; no tuple gives none
abbrev pub names_of : Option (List (List NdbPair)) → List (List ℕ)
names_of None = []
names_of (Some tuple) = each_once (values_in (codes "file") tuple)

-- the tuple that chooses: the first with the attribute `database`
abbrev pub choosing : List (List (List NdbPair)) → Option (List (List NdbPair))
choosing tuples = find (tuple_names (codes "database")) tuples

-- the tuples that the first file chooses
abbrev pub chosen : File → List File → List (List (List NdbPair))
chosen local files = tuples_chosen local files (names_of (choosing local.tuples))

-- the tuples of the database that a bundle's lines are
abbrev pub database : List (List ℕ) → List (List (List NdbPair))
database lines = chosen (local_file lines) (named_files lines)

-- what a text reads as: the tuples of its database, where no line is bad
abbrev pub reading : List ℕ → Option (List (List (List NdbPair)))
reading text = if is_none (bad_line text) then Some (database (lines_of text)) else None
