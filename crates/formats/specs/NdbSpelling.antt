-- How the lines of a database's text spell their pairs, as a relation of bytes to pairs.
use Rattle.std.specs.Prelude.{◌≡◌, ◌<◌, ◌⊎◌, ℕ, Bool, true, false, List, [], ◌∷◌, ◌++◌, length, codes}
use Rattle.std.specs.List.{list_any}
use Rattle.net_base.specs.Ndb.{NdbPair}
use Rattle.net_base.specs.NdbText.{is_white, is_hash, is_percent, is_equals, is_quote, is_zero, begins}
use Rattle.net_base.specs.NdbBundle.{File, unnamed_file, chosen}

-- no byte passes the test
abbrev pub None_of : (ℕ → Bool) → List ℕ → Type 0
None_of test bytes = list_any test bytes ≡ false

-- an attribute is some bytes without white space and `=`, which don't begin with `#`
pub record IsAttr (attr : List ℕ) : Type 0 where
  pub some : 0 < length attr
  pub white : None_of is_white attr
  pub equals : None_of is_equals attr
  pub hash : begins is_hash attr ≡ false

-- the ways to spell a pair: its attribute alone, its value as it is, its value in double quotes
pub data PairWay : Type 0 where
  alone plain quoted : PairWay

-- the bytes of a pair, spelled in a way
abbrev pub spelled : PairWay → NdbPair → List ℕ
spelled alone pair = pair.attr
spelled plain pair = pair.attr ++ (61 ∷ pair.value)
spelled quoted pair = pair.attr ++ (61 ∷ 34 ∷ (pair.value ++ 34 ∷ []))

-- the values that may be spelled in a way: none; one without white space that doesn't begin with a quote; one without a quote
abbrev pub Suits : PairWay → List ℕ → Type 0
Suits alone value = value ≡ []
Suits plain value = None_of is_white value × (begins is_quote value ≡ false)
Suits quoted value = None_of is_quote value

-- a word ends at white space or at the end of its line
abbrev pub EndsWord : List ℕ → Type 0
EndsWord rest = (rest ≡ []) ⊎ (begins is_white rest ≡ true)

-- a pair that is spelled in front of the rest of a line
pub record IsPairWord (word : List ℕ) (pair : NdbPair) (rest : List ℕ) : Type 0 where
  pub way : PairWay
  pub bytes : word ≡ spelled way pair
  pub attr : IsAttr pair.attr
  pub value : Suits way pair.value
  pub ends : EndsWord rest

-- white space, each byte of it
abbrev pub IsWhite : List ℕ → Type 0
IsWhite [] = Unit {0}
IsWhite (b ∷ bytes) = (is_white b ≡ true) × IsWhite bytes

-- nothing, or a comment
abbrev pub IsComment : List ℕ → Type 0
IsComment rest = (rest ≡ []) ⊎ (begins is_hash rest ≡ true)

-- bytes of a line that read as these pairs: words with white space before each, and at the end white space and perhaps a comment
abbrev pub ReadsWords : List ℕ → List NdbPair → Type 0
ReadsWords line [] = (white rest : List ℕ) × (line ≡ white ++ rest) × IsWhite white × IsComment rest
ReadsWords line (pair ∷ pairs) =
    (white word rest : List ℕ) × (line ≡ white ++ (word ++ rest)) × IsWhite white × IsPairWord word pair rest × ReadsWords rest pairs

-- a line without a zero byte, which doesn't begin with `%`, reads as these pairs
pub record ReadsLine (line : List ℕ) (pairs : List NdbPair) : Type 0 where
  pub zero : None_of is_zero line
  pub percent : begins is_percent line ≡ false
  pub words : ReadsWords line pairs

-- lines that go on with a tuple by these lines of pairs, and then read as these tuples: a line without words is nothing; a line that
-- begins with white space goes on with the tuple; a line that begins without starts one
abbrev pub ReadsTuples : List (List ℕ) → List (List NdbPair) → List (List (List NdbPair)) → Type 0
ReadsTuples [] more tuples = (more ≡ []) × (tuples ≡ [])
ReadsTuples (line ∷ lines) more tuples =
    (ReadsLine line [] × ReadsTuples lines more tuples)
    ⊎ (((pair : NdbPair) × (pairs : List NdbPair) × (others : List (List NdbPair))
    × (more ≡ (pair ∷ pairs) ∷ others)
    × (begins is_white line ≡ true)
    × ReadsLine line (pair ∷ pairs)
    × ReadsTuples lines others tuples)
    ⊎ ((pair : NdbPair) × (pairs : List NdbPair) × (others : List (List NdbPair)) × (rest : List (List (List NdbPair)))
    × (more ≡ [])
    × (tuples ≡ ((pair ∷ pairs) ∷ others) ∷ rest)
    × (begins is_white line ≡ false)
    × ReadsLine line (pair ∷ pairs)
    × ReadsTuples lines others rest))

-- the lines of a file read as these tuples: no line goes on where there is no tuple
abbrev pub ReadsFile : List (List ℕ) → List (List (List NdbPair)) → Type 0
ReadsFile lines tuples = ReadsTuples lines [] tuples

-- a file's name is some bytes without white space and a zero byte
pub record IsFileName (name : List ℕ) : Type 0 where
  pub some : 0 < length name
  pub white : None_of is_white name
  pub zero : None_of is_zero name

-- lines that begin in this file and then have these ones, each behind a line `%file NAME`
abbrev pub ReadsFiles : List (List ℕ) → File → List File → Type 0
ReadsFiles lines file [] = ReadsFile lines file.tuples
ReadsFiles lines file (next ∷ files) =
    (front rest : List (List ℕ)) × (lines ≡ front ++ (codes "%file " ++ next.name) ∷ rest) × IsFileName next.name
    × ReadsFile front file.tuples × ReadsFiles rest next files

-- the lines of a bundle read as the tuples that its first file chooses
pub record ReadsBundle (lines : List (List ℕ)) (tuples : List (List (List NdbPair))) : Type 0 where
  pub local : File
  pub files : List File
  pub named : local.name ≡ unnamed_file
  pub read : ReadsFiles lines local files
  pub are_chosen : tuples ≡ chosen local files
