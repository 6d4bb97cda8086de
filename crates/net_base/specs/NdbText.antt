-- The text of a database, ndb(6): lines of words, which make tuples of lines of pairs.
use Rattle.std.specs.Prelude.{ℕ, zero, suc, ◌+◌, ◌-◌, ◌==◌, Bool, true, false, not, ◌&&◌, ◌||◌, List, [], ◌∷◌, map, length, take, drop, bytes_eq, if◌then◌else◌}
use Rattle.std.specs.List.{list_any, filter, slice_split, before_first, after_first, take_while}
use Rattle.net_base.specs.Ndb.{NdbPair}

-- Bytes.

-- white space is blank, tab and carriage return
abbrev pub is_white : ℕ → Bool
is_white b = b == 32 || (b == 9 || b == 13)

abbrev pub is_newline : ℕ → Bool
is_newline b = b == 10

abbrev pub is_hash : ℕ → Bool
is_hash b = b == 35

abbrev pub is_percent : ℕ → Bool
is_percent b = b == 37

abbrev pub is_equals : ℕ → Bool
is_equals b = b == 61

abbrev pub is_quote : ℕ → Bool
is_quote b = b == 34

abbrev pub is_zero : ℕ → Bool
is_zero b = b == 0

-- whether bytes begin with one that passes the test
abbrev pub begins : (ℕ → Bool) → List ℕ → Bool
begins test [] = false
begins test (b ∷ bytes) = test b

-- whether bytes begin with these
abbrev pub begins_with : List ℕ → List ℕ → Bool
begins_with text bytes = bytes_eq text (take (length text) bytes)

abbrev pub is_empty : {X : Type 0} → List X → Bool
is_empty [] = true
is_empty (x ∷ xs) = false

-- Lines.

-- the lines of a text: each ends with a newline, and what stands behind the last newline is a line too, perhaps an empty one
abbrev pub lines_of : List ℕ → List (List ℕ)
lines_of text = slice_split is_newline text

-- Words.

-- a word of a line: its attribute and value, how many bytes of the line it takes, whether its quote isn't closed on the line, and
-- whether something follows its closing quote
pub record Word : Type 0 where
  pub attr : List ℕ
  pub value : List ℕ
  pub takes : ℕ
  pub unclosed : Bool
  pub followed : Bool

-- the word that a run of bytes without white space is: what stands before its first `=` and what stands after it
abbrev pub plain_word : List ℕ → Word
plain_word run = record {
  attr = before_first is_equals run;
  value = after_first is_equals run;
  takes = length run;
  unclosed = false;
  followed = false;
}

-- the word whose value is quoted: what stands behind the opening quote goes on to the next quote, and then to white space
abbrev pub quoted_word : List ℕ → List ℕ → Word
quoted_word attr behind =
    if list_any is_quote behind
    then record {
      attr = attr;
      value = before_first is_quote behind;
      takes = length attr + 2 + length (before_first is_quote behind) + 1 + length (before_first is_white (after_first is_quote behind));
      unclosed = false;
      followed = not (is_empty (before_first is_white (after_first is_quote behind)));
    }
    else record { attr = attr; value = behind; takes = length attr + 2 + length behind; unclosed = true; followed = false }

-- the word that begins these bytes: it is quoted where its first `=` is followed by a quote
abbrev pub word_of : List ℕ → Word
word_of bytes =
    let run = before_first is_white bytes in
    if begins is_quote (after_first is_equals run)
    then quoted_word (before_first is_equals run) (drop (length (before_first is_equals run) + 2) bytes)
    else plain_word run

-- the words behind the first n bytes of a line, which white space parts, up to one that begins with `#`
abbrev pub words_behind : ℕ → List ℕ → List Word
words_behind n [] = []
words_behind (suc n) (b ∷ bytes) = words_behind n bytes
words_behind zero (b ∷ bytes) =
    elim (is_white b) [
      | true ↦ words_behind 0 bytes
      | false ↦ elim (is_hash b) [
        | true ↦ []
        | false ↦ word_of (b ∷ bytes) ∷ words_behind ((word_of (b ∷ bytes)).takes - 1) bytes
      ]
    ]

-- the words of a line; one that begins with `%` has none
abbrev pub words_of : List ℕ → List Word
words_of line = if begins is_percent line then [] else words_behind 0 line

-- the runs of bytes without white space, up to one that begins with `#`
abbrev pub runs_of : List ℕ → List (List ℕ)
runs_of line = take_while (λ run. not (begins is_hash run)) (filter (λ run. not (is_empty run)) (slice_split is_white line))

-- the words of a line, split as if no quote were on it
abbrev pub plain_words_of : List ℕ → List Word
plain_words_of line = if begins is_percent line then [] else map plain_word (runs_of line)

-- the attribute of a word with its value
abbrev pub word_pair : Word → NdbPair
word_pair word = record { attr = word.attr; value = word.value }

-- the pairs of a line, in order
abbrev pub pairs_of : List ℕ → List NdbPair
pairs_of line = map word_pair (words_of line)

-- Tuples.

-- a line with words that begins without white space starts a tuple
abbrev pub starts_tuple : List ℕ → Bool
starts_tuple line = not (is_empty (words_of line)) && not (begins is_white line)

-- a line with words that begins with white space goes on with the tuple
abbrev pub goes_on : List ℕ → Bool
goes_on line = not (is_empty (words_of line)) && begins is_white line

-- the lines that go on with a tuple before the next one starts
abbrev pub going_on : List (List ℕ) → List (List NdbPair)
going_on [] = []
going_on (line ∷ lines) =
    if starts_tuple line then [] else (if goes_on line then pairs_of line ∷ going_on lines else going_on lines)

-- the tuples of a file's lines, in order
abbrev pub tuples_of : List (List ℕ) → List (List (List NdbPair))
tuples_of [] = []
tuples_of (line ∷ lines) =
    if starts_tuple line then (pairs_of line ∷ going_on lines) ∷ tuples_of lines else tuples_of lines
