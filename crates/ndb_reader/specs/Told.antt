-- What the reader has of a line's words, and what it tells of a bad line.
use Rattle.std.specs.Prelude.{◌≡◌, ℕ, Bool, ◌||◌, List, drop, not, Option, Some, ⊤}
use Rattle.std.specs.List.{list_any}
use Rattle.net_base.specs.NdbText as text
use Rattle.net_base.specs.NdbBundle as bundle
use Rattle.ndb_reader.specs.declared.fault.NdbError.{NdbError}
use Rattle.ndb_reader.specs.declared.fault.NdbError.TheVariants.{Memory, Bad}
use Rattle.ndb_reader.specs.declared.words.Word.{Word}
use Rattle.ndb_reader.specs.declared.words.Words.{Words}

-- an error tells the bad line and its cause, or nothing where memory ran out
abbrev pub Tells : NdbError → Option (ℕ × ℕ) → Type 0
Tells Memory bad = ⊤
Tells (Bad line cause) bad = bad ≡ Some (line, cause)

-- a word or its attribute ends before this byte
abbrev pub is_break : ℕ → Bool
is_break byte = text.is_equals byte || text.is_white byte

-- the word at the front of these bytes is this one, and the rest stands behind it
pub record IsWordRead (read : Word) (bytes : List ℕ) (word : text.Word) : Type 0 where
  pub attr : read.attr.now ≡ word.attr
  pub value : read.value.now ≡ word.value
  pub rest : read.rest.now ≡ drop word.takes bytes
  pub unclosed : read.unclosed ≡ word.unclosed
  pub followed : read.followed ≡ word.followed

-- what is kept of these words; their pairs are kept elsewhere
pub record AreWords (kept : Words) (words : List text.Word) : Type 0 where
  pub some : kept.some ≡ not (text.is_empty words)
  pub nameless : kept.nameless ≡ list_any bundle.is_nameless words
  pub unclosed : kept.unclosed ≡ list_any (λ (word : text.Word). word.unclosed) words
  pub followed : kept.followed ≡ list_any (λ (word : text.Word). word.followed) words
