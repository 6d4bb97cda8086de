-- The steps of a script in words: one row a step, with its word, what stands behind it, and the step that they say.
use Rattle.std.specs.Prelude.{ℕ, ◌==◌, ⊤, Bool, true, false, not, ◌&&◌, ◌||◌, List, [], ◌∷◌, length, map, nat_le, nat_lt, codes, Option, None}
use Rattle.std.specs.List.{list_all}
use Rattle.net_base.specs.declared.names.Mode.{Mode}
use Rattle.net_base.specs.declared.names.Mode.TheVariants as mode
use Rattle.net_base.specs.declared.world.Step.{Step}
use Rattle.net_base.specs.declared.world.Step.TheVariants as step
use Rattle.net_base.specs.DatagramHeaders.{has_headers}
use Rattle.net_base.specs.Remotes.{is_remote_path}

infixr 50 ◌then◌
-- Words.

-- the number lies between two others, or is one of them
abbrev pub is_within : ℕ → ℕ → ℕ → Bool
is_within least most n = nat_le least n && nat_le n most

abbrev pub is_letter : ℕ → Bool
is_letter b = is_within 97 122 b

-- a lower-case letter, a digit or `-`
abbrev pub is_name_byte : ℕ → Bool
is_name_byte b = is_letter b || (is_within 48 57 b || (b == 45))

-- a name: 1 to 27 lower-case letters, digits and `-`, beginning with a letter
abbrev pub is_name : List ℕ → Bool
is_name [] = false
is_name (b ∷ bs) = is_letter b && (list_all is_name_byte bs && nat_lt (length bs) 27)

abbrev pub is_byte : ℕ → Bool
is_byte b = nat_lt b 256

-- it stands on one line
abbrev pub is_text : List ℕ → Bool
is_text text = list_all (λ b. is_byte b && not (b == 10)) text

-- it is a word: not empty, without blank and newline
abbrev pub is_word : List ℕ → Bool
is_word [] = false
is_word (b ∷ bs) = list_all (λ c. is_byte c && not ((c == 32) || (c == 10))) (b ∷ bs)

-- What stands behind the word of a step.

pub data WordKind : Type 0 where
  -- a name that the script gives
  AName : WordKind
  -- a path or an address
  AWord : WordKind
  -- a path of a remote file
  ARemotePath : WordKind
  -- a number from the one bound to the other
  ANumber : ℕ → ℕ → WordKind
  AMode : WordKind
  -- a mode or nothing, at the end of the line
  PerhapsMode : WordKind
  -- bytes in hexadecimal
  HexBytes : WordKind
  -- the headers of a datagram and its text, in hexadecimal
  ADatagram : WordKind
  -- the rest of the line
  TheRest : WordKind
  -- the rest of the line, from so many bytes to so many
  TheRestOf : ℕ → ℕ → WordKind

-- what a word of a kind says
abbrev pub Value : WordKind → Type 0
Value AMode = Mode
Value PerhapsMode = Option Mode
Value (ANumber least most) = ℕ
Value _ = List ℕ

-- whether a value is one that such a word says
abbrev pub value_fits : (k : WordKind) → Value k → Bool
value_fits AName called = is_name called
value_fits AWord word = is_word word
value_fits ARemotePath path = is_word path && is_remote_path path
value_fits (ANumber least most) n = is_within least most n
value_fits AMode m = true
value_fits PerhapsMode m = true
value_fits HexBytes bytes = list_all is_byte bytes
value_fits ADatagram bytes = list_all is_byte bytes && has_headers bytes
value_fits TheRest text = is_text text
value_fits (TheRestOf least most) text = is_text text && is_within least most (length text)

-- a value with those behind it
pub record Behind (A B : Type 0) : Type 0 where
  pub first : A
  pub rest : B

abbrev pub ◌then◌ : {A B : Type 0} → A → B → Behind A B
a then b = record { first = a; rest = b }

-- a value for each word
abbrev pub ValuesOf : List WordKind → Type 0
ValuesOf [] = ⊤
ValuesOf (k ∷ ks) = Behind (Value k) (ValuesOf ks)

abbrev pub values_fit : (ks : List WordKind) → ValuesOf ks → Bool
values_fit [] values = true
values_fit (k ∷ []) values = value_fits k values.first
values_fit (k ∷ l ∷ ks) values = value_fits k values.first && values_fit (l ∷ ks) values.rest

-- The table.

-- a step of such values
abbrev pub StepMaker : List WordKind → Type 0
StepMaker [] = Step
StepMaker (k ∷ ks) = Value k → StepMaker ks

pub record StepRow : Type 0 where
  pub word : List ℕ
  pub kinds : List WordKind
  pub make : StepMaker kinds

-- what is told of a step in words: of its word, what stands behind it, how these make it, and what they say
abbrev pub told_in_words : {A : Type 0} → ((word : List ℕ) (ks : List WordKind) → StepMaker ks → ValuesOf ks → A) → Step → A
told_in_words tell (step.Open name path mode) = tell (codes "open") (AName ∷ AWord ∷ PerhapsMode ∷ []) step.Open (name then path then mode then tt)
told_in_words tell (step.Read name count) = tell (codes "read") (AName ∷ ANumber 1 65536 ∷ []) step.Read (name then count then tt)
told_in_words tell (step.Write name text) = tell (codes "write") (AName ∷ TheRest ∷ []) step.Write (name then text then tt)
told_in_words tell (step.Writex name text) = tell (codes "writex") (AName ∷ HexBytes ∷ []) step.Writex (name then text then tt)
told_in_words tell (step.Close name) = tell (codes "close") (AName ∷ []) step.Close (name then tt)
told_in_words tell (step.Ls path) = tell (codes "ls") (AWord ∷ []) step.Ls (path then tt)
told_in_words tell (step.Cs query) = tell (codes "cs") (TheRest ∷ []) step.Cs (query then tt)
told_in_words tell (step.Until moment) = tell (codes "until") (ANumber 1 1000000000 ∷ []) step.Until (moment then tt)
told_in_words tell step.Refresh = tell (codes "refresh") [] step.Refresh tt
told_in_words tell (step.Dial name address) = tell (codes "dial") (AName ∷ AWord ∷ []) step.Dial (name then address then tt)
told_in_words tell (step.Announce name address) = tell (codes "announce") (AName ∷ AWord ∷ []) step.Announce (name then address then tt)
told_in_words tell (step.Listen name from) = tell (codes "listen") (AName ∷ AName ∷ []) step.Listen (name then from then tt)
told_in_words tell (step.Accept name from) = tell (codes "accept") (AName ∷ AName ∷ []) step.Accept (name then from then tt)
told_in_words tell (step.Reject name) = tell (codes "reject") (AName ∷ []) step.Reject (name then tt)
told_in_words tell (step.Hangup name) = tell (codes "hangup") (AName ∷ []) step.Hangup (name then tt)
told_in_words tell (step.Hread name count) = tell (codes "hread") (AName ∷ ANumber 1 65536 ∷ []) step.Hread (name then count then tt)
told_in_words tell (step.Hwrite name bytes) = tell (codes "hwrite") (AName ∷ ADatagram ∷ []) step.Hwrite (name then bytes then tt)
told_in_words tell (step.Dns name times) = tell (codes "dns") (AName ∷ ANumber 1 1000 ∷ []) step.Dns (name then times then tt)
-- imports
told_in_words tell (step.Export name) = tell (codes "export") (AName ∷ []) step.Export (name then tt)
told_in_words tell (step.Import name) = tell (codes "import") (AName ∷ []) step.Import (name then tt)
told_in_words tell (step.Ropen name call path mode) =
    tell (codes "ropen") (AName ∷ AName ∷ ARemotePath ∷ AMode ∷ []) step.Ropen (name then call then path then mode then tt)
told_in_words tell (step.Rread name count) = tell (codes "rread") (AName ∷ ANumber 1 488 ∷ []) step.Rread (name then count then tt)
told_in_words tell (step.Rwrite name text) = tell (codes "rwrite") (AName ∷ TheRestOf 1 488 ∷ []) step.Rwrite (name then text then tt)
told_in_words tell (step.Rclose name) = tell (codes "rclose") (AName ∷ []) step.Rclose (name then tt)

-- the words of a step are of its row
abbrev pub is_step : Step → Bool
is_step s = told_in_words (λ word ks make values. values_fit ks values) s

-- a step in words: its row, and what its words say
pub record Worded : Type 0 where
  pub row : StepRow
  pub values : ValuesOf row.kinds

abbrev pub in_words : List ℕ → (ks : List WordKind) → StepMaker ks → ValuesOf ks → Worded
in_words word ks make values = record { row = record { word = word; kinds = ks; make = make }; values = values }

abbrev pub worded : Step → Worded
worded s = told_in_words in_words s

abbrev pub step_row : Step → StepRow
step_row s = (worded s).row

-- A step of each word, to read its row off, whatever it says.

-- exports and imports
abbrev pub import_samples : List Step
import_samples = step.Export [] ∷ step.Import [] ∷ step.Ropen [] [] [] mode.Read ∷ step.Rread [] 0 ∷ step.Rwrite [] [] ∷ step.Rclose [] ∷ []

-- calls of datagrams, and those
abbrev pub datagram_samples : List Step
datagram_samples = step.Hread [] 0 ∷ step.Hwrite [] [] ∷ step.Dns [] 0 ∷ import_samples

-- time and calls, and those
abbrev pub call_samples : List Step
call_samples =
    step.Until 0 ∷ step.Refresh ∷ step.Dial [] [] ∷ step.Announce [] [] ∷ step.Listen [] [] ∷ step.Accept [] []
    ∷ step.Reject [] ∷ step.Hangup [] ∷ datagram_samples

-- files, and all others
abbrev pub sample_steps : List Step
sample_steps =
    step.Open [] [] None ∷ step.Read [] 0 ∷ step.Write [] [] ∷ step.Writex [] [] ∷ step.Close [] ∷ step.Ls [] ∷ step.Cs [] ∷ call_samples

abbrev pub step_rows : List StepRow
step_rows = map step_row sample_steps
