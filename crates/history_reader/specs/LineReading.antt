-- A printed history as it is read: line by line, with a summary behind the last entry or none.
use Rattle.std.specs.Prelude.{◌≡◌, ℕ, ◌+◌, ◌==◌, Bool, true, false, not, ◌&&◌, List, [], ◌∷◌, ◌++◌, length, nat_lt, Option, Some, None, codes, bytes_eq, if◌then◌else◌}
pub use Rattle.std.specs.Char.{is_ascii_digit}
pub use Rattle.std.specs.List.{list_all, join_with_byte}
use Rattle.std.specs.Option.{option_and_then}
use Rattle.net_base.specs.declared.history.Entry.{Entry}
pub use Rattle.net_base.specs.Addresses.{is_padded, number_in, parts_at}
use Rattle.history_reader.specs.declared.fault.LineError.{LineError}
use Rattle.history_reader.specs.declared.fault.LineError.TheVariants as error
use Rattle.history_reader.specs.EntryReading.{behind_word, entry_of}
use Rattle.history_reader.specs.Fields.{Words}

-- The lines of a summary.

-- a number of any length, without leading zeros
abbrev pub is_numeral : List ℕ → Bool
is_numeral word = (nat_lt 0 (length word) && not (is_padded word)) && list_all is_ascii_digit word

-- what stands behind a number
abbrev pub behind_number : Words → Option Words
behind_number [] = None
behind_number (word ∷ words) = if is_numeral word then Some words else None

abbrev pub is_end_word : List ℕ → Bool
is_end_word word =
    if bytes_eq word (codes "done")
    then true
    else (if bytes_eq word (codes "stopped") then true else (if bytes_eq word (codes "limit") then true else bytes_eq word (codes "unfinished")))

abbrev pub behind_end : Words → Option Words
behind_end [] = None
behind_end (word ∷ words) = if is_end_word word then Some words else None

abbrev pub steps_passed : Words → Option Words
steps_passed words =
    option_and_then behind_number (option_and_then (behind_word (codes "of")) (option_and_then behind_number (behind_word (codes "steps") words)))

abbrev pub both_passed : List ℕ → Words → Option Words
both_passed word words = option_and_then behind_number (option_and_then behind_number (behind_word word words))

abbrev pub end_passed : Words → Option Words
end_passed words = option_and_then behind_number (option_and_then behind_end (behind_word (codes "end") words))

-- no word is left
abbrev pub no_word_left : Option Words → Bool
no_word_left None = false
no_word_left (Some []) = true
no_word_left (Some (word ∷ words)) = false

abbrev pub line_words : List ℕ → Words
line_words line = parts_at 32 line

abbrev pub is_steps : List ℕ → Bool
is_steps line = no_word_left (steps_passed (line_words line))

abbrev pub are_both_words : List ℕ → List ℕ → Bool
are_both_words word line = no_word_left (both_passed word (line_words line))

abbrev pub is_end : List ℕ → Bool
is_end line = no_word_left (end_passed (line_words line))

-- Texts by their lines: the last part is what stands behind the last newline.

abbrev pub Parts : Type 0
Parts = List (List ℕ)

-- what stands behind the first line, where it passes
abbrev pub passed : (List ℕ → Bool) → Parts → Option Parts
passed test [] = None
passed test (last ∷ []) = None
passed test (line ∷ part ∷ parts) = if test line then Some (part ∷ parts) else None

-- what stands behind a line, if it is good, is looked at further
abbrev pub looks_further : ℕ → Option Parts → (Parts → Option ℕ) → Option ℕ
looks_further before None go = Some (before + 1)
looks_further before (Some rest) go = go rest

-- the first line of these that is bad, behind so many lines
abbrev pub fault_from : List (List ℕ → Bool) → ℕ → Parts → Option ℕ
fault_from [] before [] = Some (before + 1)
fault_from [] before ([] ∷ []) = None
fault_from [] before ((b ∷ part) ∷ []) = Some (before + 1)
fault_from [] before (part ∷ next ∷ parts) = Some (before + 1)
fault_from (test ∷ tests) before parts = looks_further before (passed test parts) (fault_from tests (before + 1))

abbrev pub summary_tests : List (List ℕ → Bool)
summary_tests = is_steps ∷ are_both_words (codes "messages") ∷ are_both_words (codes "bytes") ∷ is_end ∷ []

-- Lines of entries.

pub data EntryVerdict : Type 0 where
  Good : Entry → EntryVerdict
  Refused : ℕ → EntryVerdict

abbrev pub is_same : ℕ → Option ℕ → Bool
is_same n None = false
is_same n (Some m) = m == n

-- the word of a stamp
abbrev pub is_stamp : ℕ → List ℕ → Bool
is_stamp stamp word = is_same stamp (number_in 0 18446744073709551615 word)

-- why a line is bad by this word alone
abbrev pub stamp_cause : List ℕ → ℕ
stamp_cause word = if is_numeral word then 42 else 41

-- an entry by the word of its stamp, where the other words spell one
abbrev pub line_stamped : ℕ → List ℕ → Option Entry → EntryVerdict
line_stamped stamp word None = Refused 41
line_stamped stamp word (Some x) = if is_stamp stamp word then Good x else Refused (stamp_cause word)

abbrev pub words_verdict : ℕ → Words → EntryVerdict
words_verdict stamp [] = Refused 41
words_verdict stamp (word ∷ words) = line_stamped stamp word (entry_of words)

abbrev pub entry_verdict : ℕ → List ℕ → EntryVerdict
entry_verdict stamp line = words_verdict stamp (line_words line)

-- The whole text.

pub data Reading : Type 0 where
  Whole : List Entry → Option (List ℕ) → Reading
  Bad : ℕ → ℕ → Reading

-- behind so many entries: nothing, or a line without a newline
abbrev pub ending : ℕ → List ℕ → Reading
ending before [] = Whole [] None
ending before (b ∷ last) = Bad (before + 1) 41

-- a summary's text
abbrev pub line_summed : Parts → Option ℕ → Reading
line_summed parts None = Whole [] (Some (join_with_byte 10 parts))
line_summed parts (Some line) = Bad line 41

-- entries before these
abbrev pub onto : List Entry → Reading → Reading
onto before (Whole h summary) = Whole (before ++ h) summary
onto before (Bad line cause) = Bad line cause

abbrev pub history_judged : ℕ → EntryVerdict → Reading → Reading
history_judged stamp (Good x) rest = onto (x ∷ []) rest
history_judged stamp (Refused cause) rest = Bad (stamp + 1) cause

abbrev pub history_reading_from : ℕ → Parts → Reading
history_reading_from stamp [] = Bad (stamp + 1) 41
history_reading_from stamp (last ∷ []) = ending stamp last
history_reading_from stamp (line ∷ part ∷ parts) =
    if is_steps line
    then line_summed (line ∷ part ∷ parts) (fault_from summary_tests stamp (line ∷ part ∷ parts))
    else history_judged stamp (entry_verdict stamp line) (history_reading_from (stamp + 1) (part ∷ parts))

abbrev pub reading_line : List ℕ → Reading
reading_line bytes = history_reading_from 0 (parts_at 10 bytes)

-- What an answer tells.

-- a line that is refused
abbrev pub TellsVerdict : LineError → ℕ → EntryVerdict → Type 0
TellsVerdict error.Memory stamp v = Unit {0}
TellsVerdict (error.Bad line cause) stamp v = (line ≡ stamp + 1) × (v ≡ Refused cause)

-- a text that is refused
abbrev pub TellsReading : LineError → Reading → Type 0
TellsReading error.Memory r = Unit {0}
TellsReading (error.Bad line cause) r = r ≡ Bad line cause

abbrev pub TellsFault : LineError → Option ℕ → Type 0
TellsFault error.Memory r = ⊥
TellsFault (error.Bad line cause) r = (cause ≡ 41) × (r ≡ Some line)
