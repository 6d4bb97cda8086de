-- An input that has a world and a history of it.
--     parts_of              the input, cut at its first line `%history`
--     with_printed          the input of a world's text and what is printed of a run
--     IsBadHanded           its first bad line
--     Handed                the world, the history and the summary that it says
use Rattle.std.specs.Prelude.{◌≡◌, ℕ, ◌+◌, ◌++◌, Bool, List, length, map, find, bytes_eq, codes, Option, Some, None, Result, Ok, Err}
use Rattle.std.specs.List.{before_first}
use Rattle.net_base.specs.declared.history.Entry.{Entry}
use Rattle.net_base.specs.declared.world.World.{World}
use Rattle.history_reader.specs.Spelling as printed
use Rattle.world_text.specs.declared.line.LineCause.TheVariants as cause
use Rattle.world_text.specs.LineCauses.{cause_number_of}
use Rattle.world_text.specs.WorldSpelling.{laid}
use Rattle.world_text.specs.WorldText.{Cut, cuts_of, world_reading}

-- Two parts.

-- the line that stands between a world and a history
abbrev pub is_mark : List ℕ → Bool
is_mark line = bytes_eq line (codes "%history")

-- the first such line, with what stands behind it
abbrev pub mark_of : List ℕ → Option Cut
mark_of input = find (λ (cut : Cut). is_mark cut.line) (cuts_of input)

-- the lines before it
abbrev pub lines_before : List ℕ → List (List ℕ)
lines_before input = before_first is_mark (map (λ (cut : Cut). cut.line) (cuts_of input))

-- the text of the world, how many lines it has, and what stands behind the line between
pub record InputParts : Type 0 where
  pub world : List ℕ
  pub lines : ℕ
  pub history : List ℕ

abbrev pub input_parts : List (List ℕ) → Option Cut → Option InputParts
input_parts lines None = None
input_parts lines (Some mark) = Some (record { world = laid lines; lines = length lines; history = mark.behind })

-- both parts of an input, where a line of it is `%history`
abbrev pub parts_of : List ℕ → Option InputParts
parts_of input = input_parts (lines_before input) (mark_of input)

-- the text of a world, the line between, and what is printed of a run of it
abbrev pub with_printed : List ℕ → List ℕ → List ℕ
with_printed world printed = world ++ (codes "%history\n" ++ printed)

-- Bad lines.

-- the bad line of a text that isn't a world's
abbrev pub bad_world : Result World (ℕ × ℕ) → Option (ℕ × ℕ)
bad_world (Ok w) = None
bad_world (Err bad) = Some bad

-- the world's bad line is the first, or else one of what has to stand behind it
abbrev pub IsBadFrom : Option (ℕ × ℕ) → (Option (ℕ × ℕ) → Type 0) → Option (ℕ × ℕ) → Type 0
IsBadFrom (Some bad) IsBehind found = found ≡ Some bad
IsBadFrom None IsBehind found = IsBehind found

-- a printed history, behind so many lines, of which no line is bad, or this one
abbrev pub IsBadHistory : ℕ → List ℕ → Option (ℕ × ℕ) → Type 0
IsBadHistory lines text None = (h : List Entry) × (told : Option (List ℕ)) × printed.SpellsHistory text h told
IsBadHistory lines text (Some bad) = (line : ℕ) × (bad.0 ≡ lines + line) × printed.IsBadText text line bad.1

-- a world without a history lacks a part, at the line one past its last
abbrev pub no_history : List ℕ → ℕ × ℕ
no_history input = (length (cuts_of input) + 1, cause_number_of cause.MissingPart)

-- the first bad line of an input with these parts, or with no history; lines count over the whole input
abbrev pub IsBadHanded : Option InputParts → List ℕ → Option (ℕ × ℕ) → Type 0
IsBadHanded None input = IsBadFrom (bad_world (world_reading input)) (λ (found : Option (ℕ × ℕ)). found ≡ Some (no_history input))
IsBadHanded (Some parts) input = IsBadFrom (bad_world (world_reading parts.world)) (IsBadHistory (parts.lines + 1) parts.history)

-- What is handed in.

-- a world, a history and, where the input has one, a summary
pub record Handed (input : List ℕ) : Type 0 where
  pub parts : InputParts
  pub world : World
  pub history : List Entry
  pub told : Option (List ℕ)
  pub are_parts : parts_of input ≡ Some parts
  pub is_world : world_reading parts.world ≡ Ok world
  pub spelled : printed.SpellsHistory parts.history history told
