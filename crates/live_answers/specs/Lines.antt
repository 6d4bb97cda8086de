-- The lines of standard output, and what they say of the steps of a place.
use Rattle.std.specs.Prelude.{ℕ, ◌++◌, ◌==◌, List, [], ◌∷◌, Option, Some, None, if◌then◌else◌}
use Rattle.net_base.specs.declared.end.RunEnd.{RunEnd}
use Rattle.net_base.specs.declared.reply.Reply.{Reply}
use Rattle.live_lines.specs.declared.answer.AnswerHead.{AnswerHead}
use Rattle.live_lines.specs.declared.cause.LiveCause.{LiveCause}
use Rattle.live_lines.specs.AnswerLines.{answer_text}
use Rattle.live_lines.specs.OutputLines.{bad_line, end_text, places_line}

pub data Line : Type 0 where
  -- the first line, with the numbers of the places
  First : List ℕ → Line
  -- an invalid input line, by its number and its cause
  BadInput : ℕ → LiveCause → Line
  -- what became of a step, with the replies to its events
  Answer : AnswerHead → List Reply → Line
  -- the end of the run, and its moment
  Last : RunEnd → ℕ → Line

abbrev pub line_text : Line → List ℕ
line_text (First places) = places_line places
line_text (BadInput number c) = bad_line number c
line_text (Answer a rs) = answer_text a rs
line_text (Last e moment) = end_text e moment

abbrev pub lines_text : List Line → List ℕ
lines_text [] = []
lines_text (l ∷ ls) = line_text l ++ lines_text ls

-- the replies in a line about a step of place c
abbrev pub replies_of : Line → ℕ → List Reply
replies_of (Answer a rs) c = if a.place == c then rs else []
replies_of _ c = []

-- the replies in all lines about steps of place c, in their order
abbrev pub replies_in : List Line → ℕ → List Reply
replies_in [] c = []
replies_in (l ∷ ls) c = replies_of l c ++ replies_in ls c

-- the number of the step, if it was not removed
abbrev pub number_list : Option ℕ → List ℕ
number_list None = []
number_list (Some n) = n ∷ []

-- the number of the step in a line about a step of place c
abbrev pub numbers_of : Line → ℕ → List ℕ
numbers_of (Answer a rs) c = if a.place == c then number_list a.step else []
numbers_of _ c = []

-- the numbers in all lines about steps of place c, in their order
abbrev pub numbers_in : List Line → ℕ → List ℕ
numbers_in [] c = []
numbers_in (l ∷ ls) c = numbers_of l c ++ numbers_in ls c
