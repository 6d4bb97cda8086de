-- What a program says of its commands, and by that what answers a command and its input.
--     Asking        which commands have an input, which line of it is bad, and what is found in a good one
--     IsFirstBad    the first bad line of an input, for a command
--     IsAnswer      an answer to a command and its input
use Rattle.std.specs.Prelude.{◌≡◌, ◌&&◌, ℕ, Bool, true, false, List, length, nat_lt, Option, Some, None, ◌+◌, if◌then◌else◌}
use Rattle.net_model.specs.Answers.{Answer, bad_input}

pub record Asking (C : Type 0) : Type 1 where
  -- whether a command has an input, and the most bytes that this may have
  pub reads : C → Bool
  pub limit : C → ℕ
  -- the first bad line of an input within the limit, and its least cause, if a line is bad
  pub IsBadLine : C → List ℕ → Option (ℕ × ℕ) → Type 0
  -- an answer to an input without a bad line
  pub IsFound : C → List ℕ → Answer → Type 0

-- whether words have a command that has an input
abbrev pub words_asked : {C : Type 0} → Asking C → Option C → Bool
words_asked asking None = false
words_asked asking (Some asked) = asking.reads asked

-- the most reads of a source by words: none where they have no input, and else two more than its limit has bytes
abbrev pub most_reads : {C : Type 0} → Asking C → Option C → ℕ
most_reads asking None = 0
most_reads asking (Some asked) = if asking.reads asked then asking.limit asked + 2 else 0

-- whether a command has an input that is over its limit
abbrev pub is_input_over : {C : Type 0} → Asking C → C → List ℕ → Bool
is_input_over asking asked input = asking.reads asked && nat_lt (asking.limit asked) (length input)

-- the first bad line of any input: one over the limit has cause 9 at line 0
abbrev pub IsBadOf : {C : Type 0} → Asking C → Bool → C → List ℕ → Option (ℕ × ℕ) → Type 0
IsBadOf asking true asked input found = found ≡ Some (0, 9)
IsBadOf asking false asked input found = asking.IsBadLine asked input found

abbrev pub IsFirstBad : {C : Type 0} → Asking C → C → List ℕ → Option (ℕ × ℕ) → Type 0
IsFirstBad asking asked input found = IsBadOf asking (is_input_over asking asked input) asked input found

-- an answer to an input with this first bad line, if any
abbrev pub IsGiven : {C : Type 0} → Asking C → Option (ℕ × ℕ) → C → List ℕ → Answer → Type 0
IsGiven asking None asked input answer = asking.IsFound asked input answer
IsGiven asking (Some bad) asked input answer = answer ≡ bad_input bad.0 bad.1

pub record IsAnswer {C : Type 0} (asking : Asking C) (asked : C) (input : List ℕ) (answer : Answer) : Type 0 where
  pub found : Option (ℕ × ℕ)
  pub first : IsFirstBad asking asked input found
  -- and no other line is the first bad one
  pub only : (other : Option (ℕ × ℕ)) → IsFirstBad asking asked input other → other ≡ found
  pub given : IsGiven asking found asked input answer
