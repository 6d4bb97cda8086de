-- How a call of a program ends: its status, what it took from the source and what the sink gained.
--     IsAnswered    what became of a command and its input before anything was written
--     IsTold        how that is told
--     Ends          how a call may end
--     Causes        when each status comes that isn't of a command's own, and what it leaves
use Rattle.std.specs.Prelude.{◌≡◌, ◌≢◌, ℕ, ◌<◌, ◌⊎◌, Bool, true, false, List, length, Option, Some, None, Result, Ok, Err}
use Rattle.std.specs.Io.KnownBytes.{IsAtEnd}
use Rattle.net_model.specs.Answers.{Answer, bad_input, usage, read_fault}
use Rattle.outside.specs.Streams.{Rose}
use Rattle.outside.specs.declared.fault.TakeError.{TakeError}
use Rattle.outside.specs.declared.fault.TakeError.TheVariants as error
use Rattle.net_model.specs.Asking.{Asking, IsAnswer, IsFirstBad, words_asked}
use Rattle.net_model.specs.Calls.{Intake, IsInput, IsUnread, IsUnwritten, Output, Told}

-- the input was read to its end, or is over the limit of the command
abbrev pub IsInputRead : {C : Type 0} → Asking C → C → Intake → List ℕ → Type 0
IsInputRead asking asked intake input = IsInput intake.left input × (IsAtEnd intake.rest ⊎ (asking.limit asked < length input))

-- what a command took: its input where it has one, or else nothing
abbrev pub Took : {C : Type 0} → Asking C → Bool → C → Intake → List ℕ → Type 0
Took asking true asked intake input = IsInputRead asking asked intake input
Took asking false asked intake input = IsUnread intake

-- what a command took that read its input to the end
abbrev pub TookAll : Bool → Intake → List ℕ → Type 0
TookAll true intake input = IsInput intake.left input × IsAtEnd intake.rest
TookAll false intake input = IsUnread intake

-- there was no fault of the source, and a command without an input took nothing
abbrev pub TookSome : Bool → Intake → Type 0
TookSome true intake = intake.after ≡ intake.before
TookSome false intake = IsUnread intake

-- the answer is one to an input, where the command has one, which was read without a fault
pub record Answers {C : Type 0} (asking : Asking C) (asked : C) (answer : Answer) (intake : Intake) : Type 0 where
  pub input : List ℕ
  pub read : Took asking (asking.reads asked) asked intake input
  pub same : intake.after ≡ intake.before
  pub right : IsAnswer asking asked input answer

-- what became of a command and its input before anything was written: an answer to the input, or why there is none; an input
-- over the limit is answered as a bad one
abbrev pub IsAnswered : {C : Type 0} → Asking C → C → Intake → Result Answer TakeError → Type 0
IsAnswered asking asked intake (Ok answer) = Answers asking asked answer intake
IsAnswered asking asked intake (Err error.TooLarge) = Answers asking asked (bad_input 0 9) intake
IsAnswered asking asked intake (Err error.Failed) = (asking.reads asked ≡ true) × Rose intake.before intake.after
IsAnswered asking asked intake (Err error.Memory) = TookSome (asking.reads asked) intake

-- so it is told; without memory nothing is written
abbrev pub IsTold : Result Answer TakeError → ℕ → Output → Type 0
IsTold (Ok answer) status output = Told answer status output
IsTold (Err error.TooLarge) status output = Told (bad_input 0 9) status output
IsTold (Err error.Failed) status output = Told read_fault status output
IsTold (Err error.Memory) status output = (status ≡ 8) × IsUnwritten output

-- how a call with a command, or with words in no row, may end: with the usage, and nothing was read; with an answer to the
-- input, if there is one; with a fault of the source; or without memory, and then there was no fault and nothing was written
pub data Ends {C : Type 0} (asking : Asking C) (command : Option C) (status : ℕ) (intake : Intake) (output : Output) : Type 0 where
  no_row : command ≡ None → IsUnread intake → Told usage status output → Ends asking command status intake output
  answered : (asked : C) (answer : Answer) → command ≡ Some asked → Answers asking asked answer intake → Told answer status output
      → Ends asking command status intake output
  unread : (asked : C) → command ≡ Some asked → asking.reads asked ≡ true → Rose intake.before intake.after → Told read_fault status output
      → Ends asking command status intake output
  no_memory : (asked : C) → command ≡ Some asked → status ≡ 8 → TookSome (asking.reads asked) intake → IsUnwritten output
      → Ends asking command status intake output

-- the status is that of an answer to an input which was read
pub record IsStatusOf {C : Type 0} (asking : Asking C) (command : Option C) (status : ℕ) (intake : Intake) : Type 0 where
  pub asked : C
  pub answer : Answer
  pub is_asked : command ≡ Some asked
  pub answers : Answers asking asked answer intake
  pub right : status ≡ answer.status

-- the input, which was read, has a bad line or is over the limit
pub record IsBad {C : Type 0} (asking : Asking C) (command : Option C) (intake : Intake) : Type 0 where
  pub asked : C
  pub input : List ℕ
  pub bad : ℕ × ℕ
  pub is_asked : command ≡ Some asked
  pub read : IsInputRead asking asked intake input
  pub is_bad : IsFirstBad asking asked input (Some bad)

-- the command was asked, there was no fault, and the source told what it had left: an input of which no line is bad
pub record IsHanded {C : Type 0} (asking : Asking C) (command : Option C) (asked : C) (intake : Intake) (output : Output) (input : List ℕ) : Type 0 where
  pub is_asked : command ≡ Some asked
  pub no_read_fault : ¬ Rose intake.before intake.after
  pub no_write_fault : ¬ Rose output.before output.after
  pub left : intake.left ≡ Some input
  pub good : IsFirstBad asking asked input None

-- when each status comes that isn't of a command's own, and what it leaves
pub record Causes {C : Type 0} (asking : Asking C) (command : Option C) (status : ℕ) (intake : Intake) (output : Output) : Type 0 where
  -- the words are in no row where the status is 1, and only then is it 1, a fault of the sink aside
  pub usage_only : status ≡ 1 → command ≡ None
  pub no_row : command ≡ None → (status ≡ 1) ⊎ (status ≡ 7)
  pub bad_input : status ≡ 2 → IsBad asking command intake
  -- nothing is read for words in no row, nor for a command without an input
  pub reads_nothing : words_asked asking command ≡ false → IsUnread intake
  -- the faults and the memory
  pub read_fault : status ≡ 6 → (words_asked asking command ≡ true) × Rose intake.before intake.after
  pub write_fault : status ≡ 7 → Rose output.before output.after
  pub memory : status ≡ 8 → (intake.after ≡ intake.before) × IsUnwritten output
  -- and no fault is told as anything else: one of the source is 6, or 7 where that can't be written
  pub read_faults : intake.after ≢ intake.before → (status ≡ 6) ⊎ (status ≡ 7)
  pub write_faults : output.after ≢ output.before → status ≡ 7
  -- any other status is an answer's
  pub answered : status ≢ 1 → status ≢ 6 → status ≢ 7 → status ≢ 8 → IsStatusOf asking command status intake
  -- without a fault, words in a row have an answer's status, or memory ran out
  pub complete : ¬ Rose intake.before intake.after → ¬ Rose output.before output.after → command ≢ None → (status ≡ 8) ⊎ IsStatusOf asking command status intake
  -- and where the source told what it had left, a bad input is told of
  pub tells_bad : ¬ Rose intake.before intake.after → ¬ Rose output.before output.after → (asked : C) (input : List ℕ) (bad : ℕ × ℕ)
      → command ≡ Some asked → intake.left ≡ Some input → IsFirstBad asking asked input (Some bad) → (status ≡ 2) ⊎ (status ≡ 8)
