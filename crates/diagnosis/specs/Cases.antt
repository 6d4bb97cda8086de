-- Which case a status and an answer are.
use Rattle.std.specs.Prelude.{ℕ, ◌==◌, List, codes, Option, Some, None, if◌then◌else◌}
use Rattle.diagnosis.specs.declared.cases.Case.{Case}
use Rattle.diagnosis.specs.declared.cases.Case.TheVariants as case
use Rattle.diagnosis.specs.declared.told.Told.{Told}
use Rattle.diagnosis.specs.declared.told.Told.TheVariants as told

-- a bad input: line 0 says that it is too long
abbrev pub case_of_line : ℕ → ℕ → Case
case_of_line line cause = if line == 0 then case.TooLong else case.BadLine line cause

abbrev pub case_of_input : Option Told → Case
case_of_input (Some (told.BadLine line cause)) = case_of_line line cause
case_of_input _ = case.Nothing

-- an input without an answer
abbrev pub case_of_refusal : Option Told → Case
case_of_refusal (Some (told.BrokenRule stamp rule)) = case.BrokenRule stamp rule
case_of_refusal (Some told.NoAnswer) = case.NoAnswer
case_of_refusal (Some (told.Refused number)) = case.Refused number
case_of_refusal _ = case.Nothing

-- each status has one meaning, and 2 and 5 the meaning of what was written
abbrev pub case_of : ℕ → Option Told → Case
case_of status told =
    if status == 1
    then case.Usage
    else (if status == 2
    then case_of_input told
    else (if status == 3
    then case.Stopped
    else (if status == 4
    then case.Limited
    else (if status == 5
    then case_of_refusal told
    else (if status == 6
    then case.Unread
    else (if status == 7
    then case.Unwritten
    else (if status == 8
    then case.NoMemory
    else case.Nothing)))))))

-- what is said of a case of which nothing more is known
abbrev pub case_text : Case → List ℕ
case_text case.Stopped = codes "the run reached its end moment before every step was done"
case_text case.Limited = codes "a caller has 131072 entries, the most that it may have, and could go on"
case_text case.Unread = codes "standard input cannot be read"
case_text case.Unwritten = codes "the answer cannot be written whole"
case_text case.NoMemory = codes "out of memory"
case_text _ = codes "the status says what happened"
