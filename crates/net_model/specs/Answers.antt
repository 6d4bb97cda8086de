-- The answers of the program: the status that it ends with and the text that it writes.
use Rattle.std.specs.Prelude.{ℕ, ◌==◌, List, [], ◌∷◌, ◌++◌, flat_map, if◌then◌else◌, codes, decimal}
use Rattle.net_base.specs.Cs.{CsAnswer, Lines, Refused}
use Rattle.net_model.specs.Words.{Command, Check}

-- a status and a text
pub record Answer : Type 0 where
  pub status : ℕ
  pub text : List ℕ

-- a newline
abbrev pub newline_text : List ℕ
newline_text = 10 ∷ []

-- a line of a text
abbrev pub ended : List ℕ → List ℕ
ended line = line ++ newline_text

-- the words give no command
abbrev pub usage : Answer
usage = record { status = 1; text = ended (codes "! usage") }

-- the input has a bad line: the first one, or 0 where the input is too long, and its least cause
abbrev pub bad_input : ℕ → ℕ → Answer
bad_input line cause = record {
  status = 2;
  text = ended (codes "! line " ++ decimal line ++ codes " cause " ++ decimal cause);
}

-- the text of a refusal of cs
abbrev pub refusal_text : ℕ → List ℕ
refusal_text number =
    if number == 1
    then codes "bad query"
    else (if number == 2
    then codes "no net"
    else (if number == 3
    then codes "no host"
    else (if number == 4
    then codes "no service"
    else codes "no value")))

-- the lines that were found, or that there are none
abbrev pub lines_answer : List (List ℕ) → Answer
lines_answer [] = record { status = 5; text = ended (codes "! no answer") }
lines_answer (line ∷ lines) = record { status = 0; text = flat_map ended (line ∷ lines) }

-- an answer of cs: its lines, or its refusal
abbrev pub cs_answer : CsAnswer → Answer
cs_answer (Lines lines) = record { status = 0; text = flat_map ended lines }
cs_answer (Refused number) = record {
  status = 5;
  text = ended (codes "! " ++ decimal number ++ codes " " ++ refusal_text number);
}

-- the input couldn't be read
abbrev pub read_fault : Answer
read_fault = record { status = 6; text = ended (codes "! read fault") }

-- all entries of a history, of which there are so many, keep the rules
abbrev pub all_kept : ℕ → Answer
all_kept entries = record { status = 0; text = ended (codes "ok " ++ decimal entries) }

-- a rule is broken: the first stamp that breaks one, and the number of the least one there
abbrev pub rule_broken : ℕ → ℕ → Answer
rule_broken stamp rule = record {
  status = 5;
  text = ended (codes "! stamp " ++ decimal stamp ++ codes " rule " ++ decimal rule);
}

-- the most bytes that an input may have: 64 MiB where it has a run's output in it, else 4 MiB
abbrev pub input_limit : Command → ℕ
input_limit Check = 67108864
input_limit _ = 4194304
