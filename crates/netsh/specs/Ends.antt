-- How a call of the program ends: its status, what it took from the source and what the sink gained.
use Rattle.std.specs.Prelude.{◌≡◌, ℕ, ◌⊎◌, Bool, true, false, List, Option, Some, None, Result, ⊤}
use Rattle.std.specs.Io.KnownBytes.{IsAtEnd}
use Rattle.net_base.specs.declared.history.Entry.{Entry}
use Rattle.net_base.specs.declared.world.World.{World}
use Rattle.net_model.specs.Answers.{Answer}
use Rattle.net_base.specs.Calm as calm
use Rattle.net_base.specs.Legal.{IsLegal, IsTimed}
use Rattle.net_base.specs.Net.{Net, after}
use Rattle.net_model.specs.Words.{Command, Cs, Query, Dns, Run, Make, Big, Check, reads_input, words_read, words_wait, Export, Translate}
use Rattle.outside.specs.Streams.{Rose}
use Rattle.outside.specs.declared.fault.TakeError.{TakeError}
use Rattle.netsh.specs.Built.{IsFirstBad, IsWorldOf, asking}
use Rattle.netcheck.specs.Input.{Handed}
use Rattle.netsh.specs.Checked.{BreaksOne, KeepsAll}
use Rattle.net_model.specs.Asking as asks
use Rattle.net_model.specs.Calls.{Intake, IsInput, Output}
use Rattle.net_model.specs.Ends as calls
use Rattle.net_model.specs.Ends.{TookAll}

-- what became of a command and its input before anything was written
abbrev pub IsAnswered : Command → Intake → Result Answer TakeError → Type 0
IsAnswered asked intake became = calls.IsAnswered asking asked intake became

-- how a call with a command, or with words in no row, may end
abbrev pub Ends : Option Command → ℕ → Intake → Output → Type 0
Ends command status intake output = calls.Ends asking command status intake output

-- the most reads of a source by words
abbrev pub most_reads : Option Command → ℕ
most_reads command = asks.most_reads asking command

-- the status is that of an answer to an input which was read
abbrev pub IsStatusOf : Option Command → ℕ → Intake → Type 0
IsStatusOf command status intake = calls.IsStatusOf asking command status intake

-- a run over the world of the command and its input, which was read to its end, where it has one, left the net so
pub record HasRun (command : Option Command) (so : World → Net → Bool) (intake : Intake) : Type 0 where
  pub asked : Command
  pub input : List ℕ
  pub world : World
  pub history : List Entry
  pub is_asked : command ≡ Some asked
  pub took : TookAll (reads_input asked) intake input
  pub is_world : IsWorldOf asked input world
  pub legal : IsLegal world history
  pub timed : IsTimed world history
  pub right : so world (after world history) ≡ true

-- so judges check what the input, which was read to its end, handed in
pub record HasChecked (command : Option Command) (So : World → List Entry → Option (List ℕ) → Type 0) (intake : Intake) : Type 0 where
  pub input : List ℕ
  pub is_asked : command ≡ Some Check
  pub took : IsInput intake.left input × IsAtEnd intake.rest
  pub handed : Handed input
  pub right : So handed.world handed.history handed.told

-- check was asked, and without a fault handed an input of which no line is bad
abbrev pub IsHanded : Option Command → Intake → Output → List ℕ → Type 0
IsHanded command intake output input = calls.IsHanded asking command Check intake output input

-- how a command ends whose answer is written and whose input, where it has one, has no bad line: cs, query and dns have lines or none,
-- a run is done, stopped or limited, `make` and `translate` have their text, and what check is handed keeps all rules or breaks one
abbrev pub EndsWell : Command → ℕ → Type 0
EndsWell (Cs sys query) status = (status ≡ 0) ⊎ (status ≡ 5)
EndsWell (Query attr value other) status = (status ≡ 0) ⊎ (status ≡ 5)
EndsWell (Dns word) status = (status ≡ 0) ⊎ (status ≡ 5)
EndsWell (Run workers) status = (status ≡ 0) ⊎ (status ≡ 3) ⊎ (status ≡ 4)
EndsWell (Make messages) status = status ≡ 0
EndsWell (Big messages) status = (status ≡ 0) ⊎ (status ≡ 3) ⊎ (status ≡ 4)
EndsWell Check status = (status ≡ 0) ⊎ (status ≡ 5)
EndsWell (Export workers) status = (status ≡ 0) ⊎ (status ≡ 3) ⊎ (status ≡ 4)
EndsWell Translate status = status ≡ 0

-- how else it may end: with a bad line or a fault of the source, where it has an input, with a fault of the sink, or without memory
abbrev pub EndsIll : Bool → ℕ → Type 0
EndsIll true status = (status ≡ 2) ⊎ (status ≡ 6) ⊎ (status ≡ 7) ⊎ (status ≡ 8)
EndsIll false status = (status ≡ 7) ⊎ (status ≡ 8)

-- the source told what it had left, where the command has an input, and no line of that is bad
abbrev pub HasGood : Bool → Command → Intake → Type 0
HasGood true asked intake = (input : List ℕ) × (intake.left ≡ Some input) × IsFirstBad asked input None
HasGood false asked intake = ⊤

-- when each status comes, and what it leaves
pub record Causes (command : Option Command) (status : ℕ) (intake : Intake) (output : Output) : Type 0 where
  -- the usage, bad lines, faults and memory as of any program
  pub called : calls.Causes asking command status intake output
  -- the input and the words alone give 0 and 5
  pub done : status ≡ 0 → IsStatusOf command 0 intake
  pub refused : status ≡ 5 → IsStatusOf command 5 intake
  -- a history of its world ends so where a run gives 0, 3 and 4, and no other command gives 3 and 4
  pub run_done : words_wait command ≡ true → status ≡ 0 → HasRun command calm.done intake
  pub stopped : status ≡ 3 → HasRun command calm.stopped intake
  pub limited : status ≡ 4 → HasRun command calm.limited intake
  -- of check 0 comes only where all rules hold of what was handed in, and 5 only where one is broken
  pub check_kept : command ≡ Some Check → status ≡ 0 → HasChecked command KeepsAll intake
  pub check_broken : command ≡ Some Check → status ≡ 5 → HasChecked command BreaksOne intake
  -- each command has its own statuses, whatever fails
  pub each : (asked : Command) → command ≡ Some asked → EndsWell asked status ⊎ EndsIll (reads_input asked) status
  -- the answer was made from the whole input, where the command has one
  pub end : words_read command ≡ true → (status ≡ 0) ⊎ (status ≡ 3) ⊎ (status ≡ 4) ⊎ (status ≡ 5) → IsAtEnd intake.rest
  -- without a fault each command ends well where its input, if it has one, is good
  pub well : ¬ Rose intake.before intake.after → ¬ Rose output.before output.after → (asked : Command) → command ≡ Some asked
      → HasGood (reads_input asked) asked intake → EndsWell asked status ⊎ (status ≡ 8)
  -- of check 0 comes wherever all rules hold, and 5 wherever one is broken
  pub keeps : (input : List ℕ) → IsHanded command intake output input → (handed : Handed input) → KeepsAll handed.world handed.history handed.told
      → (status ≡ 0) ⊎ (status ≡ 8)
  pub breaks : (input : List ℕ) → IsHanded command intake output input → (handed : Handed input) → BreaksOne handed.world handed.history handed.told
      → (status ≡ 5) ⊎ (status ≡ 8)
