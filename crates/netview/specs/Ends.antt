-- How a call of the program ends, and what each status says.
use Rattle.std.specs.Prelude.{◌≡◌, ℕ, ◌⊎◌, List, Option, Some, None, Result}
use Rattle.std.specs.Io.KnownBytes.{IsAtEnd}
use Rattle.net_base.specs.Legal.{IsLegal, IsTimed}
use Rattle.net_model.specs.Answers.{Answer}
use Rattle.netcheck.specs.Judged.{HasFault}
use Rattle.outside.specs.declared.fault.TakeError.{TakeError}
use Rattle.net_model.specs.Asking as asks
use Rattle.net_model.specs.Calls.{Intake, IsInput, Output}
use Rattle.net_model.specs.Ends as calls
use Rattle.netcheck.specs.Input.{Handed}
use Rattle.netview.specs.Views.{IsFirstBad, asking, command_view}
use Rattle.netview.specs.Words.{Command, Lint, Show, View}

-- what became of a command and its input before anything was written
abbrev pub IsAnswered : Command → Intake → Result Answer TakeError → Type 0
IsAnswered asked intake became = calls.IsAnswered asking asked intake became

-- how a call with a command, or with words in no row, may end
abbrev pub Ends : Option Command → ℕ → Intake → Output → Type 0
Ends command status intake output = calls.Ends asking command status intake output

-- the most reads of a source by words
abbrev pub most_reads : Option Command → ℕ
most_reads command = asks.most_reads asking command

-- the command was asked, and without a fault handed an input of which no line is bad
abbrev pub IsHanded : Option Command → Command → Intake → Output → List ℕ → Type 0
IsHanded command asked intake output input = calls.IsHanded asking command asked intake output input

-- what an input that was read to its end handed in: of a view it is, and the world and the history in it are so
pub record HasHanded (command : Option Command) (So : View → (input : List ℕ) → Handed input → Type 0) (intake : Intake) : Type 0 where
  pub asked : View
  pub input : List ℕ
  pub is_asked : command ≡ Some (Show asked)
  pub took : IsInput intake.left input × IsAtEnd intake.rest
  pub handed : Handed input
  pub right : So asked input handed

-- a bundle that was read to its end and has no bad line
pub record HasBundle (command : Option Command) (intake : Intake) : Type 0 where
  pub input : List ℕ
  pub is_asked : command ≡ Some Lint
  pub took : IsInput intake.left input × IsAtEnd intake.rest
  pub good : IsFirstBad Lint input None

-- a legal and timed history, of which the command shows something with this status
pub record IsShownWith (status : ℕ) (asked : View) (input : List ℕ) (handed : Handed input) : Type 0 where
  pub legal : IsLegal handed.world handed.history
  pub timed : IsTimed handed.world handed.history
  pub status_is : (command_view asked input handed.world handed.history).status ≡ status

-- a history that breaks a rule
abbrev pub IsBroken : View → (input : List ℕ) → Handed input → Type 0
IsBroken asked input handed = (stamp : ℕ) × (rule : ℕ) × HasFault handed.world handed.history stamp rule

-- a rule is broken, or there is no medium of the name
abbrev pub IsRefused : View → (input : List ℕ) → Handed input → Type 0
IsRefused asked input handed = IsBroken asked input handed ⊎ IsShownWith 5 asked input handed

-- when each status comes, and what it leaves
pub record Causes (command : Option Command) (status : ℕ) (intake : Intake) (output : Output) : Type 0 where
  -- the usage, bad lines, faults and memory as of any program
  pub called : calls.Causes asking command status intake output
  -- the words and the input alone give 0 and 5
  pub done : status ≡ 0 → HasHanded command (IsShownWith 0) intake ⊎ HasBundle command intake
  pub refused : status ≡ 5 → HasHanded command IsRefused intake
  -- a good input has the status of what is shown of it, or 5 where its history breaks a rule
  pub shows : (asked : View) (input : List ℕ) (n : ℕ) → IsHanded command (Show asked) intake output input → (handed : Handed input)
      → IsShownWith n asked input handed → (status ≡ n) ⊎ (status ≡ 8)
  pub breaks : (asked : View) (input : List ℕ) → IsHanded command (Show asked) intake output input → (handed : Handed input)
      → IsBroken asked input handed → (status ≡ 5) ⊎ (status ≡ 8)
  -- and a good bundle has 0
  pub notes : (input : List ℕ) → IsHanded command Lint intake output input → (status ≡ 0) ⊎ (status ≡ 8)
