-- What `check` answers to a world, a history of it and a summary.
--     KeepsAll, IsBroken    whether all nine rules hold, or which one is broken first
--     IsChecked             the answer
use Rattle.std.specs.Prelude.{◌≡◌, ℕ, ◌⊎◌, List, length, Option, Some, None, ⊤}
use Rattle.net_base.specs.declared.history.Entry.{Entry}
use Rattle.net_base.specs.declared.world.World.{World}
use Rattle.net_base.specs.Legal.{IsFault, IsLegal, IsTimed, Rule, rule_number}
use Rattle.net_base.specs.Summary.{summary}
use Rattle.net_model.specs.Answers.{Answer, all_kept, bad_input, rule_broken}
use Rattle.netcheck.specs.declared.fault.InputError.{InputError}
use Rattle.netcheck.specs.declared.fault.InputError.TheVariants as error

-- The rules.

-- the ninth: a summary, where there is one, is the history's
abbrev pub IsOwn : World → List Entry → Option (List ℕ) → Type 0
IsOwn w h None = ⊤
IsOwn w h (Some text) = text ≡ summary w h

-- all nine rules hold
pub record KeepsAll (w : World) (h : List Entry) (told : Option (List ℕ)) : Type 0 where
  pub legal : IsLegal w h
  pub timed : IsTimed w h
  pub own : IsOwn w h told

-- this entry is the first that breaks one of the first eight, and this is the number of the least that it breaks
pub record IsEntryFault (w : World) (h : List Entry) (stamp rule : ℕ) : Type 0 where
  pub broken : Rule
  pub fault : IsFault w h stamp broken
  pub number : rule ≡ rule_number broken

-- all entries keep the first eight, and the summary is another's: rule 9, at the number of entries
pub record IsSummaryFault (w : World) (h : List Entry) (told : Option (List ℕ)) (stamp rule : ℕ) : Type 0 where
  pub legal : IsLegal w h
  pub timed : IsTimed w h
  pub another : IsOwn w h told → ⊥
  pub place : stamp ≡ length h
  pub number : rule ≡ 9

-- the first stamp at which a rule is broken, and the least rule there
abbrev pub IsRuleBroken : World → List Entry → Option (List ℕ) → ℕ → ℕ → Type 0
IsRuleBroken w h told stamp rule = IsEntryFault w h stamp rule ⊎ IsSummaryFault w h told stamp rule

-- some rule is broken
abbrev pub BreaksOne : World → List Entry → Option (List ℕ) → Type 0
BreaksOne w h told = (stamp : ℕ) × (rule : ℕ) × IsRuleBroken w h told stamp rule

-- Answers.

-- the answer to a history of a world and to the summary that came with it
pub record IsChecked (w : World) (h : List Entry) (told : Option (List ℕ)) (answer : Answer) : Type 0 where
  pub kept : KeepsAll w h told → answer ≡ all_kept (length h)
  pub broken : (stamp rule : ℕ) → IsRuleBroken w h told stamp rule → answer ≡ rule_broken stamp rule
  -- and one of both it is
  pub judged : KeepsAll w h told ⊎ BreaksOne w h told

-- so answers an error of reading and judging that isn't want of memory
abbrev pub TellsError : InputError → Answer → Type 0
TellsError (error.Bad line cause) answer = answer ≡ bad_input line cause
TellsError (error.Fault stamp rule) answer = answer ≡ rule_broken stamp rule
TellsError error.Memory answer = ⊥
