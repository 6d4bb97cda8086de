-- What an answer of check says.
use Rattle.std.proofs.Common.{◌≡◌, ℕ, ◌+◌, ◌⊎◌, Bool, true, false, List, length, Option, Some, None, Ok, Err, Result, refl, sym, ◌∙◌, ap, inl, inr, arith}
use Rattle.std.proofs.lemmas.Option.{none-some}
use Rattle.net_base.specs.declared.world.World.{World}
use Rattle.net_model.specs.Answers.{Answer, all_kept, rule_broken}
use Rattle.net_model.specs.Words.{Check}
use Rattle.world_text.specs.WorldText.{world_reading}
use Rattle.netsh.specs.Built.{asking, IsAnswer, IsFirstBad, IsJudged}
use Rattle.netcheck.specs.Input.{bad_world, no_history, parts_of, Handed, IsBadFrom, IsBadHanded, IsBadHistory, InputParts}
use Rattle.netsh.specs.Checked.{BreaksOne, IsChecked, KeepsAll}
use Rattle.net_model.specs.Asking.{IsGiven, is_input_over}
use Rattle.net_model.proofs.Shared.{given_good, told_of}

-- an input of which no line is bad hands in a world and a history

world_handed : (input : List ℕ) (parts : InputParts) → parts_of input ≡ Some parts → (read : Result World (ℕ × ℕ)) → world_reading parts.world ≡ read
    → IsBadFrom (bad_world read) (IsBadHistory (parts.lines + 1) parts.history) None → Handed input
world_handed input parts are (Err bad) is told = absurd (none-some bad told)
world_handed input parts are (Ok w) is told =
    record { parts = parts; world = w; history = told.0; told = told.1; are_parts = are; is_world = is; spelled = told.2 }

no_world_handed : (input : List ℕ) (bad : Option (ℕ × ℕ)) → IsBadFrom bad (λ (found : Option (ℕ × ℕ)). found ≡ Some (no_history input)) None → Handed input
no_world_handed input None told = absurd (none-some (no_history input) told)
no_world_handed input (Some bad) told = absurd (none-some bad told)

parts_handed : (input : List ℕ) (parts : Option InputParts) → parts_of input ≡ parts → IsBadHanded parts input None → Handed input
parts_handed input None are told = no_world_handed input (bad_world (world_reading input)) told
parts_handed input (Some parts) are told = world_handed input parts are (world_reading parts.world) refl told

pub handed_in : (input : List ℕ) → IsFirstBad Check input None → Handed input
handed_in input good = by (is_input_over asking Check input) refl
  where
    by : (over : Bool) → is_input_over asking Check input ≡ over → Handed input
    by true is = absurd (none-some (0, 9) (told_of _ asking Check input true is None good))
    by false is = parts_handed input (parts_of input) refl (told_of _ asking Check input false is None good)

-- the status of an answer that is this one
status_is : (answer other : Answer) (n : ℕ) → answer ≡ other → answer.status ≡ n → other.status ≡ n
status_is answer other n is has = sym (ap (λ (a : Answer). a.status) is) ∙ has

module _ (input : List ℕ) (answer : Answer) where
  keeps_0 : (handed : Handed input) → IsChecked handed.world handed.history handed.told answer → answer.status ≡ 0 → KeepsAll handed.world handed.history handed.told
  keeps_0 handed is zero = by is.judged
    where
      by : KeepsAll handed.world handed.history handed.told ⊎ BreaksOne handed.world handed.history handed.told → KeepsAll handed.world handed.history handed.told
      by (inl keeps) = keeps
      by (inr (stamp, rule, broken)) =
          let five = status_is answer (rule_broken stamp rule) 0 (is.broken stamp rule broken) zero in absurd (omega (arith, five))

  breaks_5 : (handed : Handed input) → IsChecked handed.world handed.history handed.told answer → answer.status ≡ 5 → BreaksOne handed.world handed.history handed.told
  breaks_5 handed is five = by is.judged
    where
      by : KeepsAll handed.world handed.history handed.told ⊎ BreaksOne handed.world handed.history handed.told → BreaksOne handed.world handed.history handed.told
      by (inl keeps) = let zero = status_is answer (all_kept (length handed.history)) 5 (is.kept keeps) five in absurd (omega (arith, zero))
      by (inr breaks) = breaks

  -- an answer that isn't of status 2 judges what was handed in
  pub judges : (n : ℕ) → (n ≡ 2 → ⊥) → IsAnswer Check input answer → answer.status ≡ n → IsFirstBad Check input None × IsJudged input answer
  judges n no_two is has = by is.found is.first is.given
    where
      by : (found : Option (ℕ × ℕ)) → IsFirstBad Check input found → IsGiven asking found Check input answer → IsFirstBad Check input None × IsJudged input answer
      by None good given = (good, given)
      by (Some bad) told given = absurd (no_two (sym has ∙ ap (λ (a : Answer). a.status) given))

  pub checked_0 : IsAnswer Check input answer → answer.status ≡ 0 → (handed : Handed input) → KeepsAll handed.world handed.history handed.told
  checked_0 is zero handed = keeps_0 handed ((judges 0 (λ e. omega (arith, e)) is zero).1 handed) zero

  pub checked_5 : IsAnswer Check input answer → answer.status ≡ 5 → (handed : Handed input) → BreaksOne handed.world handed.history handed.told
  checked_5 is five handed = breaks_5 handed ((judges 5 (λ e. omega (arith, e)) is five).1 handed) five

  pub kept_so : IsAnswer Check input answer → IsFirstBad Check input None → (handed : Handed input) → KeepsAll handed.world handed.history handed.told → answer.status ≡ 0
  kept_so is good handed keeps = ap (λ (a : Answer). a.status) ((given_good _ asking Check input answer is good handed).kept keeps)

  pub broken_so : IsAnswer Check input answer → IsFirstBad Check input None → (handed : Handed input) → BreaksOne handed.world handed.history handed.told → answer.status ≡ 5
  broken_so is good handed (stamp, rule, broken) = ap (λ (a : Answer). a.status) ((given_good _ asking Check input answer is good handed).broken stamp rule broken)
