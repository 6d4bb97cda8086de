-- What a command answers to its input.
--     IsEndedAnswer       the text of a whole history, with its summary and its status
--     IsWithinAnswer      that of one with at most p preemptions
--     IsOutcomesAnswer    the lines of outcomes, each of which has a history; without losses and parts exactly those of the list
--     IsLostAnswer        a world that loses at most k frames, and the text of one of its histories
--     asking              what is asked of the program
use Rattle.std.specs.Prelude.{◌≡◌, ◌≤◌, ℕ, ◌⊎◌, Bool, true, List, [], ◌++◌, All, Option, Some, None, Result, Ok, Err, codes, length}
use Rattle.std.specs.List.{list_all}
use Rattle.net_base.specs.declared.history.Entry.{Entry}
use Rattle.net_base.specs.declared.world.World.{World}
use Rattle.net_base.specs.Legal.{IsLegal, IsTimed}
use Rattle.net_base.specs.Net.{after}
use Rattle.net_base.specs.Summary.{end_word, summary}
use Rattle.net_base.specs.Transcript.{history_text}
use Rattle.net_model.specs.Answers.{Answer, lines_answer}
use Rattle.net_model.specs.Asking as calls
use Rattle.net_model.specs.Asking.{Asking}
use Rattle.turn_orders.specs.Preemptions.{IsWithin, preemptions}
use Rattle.turn_orders.specs.Turns.{IsEnded}
use Rattle.order_search.specs.declared.losses.Frame.{Frame}
use Rattle.order_search.specs.declared.search.Found.{Found}
use Rattle.order_search.specs.Exact.{IsExact}
use Rattle.order_search.specs.Losses.{AreFrames, is_laid, without}
use Rattle.order_search.specs.Tellings.{IsTelling}
use Rattle.world_text.specs.WorldText.{world_reading}
use Rattle.netexplore.specs.Lines.{last_line, tellings_text, told_status, word_status}
use Rattle.world_writer.specs.Written.{world_file_text}
use Rattle.netexplore.specs.Words.{Command, Losses, Lost, Outcomes, Schedule, Span, Witness, parts_in}

-- the text of a legal, timed and ended history of the world with its summary, and the status by how it ends
pub record IsEndedAnswer (w : World) (answer : Answer) : Type 0 where
  pub history : List Entry
  pub legal : IsLegal w history
  pub timed : IsTimed w history
  pub ended : IsEnded w history
  pub text : answer.text ≡ history_text history ++ summary w history
  pub status : answer.status ≡ word_status (end_word w (after w history))

-- of one with at most p preemptions
pub record IsWithinAnswer (w : World) (p : ℕ) (answer : Answer) : Type 0 where
  pub history : List Entry
  pub legal : IsLegal w history
  pub timed : IsTimed w history
  pub ended : IsEnded w history
  pub bounded : preemptions w history ≤ p
  pub text : answer.text ≡ history_text history ++ summary w history
  pub status : answer.status ≡ word_status (end_word w (after w history))

-- outcomes, each of which has a legal, timed and ended history with its summary, its results of steps and its preemptions. With a
-- number k of losses, the histories are those of the worlds that lose at most k frames. Without losses and parts, the outcomes and the
-- numbers of the last line are exactly those of the first histories of the list. Lines of steps come after each summary
pub record IsOutcomesAnswer (w : World) (losses : Option ℕ) (span : Span) (answer : Answer) : Type 0 where
  pub found : Found
  pub sound : All (IsTelling w losses span.preemptions) found.told.items
  pub exact : losses ≡ None → parts_in span.part ≤ 1 → IsExact w span.preemptions span.limit found
  pub lines : List (List ℕ)
  pub text : answer.text ≡ tellings_text lines 0 found.told.items ++ last_line found.histories found.entries found.whole
  pub status : answer.status ≡ told_status found.whole found.told.items

-- the world without at most k frames, `%history`, and the text of a history of that world that lays each of these frames
pub record IsLostAnswer (w : World) (k p : ℕ) (answer : Answer) : Type 0 where
  pub lost : List Frame
  pub frames : AreFrames lost
  pub few : length lost ≤ k
  pub history : List Entry
  pub within : IsWithin (without w lost) p history
  pub laid : list_all (is_laid history) lost ≡ true
  pub text : answer.text ≡
      world_file_text (without w lost) ++ (codes "%history\n" ++ (history_text history ++ summary (without w lost) history))
  pub status : answer.status ≡ word_status (end_word (without w lost) (after (without w lost) history))

-- Bad lines.

abbrev pub bad_world : Result World (ℕ × ℕ) → Option (ℕ × ℕ)
bad_world (Ok w) = None
bad_world (Err bad) = Some bad

-- the first bad line of an input within the limit, and its least cause, if a line is bad
abbrev pub IsBadLine : Command → List ℕ → Option (ℕ × ℕ) → Type 0
IsBadLine asked input found = found ≡ bad_world (world_reading input)

-- Answers.

-- what is found in a world
abbrev pub IsAnswerOf : Command → World → Answer → Type 0
IsAnswerOf (Schedule seed) w answer = IsEndedAnswer w answer
IsAnswerOf (Outcomes span) w answer = IsOutcomesAnswer w None span answer
IsAnswerOf (Witness span number) w answer = IsWithinAnswer w span.preemptions answer ⊎ (answer ≡ lines_answer [])
IsAnswerOf (Losses k span) w answer = IsOutcomesAnswer w (Some k) span answer
IsAnswerOf (Lost k span number) w answer = IsLostAnswer w k span.preemptions answer ⊎ (answer ≡ lines_answer [])

-- an answer to an input without a bad line
abbrev pub IsFound : Command → List ℕ → Answer → Type 0
IsFound asked input answer = (w : World) × (world_reading input ≡ Ok w) × IsAnswerOf asked w answer

-- what is asked of the program; an input has at most 4 MiB
abbrev pub asking : Asking Command
asking = record { reads = λ asked. true; limit = λ asked. 4194304; IsBadLine = IsBadLine; IsFound = IsFound }

-- an answer to a command and its input
abbrev pub IsAnswer : Command → List ℕ → Answer → Type 0
IsAnswer asked input answer = calls.IsAnswer asking asked input answer
