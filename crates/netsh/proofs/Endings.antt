-- How the parts of a call make its end.
use Rattle.std.proofs.Common.{◌≡◌, ℕ, ◌≤◌, false, List, length, Option, Some, refl, sym, subst}
use Rattle.net_model.specs.Answers.{Answer, input_limit}
use Rattle.net_model.specs.Words.{Command, may_wait, words_wait}
use Rattle.netsh.specs.declared.command.Question.{Question}
use Rattle.netsh.specs.declared.command.Question.TheVariants as question
use Rattle.netsh.specs.declared.top.Asked.TheVariants as asks
use Rattle.netsh.specs.Built.{IsAnswer}
use Rattle.netsh.specs.Commands.{question_read}
use Rattle.net_model.specs.Calls.{Intake, Output}
use Rattle.netsh.specs.Ends.{Ends}

same_status : (s t : ℕ) → asks.Answered s ≡ asks.Answered t → s ≡ t
same_status s t same = cc

never_waits : (question : Question) → may_wait (question_read question) ≡ false
never_waits (question.Cs sys query) = refl
never_waits (question.Tuples attr value) = refl
never_waits (question.Beside attr value other) = refl
never_waits (question.Dns word) = refl
never_waits (question.Make messages) = refl
never_waits question.Check = refl
never_waits question.Translate = refl

-- words that were answered
pub words_answered :
    (question : Question) (command : Option Command) (status result : ℕ) (intake : Intake) (output : Output) → Some (question_read question) ≡ command →
    asks.Answered result ≡ asks.Answered status → Ends (Some (question_read question)) result intake output →
    Ends command status intake output × words_wait command ≡ false
words_answered question command status result intake output is same ends =
    let kept : Ends (Some (question_read question)) status intake output = subst (λ (s : ℕ). Ends (Some (question_read question)) s intake output) (same_status result status same) ends in
    (subst (λ (k : Option Command). Ends k status intake output) is kept, subst (λ (k : Option Command). words_wait k ≡ false) is (never_waits question))

-- by the command that never waits
pub by_question : (q r : Question) → q ≡ r → (input : List ℕ) (answer : Answer)
    → (length input ≤ input_limit (question_read r) → IsAnswer (question_read r) input answer)
    → length input ≤ input_limit (question_read q) → IsAnswer (question_read q) input answer
by_question q r is input answer given fits =
    subst (λ (k : Question). IsAnswer (question_read k) input answer) (sym is)
    (given (subst (λ (k : Question). length input ≤ input_limit (question_read k)) is fits))
