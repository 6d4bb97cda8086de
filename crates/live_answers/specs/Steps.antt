-- A step that has begun: its replies so far, and the word for it when it is complete.
use Rattle.std.specs.Prelude.{◌≡◌, ℕ, ◌++◌, ◌<◌, Bool, true, false, List, [], ◌∷◌, Option, Some, None, is_none, slice_get}
use Rattle.std.specs.List.{All}
use Rattle.net_base.specs.declared.history.Entry.{Entry}
use Rattle.net_base.specs.declared.reply.Reply.{Reply}
use Rattle.live_lines.specs.declared.answer.AnswerHead.{AnswerHead}
use Rattle.live_lines.specs.declared.answer.StepWord.{StepWord}
use Rattle.live_lines.specs.declared.answer.StepWord.TheVariants as word
use Rattle.replay_views.specs.declared.ending.Ending.{Ending}
use Rattle.replay_views.specs.Endings.{ending_of}
use Rattle.live_answers.specs.declared.current.Current.{Current}
use Rattle.live_answers.specs.Lines.{Answer, Line}

abbrev pub reply_at : Option Entry → List Reply
reply_at None = []
reply_at (Some x) = x.reply ∷ []

-- the replies of the entries with these stamps
abbrev pub replies_at : List Entry → List ℕ → List Reply
replies_at h [] = []
replies_at h (k ∷ ks) = reply_at (slice_get h k) ++ replies_at h ks

-- the stamp of an entry that is no follow-up event
abbrev pub own_stamp : Bool → ℕ → List ℕ
own_stamp true k = k ∷ []
own_stamp false k = []

-- the step after an entry with this stamp
pub record IsNoted (k : ℕ) (x : Entry) (old new : Current) : Type 0 where
  pub number : new.number ≡ old.number
  pub stamps : new.stamps.items ≡ old.stamps.items ++ own_stamp (is_none x.cites) k

abbrev pub ended_word : Option Ending → StepWord
ended_word None = word.Answered
ended_word (Some e) = refused_word e.refused
  where
    refused_word : Bool → StepWord
    refused_word true = word.Refused
    refused_word false = word.Answered

-- the word for a step that is complete: why `until` replaced it, or how it ended
abbrev pub word_by : Option StepWord → Option Ending → StepWord
word_by (Some why) e = why
word_by None e = ended_word e

abbrev pub word_of : Current → List Entry → StepWord
word_of s h = word_by s.replaced (ending_of s.kind h s.latest)

-- the line about a step of a place
abbrev pub answer_of : ℕ → ℕ → StepWord → Current → List Entry → Line
answer_of place moment w s h = Answer (record { place = place; step = Some s.number; moment = moment; word = w }) (replies_at h s.stamps.items)

-- the line about a step that was removed
abbrev pub removed_line : ℕ → Line
removed_line place = Answer (record { place = place; step = None; moment = 0; word = word.Cancelled }) []
