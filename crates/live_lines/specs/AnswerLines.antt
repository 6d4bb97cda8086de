-- The answer line of a step.
use Rattle.std.specs.Prelude.{ℕ, List, [], ◌∷◌, ◌++◌, codes}
use Rattle.net_base.specs.declared.reply.Reply.{Reply}
use Rattle.live_lines.specs.declared.answer.AnswerHead.{AnswerHead}
use Rattle.live_lines.specs.declared.answer.StepWord.{StepWord}
use Rattle.live_lines.specs.declared.answer.StepWord.TheVariants as word
use Rattle.net_base.specs.Numeral.{numeral}
use Rattle.net_base.specs.Transcript.{number_or_dash, reply_words, spaced}

abbrev pub step_word : StepWord → List ℕ
step_word word.Answered = codes "answered"
step_word word.Refused = codes "refused"
step_word word.Late = codes "late"
step_word word.Cancelled = codes "cancelled"
step_word word.Unanswered = codes "unanswered"

-- the place, the step (`-` if it was removed), the moment and the word
abbrev pub head_text : AnswerHead → List ℕ
head_text a = numeral a.place ++ spaced (number_or_dash a.step ∷ numeral a.moment ∷ step_word a.word ∷ [])

-- a reply, in the words of a history
abbrev pub reply_text : Reply → List ℕ
reply_text r = spaced (codes "=" ∷ reply_words r)

abbrev pub replies_text : List Reply → List ℕ
replies_text [] = []
replies_text (r ∷ rs) = reply_text r ++ replies_text rs

-- the whole line, with its newline
abbrev pub answer_text : AnswerHead → List Reply → List ℕ
answer_text a rs = head_text a ++ replies_text rs ++ 10 ∷ []
