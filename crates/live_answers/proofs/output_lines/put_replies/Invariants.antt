use Rattle.std.proofs.Common.{◌≡◌, ◌++◌, drop}
use Rattle.live_lines.specs.AnswerLines.{replies_text}
use Rattle.live_answers.specs.Steps.{replies_at}
use Rattle.live_answers.proofs.output_lines.put_replies.Given as goal

-- the written text, and the text that is still to write
abbrev pub invariant-loop-stamp : goal.invariant-loop-stamp
invariant-loop-stamp l = l.line ++ replies_text (replies_at l.history (drop l.stamp-index l.stamps)) ≡ l.initial.line ++ replies_text (replies_at l.history l.stamps)
