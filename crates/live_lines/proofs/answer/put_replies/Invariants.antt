use Rattle.std.proofs.Common.{◌≡◌, ◌++◌, drop}
use Rattle.live_lines.specs.AnswerLines.{replies_text}
use Rattle.live_lines.proofs.answer.put_replies.Given as goal

-- the written text, and the text that is still to write
abbrev pub invariant-loop-reply : goal.invariant-loop-reply
invariant-loop-reply l = l.out ++ replies_text (drop l.reply-index l.replies) ≡ l.initial.out ++ replies_text l.replies
