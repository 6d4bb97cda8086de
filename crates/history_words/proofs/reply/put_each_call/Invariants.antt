use Rattle.std.proofs.Common.{◌≡◌, ◌++◌, drop}
use Rattle.net_base.specs.Transcript.{spaced}
use Rattle.history_words.specs.HistoryWords.{each_call_shown}
use Rattle.history_words.proofs.reply.put_each_call.Given as goal

-- what is written, and what is still to write
abbrev pub invariant-loop-call : goal.invariant-loop-call
invariant-loop-call l = l.out ++ spaced (each_call_shown (drop l.call-index l.calls)) ≡ l.initial.out ++ spaced (each_call_shown l.calls)
