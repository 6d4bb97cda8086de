use Rattle.std.proofs.Common.{◌≡◌, ◌++◌, drop}
use Rattle.history_json.specs.HistoryJson.{later_calls}
use Rattle.history_json.proofs.reply.put_later_calls.Given as goal

-- what is written, and what is still to write
abbrev pub invariant-loop-call : goal.invariant-loop-call
invariant-loop-call l = l.out ++ later_calls (drop l.call-index l.calls) ≡ l.initial.out ++ later_calls l.calls
