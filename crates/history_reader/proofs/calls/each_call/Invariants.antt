use Rattle.std.proofs.Common.{◌≡◌, ◌++◌, length}
use Rattle.history_reader.specs.ReplyRows as spec
use Rattle.history_reader.proofs.calls.each_call.Given as goal

abbrev pub invariant-loop-call : goal.invariant-loop-call
invariant-loop-call l = spec.each_call l.words ≡ (l.calls ++ (spec.each_call l.rest).0, (spec.each_call l.rest).1)

abbrev pub decreases-loop-call : goal.decreases-loop-call
decreases-loop-call l = length l.rest
