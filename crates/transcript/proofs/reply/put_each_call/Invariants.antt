use Rattle.std.proofs.Common.{◌≡◌, ◌++◌, drop}
use Rattle.net_base.specs.Transcript.{spaced, calls_of}
use Rattle.transcript.proofs.reply.put_each_call.Given as goal

-- what is written, and what is still to write
abbrev pub invariant-loop-call : goal.invariant-loop-call
invariant-loop-call l = l.out ++ spaced (calls_of (drop l.call-index l.calls)) ≡ l.initial.out ++ spaced (calls_of l.calls)
