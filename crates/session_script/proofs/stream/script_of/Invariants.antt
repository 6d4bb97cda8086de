use Rattle.std.proofs.Common.{length}
use Rattle.session_script.specs.Seen.{seen_table}
use Rattle.session_script.proofs.Messages.{Reads}
use Rattle.session_script.proofs.stream.script_of.Given as goal

abbrev pub invariant-loop-rest : goal.invariant-loop-rest
invariant-loop-rest l = Reads l.bytes (seen_table l.table) l.steps l.rest

abbrev pub decreases-loop-rest : goal.decreases-loop-rest
decreases-loop-rest l = length l.rest
