use Rattle.std.proofs.Common.{length}
use Rattle.world_file.proofs.SessionTaken.{SoFar}
use Rattle.world_file.proofs.session_text.read_session_lines.Given as goal

abbrev pub invariant-loop-rest : goal.invariant-loop-rest
invariant-loop-rest l = SoFar l.bytes l.told l.number l.rest

abbrev pub decreases-loop-rest : goal.decreases-loop-rest
decreases-loop-rest l = length l.rest
