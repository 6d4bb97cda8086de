use Rattle.std.proofs.Common.{◌+◌, ◌≤◌, length}
use Rattle.netcheck.proofs.Halves.{Passed}
use Rattle.netcheck.proofs.parts.split.Given as goal

abbrev pub invariant-loop-rest : goal.invariant-loop-rest
invariant-loop-rest l = record {
  passed : Passed l.input l.rest l.lines;
  room : l.lines + length l.rest ≤ length l.input;
}

abbrev pub decreases-loop-rest : goal.decreases-loop-rest
decreases-loop-rest l = length l.rest
