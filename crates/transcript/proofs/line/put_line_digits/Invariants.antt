use Rattle.std.proofs.Common.{◌≡◌, ◌++◌, drop}
use Rattle.transcript.specs.Digits.{line_digits}
use Rattle.transcript.proofs.line.put_line_digits.Given as goal

-- what is written, and what is still to write
abbrev pub invariant-loop-line : goal.invariant-loop-line
invariant-loop-line l = l.out ++ line_digits (drop l.line-index l.lines) ≡ l.initial.out ++ line_digits l.lines
