use Rattle.std.proofs.Common.{◌≡◌, take}
use Rattle.net_base.specs.Transcript.{as_lines}
use Rattle.session_answers.proofs.found.text_of.Given as goal

-- the lines so far
abbrev pub invariant-loop-line : goal.invariant-loop-line
invariant-loop-line l = l.text ≡ as_lines (take l.line-index l.lines)
