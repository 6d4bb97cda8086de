use Rattle.std.proofs.Common.{◌≡◌, ◌++◌, drop}
use Rattle.net_base.specs.Transcript.{as_lines}
use Rattle.history_json.proofs.text.joined_lines.Given as goal

-- what is joined, and what is still to join
abbrev pub invariant-loop-line : goal.invariant-loop-line
invariant-loop-line l = l.text ++ as_lines (drop l.line-index l.lines) ≡ as_lines l.lines
