use Rattle.std.proofs.Common.{◌≡◌, take, flat_map}
use Rattle.net_model.specs.Answers.{ended}
use Rattle.netsh.proofs.answer.text_of_lines.Given as goal

abbrev pub invariant-loop-line : goal.invariant-loop-line
invariant-loop-line l = l.text ≡ flat_map ended (take l.line-index l.lines)
