use Rattle.std.proofs.Common.{◌≡◌, ◌++◌, drop}
use Rattle.std.specs.Prelude.{flat_map}
use Rattle.netsh.specs.AnswerLines.{answer_line}
use Rattle.netsh.proofs.answer_lines.put_answers.Given as goal

-- what is written, and what is still to write
abbrev pub invariant-loop-answer : goal.invariant-loop-answer
invariant-loop-answer l = l.out ++ flat_map (answer_line l.caller) (drop l.answer-index l.answers) ≡ l.initial.out ++ flat_map (answer_line l.caller) l.answers
