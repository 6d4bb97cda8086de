use Rattle.std.proofs.Common.{◌≡◌, ◌++◌, drop}
use Rattle.netsh.specs.AnswerLines.{answer_lines}
use Rattle.netsh.proofs.answer_lines.put_sessions.Given as goal

-- what is written, and what is still to write
abbrev pub invariant-loop-answers : goal.invariant-loop-answers
invariant-loop-answers l = record {
  at : l.i ≡ l.answers-index;
  put : l.out ++ answer_lines (drop l.i l.sessions) (drop l.i l.all) ≡ l.initial.out ++ answer_lines l.sessions l.all;
}
