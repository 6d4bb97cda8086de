use Rattle.std.proofs.Common.{◌≡◌, ◌++◌, drop}
use Rattle.net_base.specs.Transcript.{spaced}
use Rattle.history_words.specs.Shown.{each_shown}
use Rattle.history_words.proofs.shown.put_each.Given as goal

-- what is written, and what is still to write
abbrev pub invariant-loop-line : goal.invariant-loop-line
invariant-loop-line l = l.out ++ spaced (each_shown (drop l.line-index l.lines)) ≡ l.initial.out ++ spaced (each_shown l.lines)
