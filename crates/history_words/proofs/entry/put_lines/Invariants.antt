use Rattle.std.proofs.Common.{◌≡◌, ◌++◌, drop}
use Rattle.history_words.specs.HistoryWords.{lines_shown}
use Rattle.history_words.proofs.entry.put_lines.Given as goal

-- what is written, and what is still to write
abbrev pub invariant-loop-stamp : goal.invariant-loop-stamp
invariant-loop-stamp l = l.out ++ lines_shown l.world l.stamp (drop l.stamp l.entries) ≡ l.initial.out ++ lines_shown l.world 0 l.entries
