use Rattle.std.proofs.Common.{◌≡◌, ◌++◌, drop}
use Rattle.history_json.specs.HistoryJson.{lines_from}
use Rattle.history_json.proofs.entry.put_lines.Given as goal

-- what is written, and what is still to write
abbrev pub invariant-loop-stamp : goal.invariant-loop-stamp
invariant-loop-stamp l = l.out ++ lines_from l.stamp (drop l.stamp l.entries) ≡ l.initial.out ++ lines_from 0 l.entries
