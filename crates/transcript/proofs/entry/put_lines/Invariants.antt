use Rattle.std.proofs.Common.{◌≡◌, ◌++◌}
use Rattle.net_base.specs.Transcript.{lines_from}
use Rattle.transcript.specs.Part.{part}
use Rattle.transcript.proofs.entry.put_lines.Given as goal

-- what is written, and what is still to write
abbrev pub invariant-loop-stamp : goal.invariant-loop-stamp
invariant-loop-stamp g l =
    l.out ++ lines_from l.stamp (part l.stamp l.last (g.E.Entries.list l.entries))
    ≡ l.initial.out ++ lines_from l.first (part l.first l.last (g.E.Entries.list l.entries))
