use Rattle.std.proofs.Common.{◌≡◌, ◌++◌, drop, map}
use Rattle.world_text.specs.WorldSpelling.{laid, line_of_start}
use Rattle.world_writer.proofs.hosts.put_starts.Given as goal

abbrev pub invariant-loop-start : goal.invariant-loop-start
invariant-loop-start l = l.initial.out ++ laid (map line_of_start l.starts) ≡ l.out ++ laid (map line_of_start (drop l.start-index l.starts))
