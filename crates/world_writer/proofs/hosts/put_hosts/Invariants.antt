use Rattle.std.proofs.Common.{◌≡◌, ◌++◌, drop}
use Rattle.world_text.specs.WorldSpelling.{lines_of_host, medium_names}
use Rattle.world_writer.specs.Written.{parts_laid}
use Rattle.world_writer.proofs.hosts.put_hosts.Given as goal

abbrev pub invariant-loop-host : goal.invariant-loop-host
invariant-loop-host l = l.initial.out ++ parts_laid (lines_of_host (medium_names l.media)) l.hosts ≡ l.out ++ parts_laid (lines_of_host (medium_names l.media)) (drop l.host-index l.hosts)
