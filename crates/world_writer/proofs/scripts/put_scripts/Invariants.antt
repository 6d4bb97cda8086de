use Rattle.std.proofs.Common.{◌≡◌, ◌++◌, drop}
use Rattle.world_text.specs.WorldSpelling.{lines_of_script, host_names}
use Rattle.world_writer.specs.Written.{parts_laid}
use Rattle.world_writer.proofs.scripts.put_scripts.Given as goal

abbrev pub invariant-loop-script : goal.invariant-loop-script
invariant-loop-script l = l.initial.out ++ parts_laid (lines_of_script (host_names l.hosts)) l.scripts ≡ l.out ++ parts_laid (lines_of_script (host_names l.hosts)) (drop l.script-index l.scripts)
