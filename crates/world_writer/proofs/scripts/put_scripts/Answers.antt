use Rattle.std.proofs.Common.{arith}
use Rattle.world_text.specs.WorldSpelling.{lines_of_script, host_names}
use Rattle.world_writer.proofs.Laid.{parts_added}
use Rattle.world_writer.proofs.scripts.put_scripts.Goals as goal

pub returns : goal.returns
returns c =
    parts_added (lines_of_script (host_names c.args.hosts.now)) c.args.scripts.now c.loop-script.script-index c.args.out.now c.loop-script.out c.loop-script.invariant (omega arith)
