use Rattle.std.proofs.Common.{arith}
use Rattle.world_text.specs.WorldSpelling.{lines_of_host, medium_names}
use Rattle.world_writer.proofs.Laid.{parts_added}
use Rattle.world_writer.proofs.hosts.put_hosts.Goals as goal

pub returns : goal.returns
returns c =
    parts_added (lines_of_host (medium_names c.args.media.now)) c.args.hosts.now c.loop-host.host-index c.args.out.now c.loop-host.out c.loop-host.invariant (omega arith)
