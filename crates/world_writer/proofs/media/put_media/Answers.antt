use Rattle.std.proofs.Common.{arith}
use Rattle.world_text.specs.WorldSpelling.{lines_of_medium}
use Rattle.world_writer.proofs.Laid.{parts_added}
use Rattle.world_writer.proofs.media.put_media.Goals as goal

pub returns : goal.returns
returns c =
    parts_added lines_of_medium c.args.media.now c.loop-medium.medium-index c.args.out.now c.loop-medium.out c.loop-medium.invariant (omega arith)
