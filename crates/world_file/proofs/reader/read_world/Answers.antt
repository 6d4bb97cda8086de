use Rattle.net_base.specs.World.{IsWorld}
use Rattle.world_text.specs.WorldSpelling.{IsWorldText}
use Rattle.world_file.proofs.Spelled.{holds}
use Rattle.world_file.proofs.reader.read_world.Goals as goal

pub returns-clause-spelled : goal.returns-clause-spelled
returns-clause-spelled c = holds (IsWorldText c.args.bytes.now) c.read_lines.result _ (λ w is. c.worlds_are_spelled.ensures.sound c.args.bytes.now w c.are_bytes.ensures is) c.read_lines.ensures.ok

pub returns-clause-world : goal.returns-clause-world
returns-clause-world c = holds IsWorld c.read_lines.result _ (λ w is. (c.worlds_are_spelled.ensures.sound c.args.bytes.now w c.are_bytes.ensures is).world) c.read_lines.ensures.ok
