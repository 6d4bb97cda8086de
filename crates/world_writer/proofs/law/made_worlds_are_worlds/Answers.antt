use Rattle.world_writer.proofs.Said.{said}
use Rattle.world_writer.proofs.law.made_worlds_are_worlds.Goals as goal

pub returns : goal.returns
returns c = λ n small. said n small
