use Rattle.std.proofs.Common.{refl}
use Rattle.std.specs.Fmt.{digits}
use Rattle.world_writer.proofs.law.worked_made_world.Goals as goal

pub returns : goal.returns
unfolding digits
returns c = refl
