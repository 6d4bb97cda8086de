use Rattle.world_text.proofs.WorldRefusals.{one-world}
use Rattle.world_text.proofs.world_law.texts_say_one_world.Goals as goal

pub returns : goal.returns
returns c = one-world
