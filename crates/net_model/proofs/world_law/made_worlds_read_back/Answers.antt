use Rattle.std.proofs.Common.{refl}
use Rattle.world_writer.specs.Made.{made_world}
use Rattle.net_model.proofs.WorldBack.{only-whole}
use Rattle.net_model.proofs.world_law.made_worlds_read_back.Goals as goal

pub returns : goal.returns
returns c = λ n small.
    c.written_worlds_read_back.ensures.read (made_world n) (c.made_worlds_are_worlds.ensures n small) (only-whole _ refl)
