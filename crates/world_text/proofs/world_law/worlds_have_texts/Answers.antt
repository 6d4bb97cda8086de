use Rattle.world_text.proofs.WorldWritten.{written}
use Rattle.world_text.proofs.world_law.worlds_have_texts.Goals as goal

pub returns : goal.returns
returns c = written
