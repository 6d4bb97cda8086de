use Rattle.world_text.proofs.WorldRefusals.{same-said}
use Rattle.world_text.proofs.world_law.passed_lines_say_nothing.Goals as goal

pub returns : goal.returns
returns c = same-said
