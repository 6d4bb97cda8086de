use Rattle.world_text.proofs.LineBack.{back}
use Rattle.world_text.proofs.LineSpelled.{spelled}
use Rattle.world_text.proofs.world_law.lines_are_spelled.Goals as goal

pub returns : goal.returns
returns c = record { sound = spelled; complete = back }
