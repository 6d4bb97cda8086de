use Rattle.world_text.proofs.WorldRead.{spelled-read}
use Rattle.world_text.proofs.WorldSound.{read-spelled}
use Rattle.world_text.proofs.world_law.worlds_are_spelled.Goals as goal

pub returns : goal.returns
returns c = record { sound = read-spelled; complete = spelled-read }
