use Rattle.world_text.proofs.WorldRefusals.{bad-stays, refused-exactly}
use Rattle.world_text.proofs.world_law.first_bad_lines_are_told.Goals as goal

pub returns : goal.returns
returns c = record { exact = refused-exactly; stays = bad-stays }
