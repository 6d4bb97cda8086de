use Rattle.world_file.proofs.SessionLaws.{says-one}
use Rattle.world_file.proofs.session_law.texts_of_sessions_say_one.Goals as goal

pub returns : goal.returns
returns c = says-one
