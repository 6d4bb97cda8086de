use Rattle.session_script.proofs.Words.{has_room}
use Rattle.session_script.proofs.law.short_replies_have_room.Goals as goal

pub returns : goal.returns
returns c = has_room
