use Rattle.net_export.proofs.SessionReplies.{session_told}
use Rattle.net_export.proofs.law.session_replies_are_told.Goals as goal

pub returns : goal.returns
returns c = session_told
