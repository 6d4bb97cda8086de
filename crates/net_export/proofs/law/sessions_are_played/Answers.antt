use Rattle.net_export.proofs.Placing.{are_played}
use Rattle.net_export.proofs.law.sessions_are_played.Goals as goal

pub returns : goal.returns
returns c = are_played
