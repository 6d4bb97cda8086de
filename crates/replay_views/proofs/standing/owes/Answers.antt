use Rattle.replay_views.proofs.Scripts.{owes_so}
use Rattle.replay_views.proofs.standing.owes.Goals as goal

pub returns : goal.returns
returns c = λ w h k is. owes_so w h k c.args.caller.now c.is_empty.result c.is_empty.ensures is
