use Rattle.net_actors.proofs.ByKind.{told_ready}
use Rattle.net_actors.proofs.kind.is_answered.Goals as goal

pub returns : goal.returns
returns c = told_ready c.args.conv.now c.args.now c.args.work.now c.ready.result c.ready.ensures
