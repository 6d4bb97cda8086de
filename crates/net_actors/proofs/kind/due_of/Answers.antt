use Rattle.net_actors.proofs.ByKind.{told_due}
use Rattle.net_actors.proofs.kind.due_of.Goals as goal

pub returns : goal.returns
returns c = told_due c.args.conv.now c.due.result c.due.ensures
