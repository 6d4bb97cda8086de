use Rattle.host_net.proofs.Taking.{kept_itself}
use Rattle.host_net.proofs.advance.Net+J+WorldActor+J.advance.Goals as goal

pub returns-in_default-clause-kept : goal.returns-in_default-clause-kept
returns-in_default-clause-kept g c = kept_itself g.J.Placing.tasks g.J.Placing.world c.args.players.now.groups
