use Rattle.net_actors.proofs.Placed.{all_first}
use Rattle.net_actors.proofs.actors.Actors.new.Goals as goal

pub returns : goal.returns
returns c =
    all_first c.args.world.now c.len-hosts.result c.len-media.result c.in_ok-actors.actors.items c.len-hosts.ensures c.len-media.ensures c.in_ok-actors.ensures
