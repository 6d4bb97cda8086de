use Rattle.history_laws.proofs.law.same_actors_are_equal.Goals as goal
use Rattle.net_base.proofs.Shared.{same_actor_is}

pub returns : goal.returns
returns c = same_actor_is
