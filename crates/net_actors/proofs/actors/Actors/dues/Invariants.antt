use Rattle.std.proofs.Common.{◌≡◌}
use Rattle.net_actors.proofs.DuesOf.{dues_below}
use Rattle.net_actors.specs.Together.{state_at_actor}
use Rattle.net_actors.proofs.actors.Actors.dues.Given as goal

abbrev pub invariant-loop-host : goal.invariant-loop-host
invariant-loop-host l = l.dues.items ≡ dues_below (state_at_actor l.self) l.host
