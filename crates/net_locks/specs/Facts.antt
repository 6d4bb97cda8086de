-- What is known of a net has at most one proof.
use Rattle.std.specs.Prelude.{ℕ, List}
use Rattle.std.proofs.Props.{props}
use Rattle.net_base.specs.declared.actor.ActorName.{ActorName}
use Rattle.net_base.specs.declared.world.World.{World}
use Rattle.ip_route.specs.Kept.{HostWays}
use Rattle.journal.specs.declared.law.Roster.{Roster}
use Rattle.duties.specs.WaysOf.{AreWaysOfWorld}
use Rattle.net_locks.specs.Rosters.{IsNetOf}

ways_prop : (w : World) (ks : List HostWays) → IsProp (AreWaysOfWorld w ks)
unfolding AreWaysOfWorld
ways_prop w ks = Prim.hlevel props

pub net_prop : {w : World} {r : Roster} {hosts media : ℕ} {ways : List HostWays} {actors : List ActorName}
    → IsProp (IsNetOf w r hosts media ways actors)
net_prop = Prim.hlevel (props, ways_prop)
