-- The moments among which the clock takes the least, each with what it is of.
use Rattle.std.specs.Prelude.{◌≡◌, ℕ, ◌<◌, Some}
use Rattle.net_base.specs.declared.actor.ActorName.{ActorName}
use Rattle.net_base.specs.declared.world.World.{World}
use Rattle.net_base.specs.Callers.{caller_count, caller_of}
use Rattle.net_base.specs.Calm.{awaited_moment}
use Rattle.net_base.specs.Duties.{conversations, due_of}
use Rattle.net_base.specs.Net.{Net}
use Rattle.net_base.specs.Next.{next_of_by}
use Rattle.net_base.specs.Stamped.{In}
use Rattle.net_base.specs.Tasks.{Tasks}

-- a conversation is due at the moment
pub record IsDue (w : World) (net : Net) (m : ℕ) : Type 0 where
  pub actor : ActorName
  pub there : In actor (conversations w)
  pub due : due_of (net.actors actor) ≡ Some m

-- a caller's next event waits for the moment
pub record IsAwaited (ts : Tasks) (w : World) (net : Net) (m : ℕ) : Type 0 where
  pub caller : ℕ
  pub known : caller < caller_count w
  pub awaits : awaited_moment (next_of_by ts w (caller_of w caller) net.past caller) ≡ Some m
