-- A directory as it is built: what it keeps of the world, and what it is in the definitions.
use Rattle.std.specs.Prelude.{◌≡◌, ℕ, ◌^◌, ◌≤◌, Option, Some, IfSome}
use Rattle.net_base.specs.declared.address.Proto.{Proto}
use Rattle.net_base.specs.declared.history.Outcome.{Outcome}
use Rattle.net_base.specs.declared.history.Work.{Work}
use Rattle.net_base.specs.declared.reply.Reply.{Reply}
use Rattle.net_base.specs.declared.reply.Reply.TheVariants as reply
use Rattle.net_base.specs.declared.world.World.{World}
use Rattle.net_base.specs.ActorStep.{Step}
use Rattle.net_base.specs.Directory.{Dir, Home, dir_step, home_at}
use Rattle.ip_route.specs.Kept.{AreWaysOf, HostWays}
use Rattle.host_dir.specs.declared.starts.Starts.{Starts}
use Rattle.host_dir.specs.Starts.{AreStartsOf}

-- a directory, with what it keeps of the world
pub record HostDir : Type 0 where
  pub proto : Proto
  pub ways : HostWays
  pub starts : Starts
  pub dir : Dir

-- it is a directory of this host and protocol in the world
pub record IsDirOf (w : World) (h : ℕ) (p : Proto) (d : HostDir) : Type 0 where
  pub proto_is : d.proto ≡ p
  pub ways_are : AreWaysOf w h d.ways
  pub starts_are : AreStartsOf w h d.starts

-- its protocol stays, and what it keeps of the world
pub record StaysDir (old new : HostDir) : Type 0 where
  pub proto : new.proto ≡ old.proto
  pub ways : new.ways ≡ old.ways
  pub starts : new.starts ≡ old.starts

-- the step leaves this directory, with this outcome
abbrev pub LeavesDir : HostDir → Outcome → Option (Step Dir) → Type 0
LeavesDir new outcome step = step ≡ Some (record { state = new.dir; outcome = outcome })

-- in each world and at each host of which it is a directory, the step there leaves this one, with this outcome
abbrev pub GivesDir : HostDir → HostDir → Outcome → (Home → Option (Step Dir)) → Type 0
GivesDir old new outcome step = (w : World) (h : ℕ) → IsDirOf w h old.proto old → LeavesDir new outcome (step (home_at w h old.proto))

-- in each world and at each host of which it is a directory, it steps as the table says, and stays one
abbrev pub StepsDir : HostDir → HostDir → Work → Outcome → Type 0
StepsDir old new work outcome =
    (w : World) (h : ℕ) (p : Proto) → IsDirOf w h p old
    → IsDirOf w h p new × LeavesDir new outcome (dir_step w h p work.event work.with old.dir)

-- Want of memory.

-- a step with this reply may want memory; a reservation only where its generation passes all that a slot can count
abbrev pub MayWant : Reply → Type 0
MayWant (reply.Slot n g) = 2 ^ 64 ≤ g
MayWant (reply.Granted pair start limit) = Unit {0}
MayWant reply.Ok = Unit {0}
MayWant (reply.Calls calls) = Unit {0}
MayWant (reply.Born n g start limit) = Unit {0}
MayWant (reply.Names names) = Unit {0}
MayWant _ = ⊥

-- the step may want memory
abbrev pub StepMayWant : Option (Step Dir) → Type 0
StepMayWant step = IfSome step (λ s. MayWant s.outcome.reply)

-- in each world and at each host of which it is a directory, the step there may want memory
abbrev pub Wants : HostDir → (Home → Option (Step Dir)) → Type 0
Wants old step = (w : World) (h : ℕ) → IsDirOf w h old.proto old → StepMayWant (step (home_at w h old.proto))
