-- A run that borrows no world: what it keeps of its callers, and how it resumes.
use Rattle.std.specs.Prelude.{◌≡◌, ℕ, ◌<◌, List, length, Option, Some, None, IsSome, slice_get}
use Rattle.net_base.specs.declared.history.Entry.{Entry}
use Rattle.net_base.specs.declared.reply.Reply.{Reply}
use Rattle.net_base.specs.declared.world.Script.{Script}
use Rattle.net_base.specs.declared.world.Step.{Step}
use Rattle.net_base.specs.declared.world.World.{World}
use Rattle.net_base.specs.Callers.{IsCourier, IsClock, caller_count, caller_of}
use Rattle.net_base.specs.Net.{after, moment, owed}
use Rattle.net_base.specs.Next.{by, next_recorded}
use Rattle.net_base.specs.Versions.{Tuples}
use Rattle.grown_laws.specs.Grown.{IsWithinSteps}
use Rattle.script_player.specs.Players.{AreStepsFinished, IsAt, Playing, with_steps}
use Rattle.duties.specs.WaysOf.{AreWaysOfWorld}
use Rattle.net_actors.specs.Together.{AreActors}
use Rattle.plain_runner.specs.Callers.{IsCallerKept, IsScriptAt}
use Rattle.plain_runner.specs.Recording.{IsHistory}
use Rattle.plain_runner.specs.Turns.{AreOwn, asks_of}
use Rattle.plain_runner.specs.declared.caller.Caller.{Caller}
use Rattle.plain_runner.specs.declared.caller.Role.{Role}
use Rattle.plain_runner.specs.declared.caller.Role.TheVariants as role
use Rattle.plain_runner.specs.declared.resting.Resting.{Resting}
use Rattle.plain_runner.specs.declared.resting.RestingCaller.{RestingCaller}
use Rattle.plain_runner.specs.declared.resting.RestingRole.{RestingRole}
use Rattle.plain_runner.specs.declared.resting.RestingRole.TheVariants as resting
use Rattle.plain_runner.specs.declared.turn.Turn.{Turn}

-- the role without the script
abbrev pub resting_role : Role → RestingRole
resting_role (role.Script s p) = resting.Script p
resting_role (role.Courier m) = resting.Courier m
resting_role role.Clock = resting.Clock

-- the caller without its script
abbrev pub resting_caller : Caller → RestingCaller
resting_caller k = record { role = resting_role k.role; owed = k.owed; next = k.next; entries = k.entries; before = k.before }

-- who a caller is, and of a script how far it was played
abbrev pub HasRestingRole : World → List Entry → ℕ → RestingRole → ℕ → Type 0
HasRestingRole w h c (resting.Script p) before = (s : Script) × IsScriptAt w h c s p before
HasRestingRole w h c (resting.Courier m) before = caller_of w c ≡ IsCourier m
HasRestingRole w h c resting.Clock before = caller_of w c ≡ IsClock

-- what a caller records next; a script that has none here can have one
abbrev pub HasRestingNext : World → List Entry → ℕ → RestingRole → Option Turn → Type 0
HasRestingNext w h c (resting.Script p) o = IsSome o → asks_of o ≡ next_recorded w h c
HasRestingNext w h c _ o = asks_of o ≡ next_recorded w h c

-- what is kept of a caller after a history
pub record IsCallerResting (w : World) (h : List Entry) (c : ℕ) (k : RestingCaller) : Type 0 where
  pub role_is : HasRestingRole w h c k.role k.before
  pub next_is : HasRestingNext w h c k.role k.next
  pub own : AreOwn k.next
  pub owes : k.owed.list ≡ owed w h c
  pub entries_is : k.entries ≡ length (by h c)

-- each caller of the world is kept, as it is after the history
pub record AreCallersResting (w : World) (h : List Entry) (ks : List RestingCaller) : Type 0 where
  pub count : length ks ≡ caller_count w
  pub each : (c : ℕ) (k : RestingCaller) → slice_get ks c ≡ Some k → IsCallerResting w h c k

-- so after some history
abbrev pub AreResting : World → List RestingCaller → Type 0
AreResting w ks = (h : List Entry) × AreCallersResting w h ks

-- A run of this world that rests: as `Tracks`, but a script that was finished can have steps again.
pub record Rests (w : World) (r : Resting) : Type 0 where
  pub history : IsHistory w r.history.entries
  pub count_is : r.count ≡ length r.history.entries
  pub callers_are : AreCallersResting w r.history.entries r.callers.items
  pub are : AreActors w r.net (after w r.history.entries).actors
  pub ways_are : AreWaysOfWorld w r.ways
  pub moment_is : r.moment ≡ moment w r.history.entries

-- Resuming.

-- a script that is played is there
abbrev pub HasItsScript : World → ℕ → RestingRole → Type 0
HasItsScript w c (resting.Script p) = (s : Script) × (slice_get w.scripts c ≡ Some s)
HasItsScript w c _ = Unit {0}

-- the caller goes on as this one, after whatever history it rests
abbrev pub Resumes : World → ℕ → RestingCaller → Caller → Type 0
Resumes w c old new = (h : List Entry) → IsCallerResting w h c old → IsCallerKept w h c new

-- Forgetting a step.

-- The steps of script c are finished, and the history has no event of a step that follows them.
pub record IsScriptFinished (w : World) (c : ℕ) (h : List Entry) : Type 0 where
  pub is_script : c < length w.scripts
  pub within : IsWithinSteps w c h
  pub finished : next_recorded w h c ≡ None

-- the player of a script is where the steps before this one leave it
abbrev pub ForgetsStep : Playing → Playing → Type 0
ForgetsStep old new = (zone : Tuples) (s : Script) (later : List Step) (rs : List Reply)
    → IsAt zone (with_steps s later) rs old → AreStepsFinished zone s rs → IsAt zone s rs new

-- so of a caller that plays a script, which has no next event then
abbrev pub ForgetsRole : RestingRole → RestingRole → Option Turn → Type 0
ForgetsRole (resting.Script p) (resting.Script q) o = (o ≡ None) × ForgetsStep p q
ForgetsRole (resting.Script p) _ o = ⊥
ForgetsRole _ _ o = Unit {0}

-- the caller forgot the step of its script
pub record Forgets (old new : RestingCaller) : Type 0 where
  pub role_is : ForgetsRole old.role new.role new.next
  pub owed_stays : new.owed ≡ old.owed
  pub entries_stay : new.entries ≡ old.entries
  pub before_stays : new.before ≡ old.before
