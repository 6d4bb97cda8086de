-- What a run stands for as far as it has come.
use Rattle.std.specs.Prelude.{◌≡◌, ℕ, ◌<◌, ◌++◌, List, [], ◌∷◌, length, true, Some, slice_get}
use Rattle.net_base.specs.declared.history.Entry.{Entry}
use Rattle.net_base.specs.declared.world.World.{World}
use Rattle.net_base.specs.Callers.{caller_count}
use Rattle.net_base.specs.Calm.{most_entries}
use Rattle.net_base.specs.Net.{after, moment}
use Rattle.net_base.specs.Next.{by}
use Rattle.duties.specs.WaysOf.{AreWaysOfWorld}
use Rattle.net_actors.specs.Together.{AreActors}
use Rattle.plain_runner.specs.Callers.{IsCallerKept, IsTurning}
use Rattle.plain_runner.specs.Recording.{IsHistory}
use Rattle.plain_runner.specs.Turns.{IsReadyTurn, may_turn}
use Rattle.plain_runner.specs.declared.turn.Turn.{Turn}
use Rattle.plain_runner.specs.declared.caller.Caller.{Caller}
use Rattle.plain_runner.specs.declared.runner.Runner.{Runner}

-- each caller of the world is kept, as it is after the history
pub record AreCallers (w : World) (h : List Entry) (ks : List Caller) : Type 0 where
  pub count : length ks ≡ caller_count w
  pub each : (c : ℕ) (k : Caller) → slice_get ks c ≡ Some k → IsCallerKept w h c k

-- a run of this world
pub record Tracks (w : World) (r : Runner) : Type 0 where
  pub history : IsHistory w r.history.entries
  pub count_is : r.count ≡ length r.history.entries
  pub callers_are : AreCallers w r.history.entries r.callers.items
  pub are : AreActors w r.net (after w r.history.entries).actors
  pub ways_are : AreWaysOfWorld w r.ways
  pub moment_is : r.moment ≡ moment w r.history.entries

-- a run of some world
abbrev pub IsRunOfWorld : Runner → Type 0
IsRunOfWorld r = (w : World) × Tracks w r

-- this entry of the turn was recorded
pub record RecordedSo (w : World) (old new : Runner) (c : ℕ) (t : Turn) (x : Entry) : Type 0 where
  pub tracks : Tracks w new
  pub history_is : new.history.entries ≡ old.history.entries ++ x ∷ []
  pub caller_is : x.caller ≡ c
  pub actor_is : x.actor ≡ t.actor
  pub event_is : x.event ≡ t.work.event

-- this entry of the caller was recorded
pub record Grows (w : World) (old new : Runner) (c : ℕ) (x : Entry) : Type 0 where
  pub tracks : Tracks w new
  pub history_is : new.history.entries ≡ old.history.entries ++ x ∷ []
  pub caller_is : x.caller ≡ c

-- the caller has room, and what it owes first is ready, or its next event
pub record IsCallerReady (w : World) (r : Runner) (c : ℕ) : Type 0 where
  pub room : length (by r.history.entries c) < most_entries
  pub ready : may_turn w r.history.entries c ≡ true

-- so in some world
abbrev pub IsReadyRun : Runner → ℕ → Type 0
IsReadyRun r c = (w : World) × Tracks w r × IsCallerReady w r c

-- a run of this world while the turn of a caller, which is ready, is recorded: it was taken from what is kept of it
pub record IsBefore (w : World) (r : Runner) (c : ℕ) (t : Turn) : Type 0 where
  pub history : IsHistory w r.history.entries
  pub count_is : r.count ≡ length r.history.entries
  pub count : length r.callers.items ≡ caller_count w
  pub others : (d : ℕ) (k : Caller) → (c ≡ d → ⊥) → slice_get r.callers.items d ≡ Some k → IsCallerKept w r.history.entries d k
  pub turning : (k : Caller) → slice_get r.callers.items c ≡ Some k → IsTurning w r.history.entries c t.cites k
  pub ready : IsReadyTurn w r.history.entries c t
  pub are : AreActors w r.net (after w r.history.entries).actors
  pub ways_are : AreWaysOfWorld w r.ways
  pub moment_is : r.moment ≡ moment w r.history.entries

-- so of some world
abbrev pub MayRecordTurn : Runner → ℕ → Turn → Type 0
MayRecordTurn r c t = (w : World) × IsBefore w r c t

-- the entry of the turn was recorded
abbrev pub Recording : Runner → Runner → ℕ → Turn → Entry → Type 0
Recording old new c t x = (w : World) → IsBefore w old c t → RecordedSo w old new c t x
