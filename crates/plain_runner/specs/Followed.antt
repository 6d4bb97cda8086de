-- A run that follows a history.
use Rattle.std.specs.Prelude.{◌≡◌, ℕ, List, [], ◌∷◌, ◌++◌}
use Rattle.net_base.specs.declared.event.Event.{Event}
use Rattle.net_base.specs.declared.history.Entry.{Entry}
use Rattle.net_base.specs.declared.world.World.{World}
use Rattle.net_base.specs.Legal.{IsInTime, MayFollow}
use Rattle.net_base.specs.Net.{after}
use Rattle.plain_runner.specs.Tracks.{Tracks}
use Rattle.plain_runner.specs.declared.runner.Runner.{Runner}

-- the run recorded these entries
pub record Followed (w : World) (h : List Entry) (r : Runner) : Type 0 where
  pub tracks : Tracks w r
  pub history_is : r.history.entries ≡ h

-- the entry may come next in a run of this world, and in time
pub record FollowsRun (w : World) (r : Runner) (x : Entry) : Type 0 where
  pub tracks : Tracks w r
  pub may : MayFollow w r.history.entries x
  pub in_time : IsInTime (after w r.history.entries) w x.event

-- an entry with this event of this caller
pub record IsOf (x : Entry) (c : ℕ) (e : Event) : Type 0 where
  pub caller_is : x.caller ≡ c
  pub event_is : x.event ≡ e

-- such an entry may come next in some world
pub record MayFollowOn (r : Runner) (c : ℕ) (e : Event) : Type 0 where
  pub world : World
  pub entry : Entry
  pub is : IsOf entry c e
  pub follows : FollowsRun world r entry

-- the run recorded this entry, too, and gave it
pub record GoesOnWith (w : World) (old new : Runner) (x given : Entry) : Type 0 where
  pub followed : Followed w (old.history.entries ++ x ∷ []) new
  pub same : given ≡ x

-- so with the entry of this event of this caller that may come next
abbrev pub FollowedBy : Runner → Runner → ℕ → Event → Entry → Type 0
FollowedBy old new c e given = (w : World) (x : Entry) → IsOf x c e → FollowsRun w old x → GoesOnWith w old new x given
