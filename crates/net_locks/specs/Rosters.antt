-- The callers and actors of a world, as the roster of its journal has them.
use Rattle.std.specs.Prelude.{◌≡◌, ℕ, true, List, [], ◌∷◌, length, Some, slice_get}
use Rattle.net_base.specs.declared.actor.ActorName.{ActorName}
use Rattle.net_base.specs.declared.world.World.{World}
use Rattle.net_base.specs.Actors.{has_actor}
use Rattle.net_base.specs.Callers.{caller_count}
use Rattle.net_base.specs.declared.noted.Noted.{Noted}
use Rattle.net_base.specs.Stamped.{In}
use Rattle.locked.specs.Acts.{Replays}
use Rattle.net_locks.specs.Named.{answer_in, named_opening}
use Rattle.ip_route.specs.Kept.{HostWays}
use Rattle.journal.specs.declared.law.Roster.{Roster}
use Rattle.journal.specs.declared.tokens.Volume.{Volume}
use Rattle.duties.specs.WaysOf.{AreWaysOfWorld}
use Rattle.net_actors.specs.Numbers.{count_in, number_in_world}

-- the first n actors of the world, each at its number
pub record AreNumbered (w : World) (n : ℕ) (actors : List ActorName) : Type 0 where
  pub many : length actors ≡ n
  pub each : (k : ℕ) (a : ActorName) → slice_get actors k ≡ Some a → (has_actor w a ≡ true) × (number_in_world w a ≡ k)

-- all callers of the world, and all actors in the order of their numbers
pub record IsRosterOf (w : World) (r : Roster) : Type 0 where
  pub callers_are : r.callers ≡ caller_count w
  pub actors_are : AreNumbered w (count_in w) r.actors

-- how many hosts and media the world has, its ways, and its actors behind their locks
pub record IsNetOf (w : World) (r : Roster) (hosts media : ℕ) (ways : List HostWays) (actors : List ActorName) : Type 0 where
  pub hosts_are : hosts ≡ length w.hosts
  pub media_are : media ≡ length w.media
  pub ways_are : AreWaysOfWorld w ways
  pub roster : IsRosterOf w r
  pub actors_are : actors ≡ r.actors

-- books without entries
abbrev pub AreUnused : List Volume → Type 0
AreUnused [] = Unit {0}
AreUnused (b ∷ bs) = (b.list ≡ []) × AreUnused bs

-- each of these entries was a step of the actor, in the state to which those before it led
abbrev pub IsReplayed : World → ActorName → List (ℕ × Noted) → Type 0
IsReplayed w a list = Replays (named_opening w) (answer_in w) (named_opening w a) list

-- each of these books is so
abbrev pub AreReplayed : World → List Volume → Type 0
AreReplayed w bs = (b : Volume) → In b bs → IsReplayed w b.actor b.list
