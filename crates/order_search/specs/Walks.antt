-- A run as far as a search has played it.
use Rattle.std.specs.Prelude.{◌≡◌, ℕ, ◌+◌, ◌<◌, ◌≤◌, ◌++◌, Bool, true, false, List, [], ◌∷◌, length, Option, Some, None, slice_get}
use Rattle.net_base.specs.declared.history.Entry.{Entry}
use Rattle.net_base.specs.declared.world.World.{World}
use Rattle.net_base.specs.Net.{after}
use Rattle.plain_runner.specs.Tracks.{Tracks}
use Rattle.turn_orders.specs.Preemptions.{last_caller, preemptions}
use Rattle.turn_orders.specs.Turns.{IsEnded, goes}
use Rattle.order_search.specs.declared.walk.Walk.{Walk}
use Rattle.order_search.specs.Marks.{AreMarks}

-- one of n callers that can continue
pub record IsGoer (w : World) (h : List Entry) (count c : ℕ) : Type 0 where
  pub known : c < count
  pub can : goes w (after w h) c ≡ true

-- none of the callers from one to another can continue
abbrev pub NobodyGoes : World → List Entry → ℕ → ℕ → Type 0
NobodyGoes w h from to = (c : ℕ) → from ≤ c → c < to → goes w (after w h) c ≡ false

-- the lowest caller from a number on that can continue
pub record IsLowestGoer (w : World) (h : List Entry) (count from c : ℕ) : Type 0 where
  pub goer : IsGoer w h count c
  pub from_is : from ≤ c
  pub lower : NobodyGoes w h from c

abbrev pub NextGoes : World → List Entry → ℕ → ℕ → Option ℕ → Type 0
NextGoes w h count from None = NobodyGoes w h from count
NextGoes w h count from (Some c) = IsLowestGoer w h count from c

-- no other caller can continue
abbrev pub GoesAlone : World → List Entry → ℕ → ℕ → Type 0
GoesAlone w h count last = (c : ℕ) → c < count → goes w (after w h) c ≡ true → c ≡ last

-- the last caller, if no preemption is left
pub record IsBound (w : World) (h : List Entry) (most last : ℕ) : Type 0 where
  pub last_is : last_caller h ≡ Some last
  pub spent : most ≤ preemptions w h

-- a caller that can't continue, if it is one
abbrev pub NoneGoes : World → List Entry → ℕ → Option ℕ → Type 0
NoneGoes w h count None = Unit {0}
NoneGoes w h count (Some c) = IsGoer w h count c → ⊥

-- a run with its entries, the caller of the last one, and its preemptions
pub record IsWalk (w : World) (walk : Walk) : Type 0 where
  pub tracks : Tracks w walk.runner
  pub history_is : walk.history ≡ walk.runner.history.entries
  pub last_is : last_caller walk.runner.history.entries ≡ walk.last
  pub count_is : preemptions w walk.runner.history.entries ≡ walk.preemptions
  pub few : walk.preemptions ≤ length walk.runner.history.entries
  pub known : (c : ℕ) → walk.last ≡ Some c → c < length walk.runner.callers.items
  pub marks : AreMarks w walk.runner.history.entries walk.marks

-- the run has one entry more, of this caller
pub record WalksOn (old new : Walk) (c : ℕ) : Type 0 where
  pub entry : Entry
  pub history_is : new.runner.history.entries ≡ old.runner.history.entries ++ entry ∷ []
  pub caller_is : entry.caller ≡ c

-- which has ended, if it was played to its end
pub record IsPlayed (w : World) (walk : Walk) (ended : Bool) : Type 0 where
  pub is : IsWalk w walk
  pub at_end : ended ≡ true → IsEnded w walk.runner.history.entries
