-- The choices of a search without losses: the path of a pass, and which histories are still to come.
--     AreForks     the choices of a path, with what is left in the place of each
--     IsPath       a path with the choice that comes next
--     GoesBack     what is to come after the histories of a path
use Rattle.std.specs.Prelude.{◌≡◌, ℕ, ◌+◌, ◌-◌, ◌≤◌, Bool, true, false, List, [], ◌∷◌, ◌++◌, map, Option, Some, None, option_to_list, slice_get}
use Rattle.net_base.specs.declared.history.Entry.{Entry}
use Rattle.net_base.specs.declared.world.World.{World}
use Rattle.net_base.specs.Stamped.{In}
use Rattle.turn_orders.specs.Paths.{IsLowest, IsNone, ahead, beginning, left, refused_ahead, refused_to_come, to_come}
use Rattle.turn_orders.specs.Preemptions.{cost}
use Rattle.turn_orders.specs.Turns.{comes, with_turn}
use Rattle.order_search.specs.declared.path.Fork.{Fork}
use Rattle.order_search.specs.declared.path.Loss.{Loss}
use Rattle.order_search.specs.declared.path.Loss.TheVariants as loss
use Rattle.order_search.specs.declared.path.Path.{Path}
use Rattle.order_search.specs.Walks.{IsGoer}

-- Choices.

abbrev pub fork_kept : ℕ → Option ℕ → Fork
fork_kept c next = record { caller = c; next = next; loss = loss.Kept }

-- the choices lose no frame, and leave none to lose
abbrev pub IsKept : List Fork → Type 0
IsKept [] = Unit {0}
IsKept (f ∷ fs) = (f.loss ≡ loss.Kept) × IsKept fs

abbrev pub callers_in : List Fork → List ℕ
callers_in fs = map (λ (f : Fork). f.caller) fs

-- the choice at a place is that of this caller
abbrev pub IsForkAt : List Fork → ℕ → ℕ → Type 0
IsForkAt fs place c = (f : Fork) × (slice_get fs place ≡ Some f) × (f.caller ≡ c)

-- the caller of this choice can't continue
abbrev pub NoForkGoes : World → List Entry → ℕ → Option Fork → Type 0
NoForkGoes w h count None = Unit {0}
NoForkGoes w h count (Some f) = IsGoer w h count f.caller → ⊥

-- the callers of a path, with the one that is chosen next
abbrev pub choices : Path → List ℕ
choices path = callers_in path.forks.items ++ option_to_list path.pending

-- What is left in the place of a choice.

-- of p preemptions enough are left for each caller that can continue
abbrev pub IsFree : World → List Entry → ℕ → Type 0
IsFree w h p = (d : ℕ) → In d (comes w h) → cost w h d ≤ p

-- no caller from k on can continue
abbrev pub NobodyFrom : World → List Entry → ℕ → Type 0
NobodyFrom w h k = (d : ℕ) → In d (comes w h) → k ≤ d → ⊥

-- the next caller after caller c; without one, no other can come, or it was refused
abbrev pub IsNextChoice : World → List Entry → ℕ → Bool → ℕ → Option ℕ → Type 0
IsNextChoice w h p refused c None = IsNone w h p (c + 1) × (refused ≡ false → NobodyFrom w h (c + 1))
IsNextChoice w h p refused c (Some d) = IsFree w h p × IsLowest w h p (c + 1) d

-- the choice of a turn after this history, with p preemptions left
pub record IsFork (w : World) (h : List Entry) (p : ℕ) (refused : Bool) (f : Fork) : Type 0 where
  pub there : In f.caller (comes w h)
  pub paid : cost w h f.caller ≤ p
  pub kept : f.loss ≡ loss.Kept
  pub next_is : IsNextChoice w h p refused f.caller f.next

abbrev pub AreForks : World → List Entry → ℕ → Bool → List Fork → Type 0
AreForks w h p refused [] = Unit {0}
AreForks w h p refused (f ∷ fs) = IsFork w h p refused f × AreForks w (with_turn w h f.caller) (p - cost w h f.caller) refused fs

-- the caller that is chosen next can continue
abbrev pub IsPending : World → List Entry → ℕ → Option ℕ → Type 0
IsPending w h p None = Unit {0}
IsPending w h p (Some c) = In c (comes w h) × IsFree w h p

-- a path of the pass with p preemptions
pub record IsPath (w : World) (p : ℕ) (refused : Bool) (path : Path) : Type 0 where
  pub forks : AreForks w [] p refused path.forks.items
  pub pending : IsPending w (beginning w (callers_in path.forks.items)) (left w p (callers_in path.forks.items)) path.pending

-- What is to come.

-- on another path the same is to come, and refused
pub record KeepsToCome (w : World) (p : ℕ) (before : Bool) (old : Path) (refused : Bool) (new : Path) : Type 0 where
  pub to_come_stays : to_come w p (choices new) ≡ to_come w p (choices old)
  pub no_refusal : refused ≡ false → before ≡ false
  pub refusals_stay : refused ≡ false → refused_to_come w p (choices new) ≡ refused_to_come w p (choices old)

-- the histories of the new path are to come after those of the old one
pub record TurnsTo (w : World) (p : ℕ) (refused : Bool) (old new : Path) : Type 0 where
  pub path : IsPath w p refused new
  pub to_come_is : ahead w p (callers_in old.forks.items) ≡ to_come w p (choices new)
  pub refusals_are : refused ≡ false → refused_ahead w p (callers_in old.forks.items) ≡ refused_to_come w p (choices new)

-- nothing is to come after those of the old path
pub record IsFinished (w : World) (p : ℕ) (refused : Bool) (old : Path) : Type 0 where
  pub nothing : ahead w p (callers_in old.forks.items) ≡ []
  pub no_refusal : refused ≡ false → refused_ahead w p (callers_in old.forks.items) ≡ false

abbrev pub GoesBack : World → ℕ → Bool → Path → Path → Bool → Type 0
GoesBack w p refused old new true = TurnsTo w p refused old new
GoesBack w p refused old new false = IsFinished w p refused old
