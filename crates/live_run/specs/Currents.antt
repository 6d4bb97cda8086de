-- The current steps of places, as a list by the numbers of the scripts.
use Rattle.std.specs.Prelude.{◌≡◌, ℕ, List, [], length, Option, Some, None, slice_get, slice_set}
use Rattle.net_base.specs.declared.history.Entry.{Entry}
use Rattle.live_answers.specs.declared.current.Current.{Current}
use Rattle.live_answers.specs.Steps.{IsNoted}

-- no script of this number of scripts has one
pub record AllNone (n : ℕ) (currents : List (Option Current)) : Type 0 where
  pub count : length currents ≡ n
  pub none : (c : ℕ) (o : Option Current) → slice_get currents c ≡ Some o → o ≡ None

-- script c has none
abbrev pub HasNone : List (Option Current) → ℕ → Type 0
HasNone currents c = (o : Option Current) → slice_get currents c ≡ Some o → o ≡ None

-- script c has one, which has no entry
pub record IsUnheard (currents : List (Option Current)) (c : ℕ) : Type 0 where
  pub step : Current
  pub is : slice_get currents c ≡ Some (Some step)
  pub none : step.stamps.items ≡ []

-- the one of script c changes so, if the list has it, and no other
pub data ChangesAt (old new : List (Option Current)) (c : ℕ) (R : Option Current → Option Current → Type 0) : Type 0 where
  Here : (o p : Option Current) → slice_get old c ≡ Some o → new ≡ slice_set old c p → R o p → ChangesAt old new c R
  Outside : slice_get old c ≡ None → new ≡ old → ChangesAt old new c R

-- after an entry with this stamp
abbrev pub IsNotedIn : ℕ → Entry → Option Current → Option Current → Type 0
IsNotedIn k x None new = new ≡ None
IsNotedIn k x (Some old) None = ⊥
IsNotedIn k x (Some old) (Some new) = IsNoted k x old new

-- the one of script c was taken, if the list has it
pub data TakesAt (old new : List (Option Current)) (c : ℕ) (taken : Option Current) : Type 0 where
  Taken : slice_get old c ≡ Some taken → new ≡ slice_set old c None → TakesAt old new c taken
  NoOne : slice_get old c ≡ None → new ≡ old → taken ≡ None → TakesAt old new c taken

-- `until` replaces the step
abbrev pub IsReplaced : Option Current → Option Current → Type 0
IsReplaced None new = new ≡ None
IsReplaced (Some old) None = ⊥
IsReplaced (Some old) (Some new) = (new.number ≡ old.number) × (new.stamps ≡ old.stamps)
