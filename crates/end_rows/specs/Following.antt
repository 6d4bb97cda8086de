-- The row that an entry adds where a run follows a history.
use Rattle.std.specs.Prelude.{◌≡◌, ℕ, List, [], ◌∷◌, ◌++◌}
use Rattle.net_base.specs.declared.history.Entry.{Entry}
use Rattle.net_base.specs.declared.world.World.{World}
use Rattle.net_base.specs.Net.{after}
use Rattle.plain_runner.specs.Followed.{Followed, FollowsRun}
use Rattle.plain_runner.specs.declared.runner.Runner.{Runner}
use Rattle.end_rows.specs.Ends.{CountedEnds}
use Rattle.end_rows.specs.EndRows.{ends_after, row_of}

-- the entry may come next in a run of some world
abbrev pub CanComeNext : Runner → Entry → Type 0
CanComeNext r x = (w : World) × FollowsRun w r x

-- the run followed it, and its row was added
pub record AddsRowIn (w : World) (old new : Runner) (ends later : CountedEnds) (s : ℕ) (x : Entry) (before out : List ℕ) : Type 0 where
  pub followed : Followed w (old.history.entries ++ x ∷ []) new
  pub ends_are : later ≡ ends_after (after w old.history.entries) ends x
  pub row : out ≡ before ++ row_of w (after w old.history.entries) ends s x

abbrev pub AddsRow : Runner → Runner → CountedEnds → CountedEnds → ℕ → Entry → List ℕ → List ℕ → Type 0
AddsRow old new ends later s x before out = (w : World) → FollowsRun w old x → AddsRowIn w old new ends later s x before out
