-- Which callers could record, and for which moments callers and conversations wait.
use Rattle.std.specs.Prelude.{ℕ, ◌||◌, Bool, List, filter_map, map}
use Rattle.net_base.specs.declared.history.Entry.{Entry}
use Rattle.net_base.specs.declared.world.World.{World}
use Rattle.duties.specs.declared.due.Due.{Due}
use Rattle.net_base.specs.Calm.{awaited_moment, callers, can_go_on, owes}
use Rattle.net_base.specs.Net.{after}
use Rattle.net_base.specs.Next.{next_recorded}

-- a caller could record, if it had room; a move of the clock aside
abbrev pub could_go : World → List Entry → ℕ → Bool
could_go w h c = owes (after w h) c || can_go_on w (after w h) c

-- the moments for which callers wait
abbrev pub awaited_moments : World → List Entry → List ℕ
awaited_moments w h = filter_map (λ (c : ℕ). awaited_moment (next_recorded w h c)) (callers w)

-- the moments at which these are due
abbrev pub due_moments : List Due → List ℕ
due_moments dues = map (λ (d : Due). d.due) dues
