-- Whether a caller could record an entry more, and whether it is full.
use Rattle.std.specs.Prelude.{ℕ, ◌==◌, ◌||◌, Bool, length}
use Rattle.net_base.specs.declared.world.World.{World}
use Rattle.net_base.specs.Calm.{can_go_on_by, most_entries, owes}
use Rattle.net_base.specs.Net.{Net}
use Rattle.net_base.specs.Next.{by}
use Rattle.net_base.specs.Tasks.{Tasks}

-- it owes a duty, or its next event is ready; a move of the clock aside
abbrev pub could : Tasks → World → Net → ℕ → Bool
could ts w net c = owes net c || can_go_on_by ts w net c

-- it has recorded the most entries that a caller may
abbrev pub is_full : Net → ℕ → Bool
is_full net c = length (by net.past c) == most_entries
