use Rattle.std.proofs.Common.{ℕ, ◌≡◌, ◌≤◌, length}
use Rattle.std.specs.Vec.Iter.{into_iter_items, into_iter_len}
use Rattle.net_base.specs.Next.{zone_of}
use Rattle.agenda.specs.Given.{task_at}
use Rattle.agenda.proofs.Dealing.{Dealing}
use Rattle.agenda.proofs.tasks.players_of.Given as goal

-- the tasks of the guests that are left are there still
abbrev pub invariant-loop-guest : goal.invariant-loop-guest
invariant-loop-guest g l =
    Dealing (zone_of g.J.Placing.world) (length l.fn.guests.items) l.players.callers (into_iter_items l.guest-iterator) (into_iter_len l.guest-iterator)
    × ((c : ℕ) → l.players.callers ≤ c → task_at l.tasks.items c ≡ task_at l.fn.tasks.items c)
