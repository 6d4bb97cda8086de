use Rattle.std.proofs.Common.{◌≡◌, ◌++◌, map, reverse, length}
use Rattle.journal.specs.declared.tokens.Volume.{Volume}
use Rattle.net_locks.specs.Rosters.{AreReplayed}
use Rattle.net_locks.proofs.finishing.books_of.Given as goal

-- the books so far are those of the first locks
abbrev pub invariant-loop-lock : goal.invariant-loop-lock
invariant-loop-lock g l =
    (map (λ (b : Volume). b.actor) l.books.items ++ map (λ q. q.actor) (reverse l.locks.items) ≡ map (λ q. q.actor) l.fn.locks.items)
    × AreReplayed g.J.Placing.world l.books.items

abbrev pub decreases-loop-lock : goal.decreases-loop-lock
decreases-loop-lock g l = length l.locks.items
