use Rattle.std.proofs.Common.{◌≡◌, ◌++◌, map, reverse, length}
use Rattle.journal.specs.declared.tokens.Volume.{Volume}
use Rattle.net_locks.specs.Rosters.{AreUnused}
use Rattle.net_locks.proofs.locks.locks_of.Given as goal

-- the locks so far are those of the first books
abbrev pub invariant-loop-book : goal.invariant-loop-book
invariant-loop-book g l =
    (map (λ q. q.actor) l.locks.items ++ map (λ (b : Volume). b.actor) (reverse l.books.items) ≡ map (λ (b : Volume). b.actor) l.fn.books.items) × AreUnused l.books.items

abbrev pub decreases-loop-book : goal.decreases-loop-book
decreases-loop-book g l = length l.books.items
