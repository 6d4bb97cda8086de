use Rattle.std.proofs.Common.{◌≡◌, List, ◌++◌, length}
use Rattle.journal.specs.declared.tokens.Volume.{Volume}
use Rattle.journal.specs.declared.tokens.Stamped.{Stamped}
use Rattle.journal.specs.Rule.{IsSeat}
use Rattle.journal.specs.Closing.{Gathered, AreAllOf}
use Rattle.journal.specs.Places.{ArePlaced}
use Rattle.journal.proofs.word.Journal.gather.Given as goal

-- the books that are done have been gathered
abbrev pub invariant-loop-book : goal.invariant-loop-book
invariant-loop-book g l =
    IsSeat g.J.Naming.run.table l.all × (length l.places.items ≡ length l.fn.places.items)
    × ((done : List Volume) × (es : List Stamped) × (l.books.items ++ done ≡ l.fn.books.items) × Gathered l.fn.all.me.0 done l.all.me.0 es
    × AreAllOf es l.lists.items × ArePlaced l.lists.items l.places.items)

abbrev pub decreases-loop-book : goal.decreases-loop-book
decreases-loop-book g l = length l.books.items
