use Rattle.std.proofs.Common.{◌≡◌, ◌-◌, ◌≤◌, List, length, map, take}
use Rattle.std.specs.Vec.Iter.{into_iter_items}
use Rattle.net_base.specs.declared.history.Entry.{Entry}
use Rattle.journal.specs.Closing.{AreAt}
use Rattle.journal.proofs.merging.merge.Given as goal

-- the history so far is the beginning of each log that has the entries at their stamps, and so has what is left
abbrev pub invariant-loop-history : goal.invariant-loop-history
invariant-loop-history l =
    (length l.history.items ≤ length l.places)
    × ((log : List Entry) → AreAt log (map into_iter_items l.fn.lists.items)
    → (l.history.items ≡ take (length l.history.items) log) × AreAt log (map into_iter_items l.lists.items))

abbrev pub decreases-loop-history : goal.decreases-loop-history
decreases-loop-history l = length l.places - length l.history.items
