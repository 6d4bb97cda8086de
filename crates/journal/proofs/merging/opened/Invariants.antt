use Rattle.std.proofs.Common.{◌≡◌, ◌++◌, length, map}
use Rattle.std.specs.Vec.Iter.{into_iter_items, into_iter_len}
use Rattle.journal.proofs.merging.opened.Given as goal

-- the lists that are open, and those behind them
abbrev pub invariant-loop-list : goal.invariant-loop-list
invariant-loop-list l = record {
  all : map into_iter_items l.all.items ++ into_iter_items l.list-iterator ≡ l.fn.lists.items;
  long : into_iter_len l.list-iterator ≡ length (into_iter_items l.list-iterator);
}
