use Rattle.std.proofs.Common.{◌≡◌, List, length}
use Rattle.journal.specs.declared.tokens.Stamped.{Stamped}
use Rattle.journal.specs.Places.{ArePlaced}
use Rattle.journal.proofs.Placing.{PlacedSo}
use Rattle.journal.proofs.places.note.Given as goal

-- the entries so far are placed
abbrev pub invariant-loop-at : goal.invariant-loop-at
invariant-loop-at l = record {
  long : length l.places.items ≡ length l.fn.places.items;
  placed : (ls : List (List Stamped)) → length ls ≡ l.list → ArePlaced ls l.fn.places.items → PlacedSo ls l.entries l.at l.places.items;
}
