use Rattle.std.proofs.Common.{◌≡◌, ◌+◌, ◌≤◌, ◌++◌, length}
use Rattle.il_machine.specs.InTurn.{in_turn}
use Rattle.il_machine.specs.Windows.{AreWithin}
use Rattle.il_machine.proofs.in_turn.come_in_turn.Given as goal

abbrev pub invariant-loop-text : goal.invariant-loop-text
invariant-loop-text l = record {
  texts : l.unread.texts ++ (in_turn (length l.early) l.last l.early).texts ≡ l.fn.unread.texts ++ (in_turn (length l.fn.early) l.fn.got l.fn.early).texts;
  offset : l.unread.offset ≡ l.fn.unread.offset;
  left : (in_turn (length l.early) l.last l.early).early ≡ (in_turn (length l.fn.early) l.fn.got l.fn.early).early;
  got : l.last + length (in_turn (length l.early) l.last l.early).texts ≡ l.fn.got + length (in_turn (length l.fn.early) l.fn.got l.fn.early).texts;
  near : AreWithin l.last (l.last + 20) l.early;
  room : length l.unread.texts + length l.early ≤ 64;
  few : l.last + length l.early ≡ l.fn.got + length l.fn.early;
}

abbrev pub decreases-loop-text : goal.decreases-loop-text
decreases-loop-text l = length l.early
