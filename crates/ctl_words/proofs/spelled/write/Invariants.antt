use Rattle.std.proofs.Common.{◌≡◌, ◌++◌, take, drop, length}
use Rattle.ctl_words.specs.Written.{written}
use Rattle.ctl_words.proofs.spelled.write.Given as goal

abbrev pub invariant-loop-piece : goal.invariant-loop-piece
invariant-loop-piece l = record {
  at : l.at ≡ length (written (take l.piece-index l.pieces));
  text : l.out ≡ written (take l.piece-index l.pieces) ++ drop l.at l.initial.out;
}
