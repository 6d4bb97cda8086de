use Rattle.std.proofs.Common.{◌≡◌, false, ◌==◌, take}
use Rattle.std.specs.List.{All}
use Rattle.words.proofs.parts.split_first.Given as goal

abbrev pub invariant-loop-i : goal.invariant-loop-i
invariant-loop-i l = All (λ byte. (byte == l.separator) ≡ false) (take l.i l.text)
