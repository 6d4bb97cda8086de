use Rattle.std.proofs.Common.{◌≡◌, ◌++◌, drop}
use Rattle.netexplore.specs.Lines.{tellings_text}
use Rattle.netexplore.proofs.lines.put_tellings.Given as goal

abbrev pub invariant-loop-number : goal.invariant-loop-number
invariant-loop-number l = l.out ++ tellings_text l.lines l.number (drop l.number l.told) ≡ l.initial.out ++ tellings_text l.lines 0 l.told
