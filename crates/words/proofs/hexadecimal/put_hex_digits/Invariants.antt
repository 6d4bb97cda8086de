use Rattle.std.proofs.Common.{◌≡◌, ◌++◌, length}
use Rattle.net_base.specs.Hexadecimal.{hex_digits}
use Rattle.words.proofs.hexadecimal.put_hex_digits.Given as goal

-- what is written, and what is still to write
abbrev pub invariant-loop-rest : goal.invariant-loop-rest
invariant-loop-rest l = l.out ++ hex_digits l.rest ≡ l.initial.out ++ hex_digits l.bytes

abbrev pub decreases-loop-rest : goal.decreases-loop-rest
decreases-loop-rest l = length l.rest
