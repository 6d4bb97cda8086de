use Rattle.std.proofs.Common.{◌≡◌, ◌++◌, drop}
use Rattle.net_base.specs.Hexadecimal.{hex_digits}
use Rattle.words.proofs.hexadecimal.put_last_bytes.Given as goal

-- what is written, and what is still to write
abbrev pub invariant-loop-byte : goal.invariant-loop-byte
invariant-loop-byte l = l.out ++ hex_digits (drop l.byte-index l.bytes) ≡ l.initial.out ++ hex_digits l.bytes
