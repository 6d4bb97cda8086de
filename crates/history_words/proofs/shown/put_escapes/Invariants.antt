use Rattle.std.proofs.Common.{◌≡◌, ◌++◌, drop}
use Rattle.history_words.specs.Shown.{escapes}
use Rattle.history_words.proofs.shown.put_escapes.Given as goal

-- what is written, and what is still to write
abbrev pub invariant-loop-byte : goal.invariant-loop-byte
invariant-loop-byte l = l.out ++ escapes (drop l.byte-index l.text) ≡ l.initial.out ++ escapes l.text
