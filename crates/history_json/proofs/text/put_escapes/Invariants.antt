use Rattle.std.proofs.Common.{◌≡◌, ◌++◌, drop}
use Rattle.history_json.specs.Members.{escapes}
use Rattle.history_json.proofs.text.put_escapes.Given as goal

-- what is written, and what is still to write
abbrev pub invariant-loop-byte : goal.invariant-loop-byte
invariant-loop-byte l = l.out ++ escapes (drop l.byte-index l.text) ≡ l.initial.out ++ escapes l.text
