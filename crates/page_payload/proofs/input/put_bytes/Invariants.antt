use Rattle.std.proofs.Common.{◌≡◌, ◌++◌, drop}
use Rattle.std.specs.Prelude.{flat_map}
use Rattle.page_payload.specs.Encoding.{encoded_byte}
use Rattle.page_payload.proofs.input.put_bytes.Given as goal

-- what is written, and what is still to write
abbrev pub invariant-loop-byte : goal.invariant-loop-byte
invariant-loop-byte l = l.out ++ flat_map encoded_byte (drop l.byte-index l.input) ≡ l.initial.out ++ flat_map encoded_byte l.input
