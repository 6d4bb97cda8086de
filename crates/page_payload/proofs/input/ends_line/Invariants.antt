use Rattle.std.proofs.Common.{◌≡◌, true, drop}
use Rattle.page_payload.specs.Encoding.{ends_line}
use Rattle.page_payload.proofs.input.ends_line.Given as goal

-- what is still to see
abbrev pub invariant-loop-byte : goal.invariant-loop-byte
invariant-loop-byte l = ends_line l.ended (drop l.byte-index l.input) ≡ ends_line true l.input
