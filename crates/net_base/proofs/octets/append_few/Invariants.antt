use Rattle.std.proofs.Common.{◌≡◌, ◌++◌, ◌+◌, ◌≤◌, length, drop, vec_len, vec_capacity}
use Rattle.net_base.proofs.octets.append_few.Given as goal

-- what is added and what is left, for which there is room
abbrev pub invariant-loop-byte : goal.invariant-loop-byte
invariant-loop-byte l = record {
  added : l.to.items ++ drop l.byte-index l.bytes ≡ l.initial.to.items ++ l.bytes;
  has_room : vec_len l.to + length (drop l.byte-index l.bytes) ≤ vec_capacity l.to;
}
