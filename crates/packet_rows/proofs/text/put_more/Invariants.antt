use Rattle.std.proofs.Common.{◌≡◌, ◌++◌, drop}
use Rattle.std.specs.Prelude.{flat_map}
use Rattle.packet_rows.specs.PacketRows.{more_stamp}
use Rattle.packet_rows.proofs.text.put_more.Given as goal

-- what is written, and what is still to write
abbrev pub invariant-loop-stamp : goal.invariant-loop-stamp
invariant-loop-stamp l = l.out ++ flat_map more_stamp (drop l.stamp-index l.stamps) ≡ l.initial.out ++ flat_map more_stamp l.stamps
