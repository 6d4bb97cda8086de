use Rattle.std.proofs.Common.{◌≡◌, ◌++◌, drop}
use Rattle.std.specs.Prelude.{flat_map}
use Rattle.packet_rows.specs.PacketRows.{packet_line}
use Rattle.packet_rows.proofs.text.put_rows.Given as goal

-- what is written, and what is still to write
abbrev pub invariant-loop-row : goal.invariant-loop-row
invariant-loop-row l = l.out ++ flat_map (packet_line l.history l.facts) (drop l.row-index l.rows) ≡ l.initial.out ++ flat_map (packet_line l.history l.facts) l.rows
