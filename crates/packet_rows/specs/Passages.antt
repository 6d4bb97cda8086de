-- Packets on their way: by which entry they were emitted, what their header says, and which host sends them.
use Rattle.std.specs.Prelude.{ℕ, ◌-◌, ◌==◌, ◌&&◌, Bool, List, Option, Some, None, slice_get}
use Rattle.std.specs.Map.{lookup}
use Rattle.net_base.specs.declared.history.Entry.{Entry}
use Rattle.packet_rows.specs.declared.deed.Deed.{Deed}
use Rattle.packet_rows.specs.declared.deed.Deed.TheVariants.{Put, Took, Sent, Nothing}
use Rattle.packet_rows.specs.declared.frame.LaidPacket.{LaidPacket}
use Rattle.packet_rows.specs.declared.frame.Passage.{Passage}
use Rattle.packet_rows.specs.Deeds.{deed_of}

-- two numbers, such as the link of a frame and its number there
abbrev pub same_two : ℕ × ℕ → ℕ × ℕ → Bool
same_two a b = (a.0 == b.0) && (a.1 == b.1)

-- the packets in frames
abbrev pub Packets : Type 0
Packets = List ((ℕ × ℕ) × LaidPacket)

abbrev pub packet_in : Packets → ℕ × ℕ → Option LaidPacket
packet_in frames key = lookup (same_two key) frames

-- the station sends it on, with a lower ttl
abbrev pub passage_on : LaidPacket → Passage
passage_on f = record { by = f.passage.by; header = record f.passage.header { ttl = f.passage.header.ttl - 1 }; from = f.to }

abbrev pub passed_packet : Option LaidPacket → Option Passage
passed_packet None = None
passed_packet (Some f) = Some (passage_on f)

-- the packet that is given by the entry of this stamp, which did this
abbrev pub passage_by : Packets → ℕ → Deed → Option Passage
passage_by frames s (Sent h header) = Some (record { by = s; header = header; from = h })
passage_by frames s (Took m k) = passed_packet (packet_in frames (m, k))
passage_by frames s (Put m to fate) = None
passage_by frames s Nothing = None

abbrev pub passage_from : Packets → ℕ → Option Entry → Option Passage
passage_from frames s None = None
passage_from frames s (Some y) = passage_by frames s (deed_of y)

-- the packet that was given to an entry, which this one caused
abbrev pub passage_of : List Entry → Packets → Option ℕ → Option Passage
passage_of h frames None = None
passage_of h frames (Some s) = passage_from frames s (slice_get h s)
