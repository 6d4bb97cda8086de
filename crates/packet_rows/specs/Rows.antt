-- The rows: a packet that is put on a link, and one that a host drops, because it has no way or because the ttl is used up.
use Rattle.std.specs.Prelude.{ℕ, Option, Some, None, nat_le, if◌then◌else◌, List}
use Rattle.net_base.specs.declared.history.Entry.{Entry}
use Rattle.net_base.specs.declared.world.World.{World}
use Rattle.net_base.specs.Routes.{Way, has_address, way}
use Rattle.packet_rows.specs.declared.deed.Deed.{Deed}
use Rattle.packet_rows.specs.declared.deed.Deed.TheVariants.{Put, Took, Sent, Nothing}
use Rattle.packet_rows.specs.declared.deed.Fate.{Fate}
use Rattle.packet_rows.specs.declared.deed.Fate.TheVariants as fate
use Rattle.packet_rows.specs.declared.frame.LaidPacket.{LaidPacket}
use Rattle.packet_rows.specs.declared.frame.Passage.{Passage}
use Rattle.packet_rows.specs.declared.row.Row.{Row}
use Rattle.packet_rows.specs.Deeds.{deed_of}
use Rattle.packet_rows.specs.Passages.{Packets, packet_in, passage_of}

abbrev pub put_row : ℕ → ℕ → Option ℕ → Fate → Option Passage → Option Row
put_row s m to f None = None
put_row s m to f (Some p) = Some (record { stamp = s; fate = f; medium = Some m; to = to; passage = p })

-- without a way the packet is dropped
abbrev pub fate_of_way : Option Way → Option Fate
fate_of_way None = Some fate.NoRoute
fate_of_way (Some out) = None

abbrev pub fate_by_way : World → ℕ → ℕ → Option Fate
fate_by_way w host ip = fate_of_way (way w host ip)

-- a packet that came to its host isn't; another one is at ttl 1 or less, or without a way
abbrev pub fate_at_station : World → LaidPacket → Option Fate
fate_at_station w f =
    if has_address w f.to f.passage.header.dst.ip
    then None
    else (if nat_le f.passage.header.ttl 1 then Some fate.NoTtl else fate_by_way w f.to f.passage.header.dst.ip)

abbrev pub dropped_row : ℕ → Option Fate → Passage → Option Row
dropped_row s None p = None
dropped_row s (Some f) p = Some (record { stamp = s; fate = f; medium = None; to = None; passage = p })

abbrev pub held_packet : LaidPacket → Passage
held_packet f = record { by = f.passage.by; header = f.passage.header; from = f.to }

abbrev pub row_at_station : World → ℕ → Option LaidPacket → Option Row
row_at_station w s None = None
row_at_station w s (Some f) = dropped_row s (fate_at_station w f) (held_packet f)

abbrev pub row_by : World → List Entry → Packets → ℕ → Option ℕ → Deed → Option Row
row_by w h frames s cites (Put m to f) = put_row s m to f (passage_of h frames cites)
row_by w h frames s cites (Took m k) = row_at_station w s (packet_in frames (m, k))
row_by w h frames s cites (Sent host header) =
    dropped_row s (fate_by_way w host header.dst.ip) (record { by = s; header = header; from = host })
row_by w h frames s cites Nothing = None

-- the row of the entry with this stamp, if it has one
abbrev pub row_of : World → List Entry → Packets → ℕ → Entry → Option Row
row_of w h frames s x = row_by w h frames s x.cites (deed_of x)

-- the frame in which its packet lies
abbrev pub frame_in : Option ℕ → Fate → Option (ℕ × ℕ)
frame_in (Some m) (fate.Laid k) = Some (m, k)
frame_in None (fate.Laid k) = None
frame_in m fate.TooBig = None
frame_in m fate.NoStation = None
frame_in m fate.NoRoute = None
frame_in m fate.NoTtl = None

abbrev pub frame_of : Row → Option (ℕ × ℕ)
frame_of r = frame_in r.medium r.fate
