-- How a reader finds packets: it goes from block to block by the lengths that they begin with.
use Rattle.std.specs.Prelude.{◌≡◌, ℕ, zero, suc, ◌+◌, ◌*◌, ◌^◌, ◌==◌, List, [], ◌∷◌, drop, flat_map, length, map, take, if◌then◌else◌}
use Rattle.byteorder.specs.Endian.{little_from}
use Rattle.net_base.specs.declared.history.Entry.{Entry}
use Rattle.net_base.specs.declared.world.World.{World}
use Rattle.formats.specs.Datagram.{packet_spelling}
use Rattle.replay_views.specs.Capture.{Frame, frames}

-- the number in the 4 bytes after this many
abbrev pub number_behind : ℕ → List ℕ → ℕ
number_behind n bytes = little_from 0 4 (drop n bytes)

-- at most this number of blocks, one after the other
abbrev pub blocks_in : ℕ → List ℕ → List (List ℕ)
blocks_in zero bytes = []
blocks_in (suc most) [] = []
blocks_in (suc most) (b ∷ bs) = take (number_behind 4 (b ∷ bs)) (b ∷ bs) ∷ blocks_in most (drop (number_behind 4 (b ∷ bs)) (b ∷ bs))

-- a packet as it is read: the number of its interface, its time, and its bytes
pub record ReadPacket : Type 0 where
  pub interface : ℕ
  pub moment : ℕ
  pub bytes : List ℕ

-- the packet in a block of type 6
abbrev pub packet_in : List ℕ → List ReadPacket
packet_in bytes =
    if number_behind 0 bytes == 6
    then record {
      interface = number_behind 8 bytes;
      moment = number_behind 12 bytes * 2 ^ 32 + number_behind 16 bytes;
      bytes = take (number_behind 20 bytes) (drop 28 bytes);
    } ∷ []
    else []

-- the packets of a file
abbrev pub packets_in : List ℕ → List ReadPacket
packets_in bytes = flat_map packet_in (blocks_in (length bytes) bytes)

-- a frame as a reader sees it
abbrev pub as_read : Frame → ReadPacket
as_read f = record { interface = f.medium; moment = f.moment; bytes = packet_spelling f.packet }
