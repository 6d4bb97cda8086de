-- Bytes that a packet spells.
use Rattle.std.specs.Prelude.{◌≡◌, ◌<◌, ◌^◌, ℕ, List, length}
use Rattle.net_base.specs.declared.packet.Body.{Body}
use Rattle.net_base.specs.declared.packet.Body.TheVariants as body
use Rattle.net_base.specs.declared.packet.Packet.{Packet}
use Rattle.formats.specs.Datagram.{IsBody, IsPacket, datagram_packet, packet_spelling}

-- these are the bytes of the packet that they read as
abbrev pub IsSpelledPacket : List ℕ → Type 0
IsSpelledPacket bytes = IsPacket (datagram_packet bytes) × (bytes ≡ packet_spelling (datagram_packet bytes))

-- ports and a body that have a spelling
pub record HasBody (p : Packet) : Type 0 where
  pub sport : p.src.port < 2 ^ 16
  pub dport : p.dst.port < 2 ^ 16
  pub body : IsBody p.body

-- the text that a body carries
abbrev pub body_text : Body → List ℕ
body_text (body.Il m) = m.text
body_text (body.Udp text) = text

-- the packet carries some bytes
abbrev pub HasText : Packet → Type 0
HasText p = 0 < length (body_text p.body)
