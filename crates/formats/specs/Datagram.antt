-- A packet as the bytes that stand on a medium: an IPv4 datagram of IL or UDP.
use Rattle.std.specs.Prelude.{◌<◌, ℕ, ◌+◌, ◌^◌, false, List, length, ◌==◌, if◌then◌else◌}
use Rattle.net_base.specs.declared.address.Addr.{Addr}
use Rattle.net_base.specs.declared.packet.Body.{Body}
use Rattle.net_base.specs.declared.packet.Body.TheVariants as body
use Rattle.net_base.specs.declared.packet.Packet.{Packet}
use Rattle.formats.specs.Ipv4.{Ipv4, ipv4_bytes, header_of, payload_of}
use Rattle.formats.specs.UdpWire.{udp_bytes, sport_of, dport_of, udp_text}
use Rattle.formats.specs.IlWire.{IsMessage, il_bytes, il_sport, il_dport, message_of}

-- the protocol's number
abbrev pub protocol : Body → ℕ
protocol (body.Il m) = 40
protocol (body.Udp text) = 17

-- the datagram's header: no identification, no flags
abbrev pub header_for : Packet → Ipv4
header_for p = record {
  tos = p.tos;
  ident = 0;
  dont_fragment = false;
  ttl = p.ttl;
  proto = protocol p.body;
  src = p.src.ip;
  dst = p.dst.ip;
}

-- what follows the datagram's header
abbrev pub body_bytes : Addr → Addr → Body → List ℕ
body_bytes src dst (body.Il m) = il_bytes src.port dst.port m
body_bytes src dst (body.Udp text) = udp_bytes src dst text

-- the packet as bytes
unfoldable pub packet_spelling : Packet → List ℕ
packet_spelling p = ipv4_bytes (header_for p) (body_bytes p.src p.dst p.body)

-- an address whose numbers fit their fields
pub record IsAddress (a : Addr) : Type 0 where
  pub ip : a.ip < 2 ^ 32
  pub port : a.port < 2 ^ 16

-- a body whose numbers fit their fields, and whose text fits a datagram
abbrev pub IsBody : Body → Type 0
IsBody (body.Il m) = IsMessage m × (38 + length m.text < 2 ^ 16)
IsBody (body.Udp text) = Unit {0} × (28 + length text < 2 ^ 16)

-- a packet that has a spelling
pub record IsPacket (p : Packet) : Type 0 where
  pub src : IsAddress p.src
  pub dst : IsAddress p.dst
  pub ttl : p.ttl < 2 ^ 8
  pub tos : p.tos < 2 ^ 8
  pub body : IsBody p.body

-- ---- reading

-- a packet between these addresses
abbrev pub between : Ipv4 → ℕ → ℕ → Body → Packet
between h sport dport carried = record {
  src = record { ip = h.src; port = sport };
  dst = record { ip = h.dst; port = dport };
  ttl = h.ttl;
  tos = h.tos;
  body = carried;
}

-- the IL packet of this header, from the bytes after it
abbrev pub il_packet : Ipv4 → List ℕ → Packet
il_packet h bytes = between h (il_sport bytes) (il_dport bytes) (body.Il (message_of bytes))

-- the UDP packet of this header, from the bytes after it
abbrev pub udp_packet : Ipv4 → List ℕ → Packet
udp_packet h bytes = between h (sport_of bytes) (dport_of bytes) (body.Udp (udp_text bytes))

-- the packet of this header, from the bytes after it
abbrev pub headed_packet : Ipv4 → List ℕ → Packet
headed_packet h bytes = if h.proto == 40 then il_packet h bytes else udp_packet h bytes

-- the packet in the bytes of a datagram of IL or UDP
unfoldable pub datagram_packet : List ℕ → Packet
datagram_packet bytes = headed_packet (header_of bytes) (payload_of bytes)
