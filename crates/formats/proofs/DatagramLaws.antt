-- A packet's bytes read back as the packet.
use Rattle.std.proofs.Common.{◌≡◌, ℕ, ◌+◌, ◌^◌, ◌<◌, false, List, length, refl, ap, ◌∙◌, inl, arith}
use Rattle.net_base.specs.declared.address.Addr.{Addr}
use Rattle.net_base.specs.declared.il.IlMsg.{IlMsg}
use Rattle.net_base.specs.declared.packet.Body.{Body}
use Rattle.net_base.specs.declared.packet.Body.TheVariants as body
use Rattle.net_base.specs.declared.packet.Packet.{Packet}
use Rattle.formats.specs.Ipv4.{Ipv4, IsHeader, SpellsIpv4, flagged_bytes, payload_of}
use Rattle.formats.specs.UdpWire.{SpellsUdp, udp_bytes, dport_of, udp_text}
use Rattle.formats.specs.IlWire.{SpellsIl, il_bytes, il_dport, message_of}
use Rattle.formats.specs.Datagram.{IsBody, IsPacket, header_for, body_bytes, packet_spelling, between, headed_packet, datagram_packet}
use Rattle.formats.proofs.Ipv4Laws.{header_again, payload_again}
use Rattle.formats.proofs.UdpLaws.{spells_fields}
use Rattle.formats.proofs.IlLaws.{message_again, sport_again, dport_again}

-- the packet with these parts
abbrev made : Addr → Addr → ℕ → ℕ → Body → Packet
made src dst ttl tos b = record { src = src; dst = dst; ttl = ttl; tos = tos; body = b }

il_length_is : (sport dport : ℕ) (m : IlMsg) → length (il_bytes sport dport m) ≡ 18 + length m.text
unfolding il_bytes
il_length_is sport dport m = omega arith

udp_length_is : (src dst : Addr) (text : List ℕ) → length (udp_bytes src dst text) ≡ 8 + length text
unfolding udp_bytes
udp_length_is src dst text = omega arith

header_fits : (src dst : Addr) (ttl tos : ℕ) (b : Body) → IsPacket (made src dst ttl tos b) → IsHeader (header_for (made src dst ttl tos b))
header_fits src dst ttl tos (body.Il m) p = record { tos = p.tos; ident = omega arith; ttl = p.ttl; proto = omega arith; src = p.src.ip; dst = p.dst.ip }
header_fits src dst ttl tos (body.Udp text) p = record { tos = p.tos; ident = omega arith; ttl = p.ttl; proto = omega arith; src = p.src.ip; dst = p.dst.ip }

body_fits : (src dst : Addr) (b : Body) → IsBody b → 20 + length (body_bytes src dst b) < 2 ^ 16
body_fits src dst (body.Il m) p = omega (arith, p.1, il_length_is src.port dst.port m)
body_fits src dst (body.Udp text) p = omega (arith, p.1, udp_length_is src dst text)

spells_ipv4 : (src dst : Addr) (ttl tos : ℕ) (b : Body) → IsPacket (made src dst ttl tos b) → SpellsIpv4 (header_for (made src dst ttl tos b)) (body_bytes src dst b) (packet_spelling (made src dst ttl tos b))
unfolding packet_spelling
spells_ipv4 src dst ttl tos b p = record {
  header = header_fits src dst ttl tos b p;
  fits = body_fits src dst b p.body;
  reserved = false;
  spelled = refl;
}

-- the bytes of a packet spell its header and its body
pub spells_datagram : (p : Packet) → IsPacket p → SpellsIpv4 (header_for p) (body_bytes p.src p.dst p.body) (packet_spelling p)
spells_datagram p h = spells_ipv4 p.src p.dst p.ttl p.tos p.body h

-- the bytes of an IL body spell its message
pub spells_il_body : (sport dport : ℕ) (m : IlMsg) → sport < 2 ^ 16 → dport < 2 ^ 16 → IsBody (body.Il m) → SpellsIl sport dport m (il_bytes sport dport m)
spells_il_body sport dport m s d p = record {
  sport_fits = s;
  dport_fits = d;
  message = p.0;
  fits = omega (arith, p.1);
  spelled = refl;
}

-- the bytes of a UDP body spell its text
pub spells_udp_body : (src dst : Addr) (text : List ℕ) → src.port < 2 ^ 16 → dst.port < 2 ^ 16 → IsBody (body.Udp text) → SpellsUdp src dst text (udp_bytes src dst text)
spells_udp_body src dst text s d p = record {
  sport = s;
  dport = d;
  fits = omega (arith, p.1);
  spelled = inl refl;
}

il_again : (src dst : Addr) (ttl tos : ℕ) (m : IlMsg) → IsPacket (made src dst ttl tos (body.Il m)) → headed_packet (header_for (made src dst ttl tos (body.Il m))) (il_bytes src.port dst.port m) ≡ made src dst ttl tos (body.Il m)
il_again src dst ttl tos m p =
    let h : Ipv4 = header_for (made src dst ttl tos (body.Il m)) in
    let bytes : List ℕ = il_bytes src.port dst.port m in
    ap (λ (n : ℕ). between h n (il_dport bytes) (body.Il (message_of bytes))) (sport_again src.port dst.port m p.src.port)
    ∙ ap (λ (n : ℕ). between h src.port n (body.Il (message_of bytes))) (dport_again src.port dst.port m p.dst.port)
    ∙ ap (λ (x : IlMsg). between h src.port dst.port (body.Il x)) (message_again src.port dst.port m p.body.0)

udp_again : (src dst : Addr) (ttl tos : ℕ) (text : List ℕ) → IsPacket (made src dst ttl tos (body.Udp text)) → headed_packet (header_for (made src dst ttl tos (body.Udp text))) (udp_bytes src dst text) ≡ made src dst ttl tos (body.Udp text)
udp_again src dst ttl tos text p =
    let h : Ipv4 = header_for (made src dst ttl tos (body.Udp text)) in
    let bytes : List ℕ = udp_bytes src dst text in
    let fields = spells_fields src dst text (udp_bytes src dst text) (spells_udp_body src dst text p.src.port p.dst.port p.body) in
    ap (λ (n : ℕ). between h n (dport_of bytes) (body.Udp (udp_text bytes))) fields.0
    ∙ ap (λ (n : ℕ). between h src.port n (body.Udp (udp_text bytes))) fields.1
    ∙ ap (λ (x : List ℕ). between h src.port dst.port (body.Udp x)) fields.2

body_again : (src dst : Addr) (ttl tos : ℕ) (b : Body) → IsPacket (made src dst ttl tos b) → headed_packet (header_for (made src dst ttl tos b)) (body_bytes src dst b) ≡ made src dst ttl tos b
body_again src dst ttl tos (body.Il m) p = il_again src dst ttl tos m p
body_again src dst ttl tos (body.Udp text) p = udp_again src dst ttl tos text p

parts_again : (src dst : Addr) (ttl tos : ℕ) (b : Body) → IsPacket (made src dst ttl tos b) → datagram_packet (packet_spelling (made src dst ttl tos b)) ≡ made src dst ttl tos b
unfolding packet_spelling datagram_packet
parts_again src dst ttl tos b p =
    let h : Ipv4 = header_for (made src dst ttl tos b) in
    let bytes : List ℕ = body_bytes src dst b in
    ap (λ (x : Ipv4). headed_packet x (payload_of (flagged_bytes false h bytes))) (header_again false h bytes (header_fits src dst ttl tos b p))
    ∙ ap (headed_packet h) (payload_again false h bytes)
    ∙ body_again src dst ttl tos b p

-- what was spelled reads back
pub packet_again : (p : Packet) → IsPacket p → datagram_packet (packet_spelling p) ≡ p
packet_again p h = parts_again p.src p.dst p.ttl p.tos p.body h
