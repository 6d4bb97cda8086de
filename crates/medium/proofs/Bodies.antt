-- What stands in the bytes of a packet, by its protocol.
use Rattle.std.proofs.Common.{◌≡◌, ◌≢◌, false, nat_eq, Result, Ok, Err, IsOk, IsOkAnd, OnErr, ℕ, List, refl, sym, ap, subst, ◌∙◌, arith}
use Rattle.std.proofs.lemmas.Bool.Decides.{nat_tests}
use Rattle.net_base.specs.declared.address.Addr.{Addr}
use Rattle.net_base.specs.declared.il.IlMsg.{IlMsg}
use Rattle.net_base.specs.declared.packet.Body.{Body}
use Rattle.net_base.specs.declared.packet.Body.TheVariants as body
use Rattle.net_base.specs.declared.packet.Packet.{Packet}
use Rattle.formats.specs.Ipv4.{Ipv4, SpellsIpv4, header_of, payload_of}
use Rattle.formats.specs.UdpWire.{SpellsUdp, address, dport_of, udp_text}
use Rattle.formats.specs.IlWire.{SpellsIl, il_dport, message_of}
use Rattle.formats.specs.Datagram.{IsPacket, between, il_packet, udp_packet, headed_packet, header_for, body_bytes, protocol, datagram_packet}
use Rattle.formats.proofs.Shared.{spells_header, spells_payload, spells_sport, spells_dport, spells_message, spells_fields, spells_datagram, spells_il_body, spells_udp_body}
use Rattle.medium.specs.Spelled.{IsSpelledPacket}

-- spelled bytes spell a header and a payload
pub ipv4_in : (bytes : List ℕ) → IsSpelledPacket bytes → SpellsIpv4 (header_for (datagram_packet bytes)) (body_bytes (datagram_packet bytes).src (datagram_packet bytes).dst (datagram_packet bytes).body) bytes
ipv4_in bytes s =
    subst (λ (x : List ℕ). SpellsIpv4 (header_for (datagram_packet bytes)) (body_bytes (datagram_packet bytes).src (datagram_packet bytes).dst (datagram_packet bytes).body) x) (sym s.1) (spells_datagram (datagram_packet bytes) s.0)

-- an IL message that bytes spell
pub record HoldsIl (bytes : List ℕ) : Type 0 where
  pub sport : ℕ
  pub dport : ℕ
  pub message : IlMsg
  pub spelled : SpellsIl sport dport message bytes

-- a UDP text that bytes spell, between these hosts
pub record HoldsUdp (src dst : ℕ) (bytes : List ℕ) : Type 0 where
  pub sport : ℕ
  pub dport : ℕ
  pub text : List ℕ
  pub spelled : SpellsUdp (address src sport) (address dst dport) text bytes

abbrev made : Addr → Addr → ℕ → ℕ → Body → Packet
made src dst ttl tos b = record { src = src; dst = dst; ttl = ttl; tos = tos; body = b }

il_body : (src dst : Addr) (ttl tos : ℕ) (b : Body) → IsPacket (made src dst ttl tos b) → protocol b ≡ 40 → HoldsIl (body_bytes src dst b)
il_body src dst ttl tos (body.Il m) p e = record { sport = src.port; dport = dst.port; message = m; spelled = spells_il_body src.port dst.port m p.src.port p.dst.port p.body }
il_body src dst ttl tos (body.Udp text) p e = absurd (omega (arith, e))

udp_body : (src dst : Addr) (ttl tos : ℕ) (b : Body) → IsPacket (made src dst ttl tos b) → protocol b ≢ 40 → HoldsUdp src.ip dst.ip (body_bytes src dst b)
udp_body src dst ttl tos (body.Il m) p e = absurd (e refl)
udp_body src dst ttl tos (body.Udp text) p e = record { sport = src.port; dport = dst.port; text = text; spelled = spells_udp_body src dst text p.src.port p.dst.port p.body }

header_is : (bytes : List ℕ) → IsSpelledPacket bytes → header_of bytes ≡ header_for (datagram_packet bytes)
header_is bytes s = spells_header (header_for (datagram_packet bytes)) (body_bytes (datagram_packet bytes).src (datagram_packet bytes).dst (datagram_packet bytes).body) bytes (ipv4_in bytes s)

payload_is : (bytes : List ℕ) → IsSpelledPacket bytes → payload_of bytes ≡ body_bytes (datagram_packet bytes).src (datagram_packet bytes).dst (datagram_packet bytes).body
payload_is bytes s = spells_payload (header_for (datagram_packet bytes)) (body_bytes (datagram_packet bytes).src (datagram_packet bytes).dst (datagram_packet bytes).body) bytes (ipv4_in bytes s)

-- by its protocol number a payload is of IL ..
pub il_in : (bytes : List ℕ) (h : Ipv4) (payload : List ℕ) → IsSpelledPacket bytes → SpellsIpv4 h payload bytes → h.proto ≡ 40 → HoldsIl payload
il_in bytes h payload s t e =
    let eh : h ≡ header_for (datagram_packet bytes) = sym (spells_header h payload bytes t) ∙ header_is bytes s in
    let ep : payload ≡ body_bytes (datagram_packet bytes).src (datagram_packet bytes).dst (datagram_packet bytes).body = sym (spells_payload h payload bytes t) ∙ payload_is bytes s in
    subst HoldsIl (sym ep)
    (il_body (datagram_packet bytes).src (datagram_packet bytes).dst (datagram_packet bytes).ttl (datagram_packet bytes).tos (datagram_packet bytes).body s.0 (sym (ap (λ (x : Ipv4). x.proto) eh) ∙ e))

-- .. or else of UDP
pub udp_in : (bytes : List ℕ) (h : Ipv4) (payload : List ℕ) → IsSpelledPacket bytes → SpellsIpv4 h payload bytes → h.proto ≢ 40 → HoldsUdp h.src h.dst payload
udp_in bytes h payload s t ne =
    let eh : h ≡ header_for (datagram_packet bytes) = sym (spells_header h payload bytes t) ∙ header_is bytes s in
    let ep : payload ≡ body_bytes (datagram_packet bytes).src (datagram_packet bytes).dst (datagram_packet bytes).body = sym (spells_payload h payload bytes t) ∙ payload_is bytes s in
    subst (λ (x : Ipv4). HoldsUdp x.src x.dst payload) (sym eh)
    (subst (λ (b : List ℕ). HoldsUdp (datagram_packet bytes).src.ip (datagram_packet bytes).dst.ip b) (sym ep)
    (udp_body (datagram_packet bytes).src (datagram_packet bytes).dst (datagram_packet bytes).ttl (datagram_packet bytes).tos (datagram_packet bytes).body s.0 (λ e. ne (ap (λ (x : Ipv4). x.proto) eh ∙ e))))

-- an answer that is Ok and more is Ok
pub ok_of : {T E : Type 0} (P : T → Type 0) (r : Result T E) → IsOkAnd r P → IsOk r
ok_of P (Ok x) h = refl
ok_of P (Err e) h = absurd h

-- what is so is so where there is none
pub on_err : {T E : Type 0} (P : Type 0) (r : Result T E) → P → OnErr r P
on_err P (Ok x) so = tt
on_err P (Err e) so = so

-- ---- a packet by what its decoders found

pub il_read : (bytes : List ℕ) (h : Ipv4) (payload : List ℕ) (sport dport : ℕ) (m : IlMsg) → SpellsIpv4 h payload bytes → h.proto ≡ 40 → SpellsIl sport dport m payload → between h sport dport (body.Il m) ≡ datagram_packet bytes
unfolding datagram_packet
il_read bytes h payload sport dport m s e t =
    let test : headed_packet h payload ≡ il_packet h payload = rw e refl in
    sym (ap (λ (x : Ipv4). headed_packet x (payload_of bytes)) (spells_header h payload bytes s)
    ∙ ap (headed_packet h) (spells_payload h payload bytes s)
    ∙ test
    ∙ ap (λ (n : ℕ). between h n (il_dport payload) (body.Il (message_of payload))) (spells_sport sport dport m payload t)
    ∙ ap (λ (n : ℕ). between h sport n (body.Il (message_of payload))) (spells_dport sport dport m payload t)
    ∙ ap (λ (x : IlMsg). between h sport dport (body.Il x)) (spells_message sport dport m payload t))

pub udp_read : (bytes : List ℕ) (h : Ipv4) (payload : List ℕ) (sport dport : ℕ) (text : List ℕ) → SpellsIpv4 h payload bytes → h.proto ≢ 40 → SpellsUdp (address h.src sport) (address h.dst dport) text payload → between h sport dport (body.Udp text) ≡ datagram_packet bytes
unfolding datagram_packet
udp_read bytes h payload sport dport text s ne t =
    let not_il : nat_eq h.proto 40 ≡ false = grind (arith, nat_tests) in
    let test : headed_packet h payload ≡ udp_packet h payload = rw not_il refl in
    let fields = spells_fields (address h.src sport) (address h.dst dport) text payload t in
    sym (ap (λ (x : Ipv4). headed_packet x (payload_of bytes)) (spells_header h payload bytes s)
    ∙ ap (headed_packet h) (spells_payload h payload bytes s)
    ∙ test
    ∙ ap (λ (n : ℕ). between h n (dport_of payload) (body.Udp (udp_text payload))) fields.0
    ∙ ap (λ (n : ℕ). between h sport n (body.Udp (udp_text payload))) fields.1
    ∙ ap (λ (x : List ℕ). between h sport dport (body.Udp x)) fields.2)
