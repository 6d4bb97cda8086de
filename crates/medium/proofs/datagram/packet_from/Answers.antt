use Rattle.std.proofs.Common.{subst}
use Rattle.ip_wire.specs.Headers.{view}
use Rattle.il_header.specs.Views.{message_in}
use Rattle.formats.specs.Ipv4.{SpellsIpv4}
use Rattle.formats.specs.Datagram.{header_for, body_bytes, datagram_packet}
use Rattle.medium.specs.Spelled.{HasText}
use Rattle.medium.proofs.Bodies.{HoldsIl, HoldsUdp, ipv4_in, il_in, udp_in, ok_of, on_err, il_read, udp_read}
use Rattle.medium.proofs.datagram.packet_from.Goals as goal
use Rattle.medium.proofs.datagram.packet_from.Goals.{then-ip-eq-IL+in_ok-text, else-ip-eq-IL+in_ok-copy_of}

pub unwrap-ip-requires : goal.unwrap-ip-requires
unwrap-ip-requires c =
    ok_of _ c.decode_ip.result (c.decode_ip.ensures.only (header_for (datagram_packet c.args.bytes.now)) (body_bytes (datagram_packet c.args.bytes.now).src (datagram_packet c.args.bytes.now).dst (datagram_packet c.args.bytes.now).body) (ipv4_in c.args.bytes.now c.requires))

pub unwrap-il-requires : goal.unwrap-il-requires
unwrap-il-requires c =
    let found : SpellsIpv4 (view c.unwrap-ip.result.header) c.unwrap-ip.result.payload.now c.args.bytes.now = rw c.unwrap-ip.ensures at c.decode_ip.ensures.found in
    let held : HoldsIl c.unwrap-ip.result.payload.now = il_in c.args.bytes.now (view c.unwrap-ip.result.header) c.unwrap-ip.result.payload.now c.requires found c.if-ip-eq-IL.true in
    ok_of _ c.decode_il.result (c.decode_il.ensures.only held.sport held.dport held.message held.spelled)

pub unwrap-udp-requires : goal.unwrap-udp-requires
unwrap-udp-requires c =
    let found : SpellsIpv4 (view c.unwrap-ip.result.header) c.unwrap-ip.result.payload.now c.args.bytes.now = rw c.unwrap-ip.ensures at c.decode_ip.ensures.found in
    let held : HoldsUdp c.unwrap-ip.result.header.src c.unwrap-ip.result.header.dst c.unwrap-ip.result.payload.now = udp_in c.args.bytes.now (view c.unwrap-ip.result.header) c.unwrap-ip.result.payload.now c.requires found c.if-ip-eq-IL.false in
    ok_of _ c.decode_udp.result (c.decode_udp.ensures.only held.sport held.dport held.text held.spelled)

pub returns-clause-ok : goal.returns-clause-ok
returns-clause-ok c =
    let found : SpellsIpv4 (view c.unwrap-ip.result.header) c.unwrap-ip.result.payload.now c.args.bytes.now = rw c.unwrap-ip.ensures at c.decode_ip.ensures.found in
    elim c.if-ip-eq-IL.branch [
      | then-ip-eq-IL+in_ok-text w ↦
          rw (w.sport-is, w.in_ok-text.ensures.ok)
          (il_read c.args.bytes.now (view c.unwrap-ip.result.header) c.unwrap-ip.result.payload.now w.unwrap-il.result.sport w.unwrap-il.result.dport (message_in w.unwrap-il.result.kind w.unwrap-il.result.spec w.unwrap-il.result.id w.unwrap-il.result.ack w.unwrap-il.result.text.now) found w.if-ip-eq-IL.true (rw w.unwrap-il.ensures at w.decode_il.ensures.found))
      | else-ip-eq-IL+in_ok-copy_of w ↦
          rw (w.sport-is, w.in_ok-copy_of.ensures.ok)
          (udp_read c.args.bytes.now (view c.unwrap-ip.result.header) c.unwrap-ip.result.payload.now w.unwrap-udp.result.sport w.unwrap-udp.result.dport w.unwrap-udp.result.text.now found w.if-ip-eq-IL.false (rw w.unwrap-udp.ensures at w.decode_udp.ensures.found))
    ]

pub returns-in_err-text-clause-memory : goal.returns-in_err-text-clause-memory
returns-in_err-text-clause-memory c =
    let found : SpellsIpv4 (view c.unwrap-ip.result.header) c.unwrap-ip.result.payload.now c.args.bytes.now = rw c.unwrap-ip.ensures at c.decode_ip.ensures.found in
    let read = il_read c.args.bytes.now (view c.unwrap-ip.result.header) c.unwrap-ip.result.payload.now c.unwrap-il.result.sport c.unwrap-il.result.dport (message_in c.unwrap-il.result.kind c.unwrap-il.result.spec c.unwrap-il.result.id c.unwrap-il.result.ack c.unwrap-il.result.text.now) found c.if-ip-eq-IL.true (rw c.unwrap-il.ensures at c.decode_il.ensures.found) in
    on_err _ c.from_residual.result (subst HasText read c.in_err-text.ensures.memory)

pub returns-in_err-copy_of-clause-memory : goal.returns-in_err-copy_of-clause-memory
returns-in_err-copy_of-clause-memory c =
    let found : SpellsIpv4 (view c.unwrap-ip.result.header) c.unwrap-ip.result.payload.now c.args.bytes.now = rw c.unwrap-ip.ensures at c.decode_ip.ensures.found in
    let read = udp_read c.args.bytes.now (view c.unwrap-ip.result.header) c.unwrap-ip.result.payload.now c.unwrap-udp.result.sport c.unwrap-udp.result.dport c.unwrap-udp.result.text.now found c.if-ip-eq-IL.false (rw c.unwrap-udp.ensures at c.decode_udp.ensures.found) in
    on_err _ c.from_residual-in_err-copy_of.result (subst HasText read c.in_err-copy_of.ensures.memory)
