use Rattle.std.proofs.Common.{◌≡◌, ap, ◌∙◌, arith}
use Rattle.formats.specs.UdpWire.{sent_sum, udp_sum, udp_bytes}
use Rattle.ip_wire.proofs.UdpSum.{udp_sum-parts}
use Rattle.ip_wire.proofs.udp.header_bytes.Goals as goal

pub returns : goal.returns
unfolding udp_bytes
returns c =
    let header = rw (c.write_u16-3.ensures, c.write_u16-2.ensures, c.write_u16.ensures) at c.add_words-header.ensures.value in
    let sum : c.sent-sum.result ≡ udp_sum c.args.src c.args.dst c.args.text.now =
    c.sent-sum.ensures
    ∙ ap sent_sum c.complement.ensures
    ∙ udp_sum-parts c.args.src c.args.dst c.args.text.now c.pseudo_words-pseudo.result c.add_words-header.result c.add_words.result (λ i. omega (arith, c.type_inv.text i)) c.pseudo_words-pseudo.ensures.value header c.add_words.ensures.value in
    rw (c.write_u16-4.ensures, sum, c.write_u16-3.ensures, c.write_u16-2.ensures, c.write_u16.ensures)
