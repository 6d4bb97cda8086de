use Rattle.std.proofs.Common.{ap, ◌∙◌, arith}
use Rattle.formats.specs.UdpWire.{sent_sum}
use Rattle.ip_wire.proofs.UdpSum.{received_sum-parts}
use Rattle.ip_wire.proofs.udp.sum_between.Goals as goal

pub returns : goal.returns
returns c =
    c.sent.ensures
    ∙ ap sent_sum c.complement.ensures
    ∙ received_sum-parts c.args.src c.args.dst c.args.bytes.now c.word.result c.pseudo_words-pseudo.result c.add_words-header.result c.add_words.result (λ i. omega (arith, c.type_inv.bytes i)) c.requires.long c.word.ensures c.pseudo_words-pseudo.ensures.value c.add_words-header.ensures.value (rw c.split_at.ensures.back at c.add_words.ensures.value)
