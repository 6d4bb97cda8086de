use Rattle.std.proofs.Common.{◌≡◌, ◌-◌, sym, ap, ◌∙◌, sum, zero-add, arith, ℕ}
use Rattle.formats.specs.Sum.{words}
use Rattle.ip_wire.specs.Carries.{around}
use Rattle.ip_wire.proofs.Carrying.{sum_of-words}
use Rattle.ip_wire.proofs.checksum.sum.Goals as goal

pub returns : goal.returns
returns c =
    let counted : c.add_words.result ≡ sum (words c.args.bytes.now) = c.add_words.ensures.value ∙ zero-add _ in
    c.complement.ensures
    ∙ ap (λ (t : ℕ). 65535 - around t) counted
    ∙ sym (sum_of-words c.args.bytes.now (λ i. omega (arith, c.type_inv.bytes i)))
