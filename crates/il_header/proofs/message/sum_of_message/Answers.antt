use Rattle.std.proofs.Common.{sym, ap, ◌∙◌, drop, arith}
use Rattle.formats.specs.Sum.{sum_of}
use Rattle.formats.proofs.Shared.{IsBytes-drop, sum_of-zeros}
use Rattle.il_header.proofs.message.sum_of_message.Goals as goal

pub returns : goal.returns
returns c =
    c.sum.ensures
    ∙ ap sum_of c.split_at.ensures.back
    ∙ sym (sum_of-zeros (drop 2 c.args.bytes.now) (IsBytes-drop 2 c.args.bytes.now (λ i. omega (arith, c.type_inv.bytes i))))
