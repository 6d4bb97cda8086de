use Rattle.std.proofs.Common.{◌≡◌, ℕ, List, ◌+◌, ◌++◌, length, drop, sym, ap, arith}
use Rattle.std.proofs.lemmas.List.{length-take-le}
use Rattle.formats.specs.IlWire.{il_with}
use Rattle.il_header.proofs.Encoded.{encoded, spells_encoded}
use Rattle.il_header.proofs.message.encode_il.Goals as goal

pub returns-clause-spelled : goal.returns-clause-spelled
returns-clause-spelled c =
    let front : length c.header_bytes-header.result ≡ 18 = omega (arith, c.copy_from_slice.ensures.len, ap length c.copy_from_slice.ensures.after, length-take-le 18 c.args.out.now (omega arith)) in
    let header : c.header_bytes-header.result ++ c.args.message.now.text ≡ il_with 0 c.args.sport c.args.dport c.args.message.now = c.header_bytes-header.ensures.value c.args.message.now.text (ap (λ (text : List ℕ). 18 + length text) (sym c.as_slice-text.ensures)) in
    rw (c.write_u16.ensures, c.sum-sum.ensures, c.copy_from_slice-2.ensures.after, c.copy_from_slice.ensures.after, c.as_slice-text.ensures)
    (encoded c.args.sport c.args.dport c.args.message.now c.header_bytes-header.result c.args.out.now front header)

pub returns-clause-spells : goal.returns-clause-spells
returns-clause-spells c =
    rw c.as_slice-text.ensures
    (spells_encoded c.args.sport c.args.dport c.args.message.now (drop (18 + length c.as_slice-text.result.now) c.args.out.now) c.write_u16.new.buf (omega arith) (omega arith) (c.header_bytes-header.ensures.fits c.args.message.now.text) (omega arith) (returns-clause-spelled c))
