use Rattle.std.proofs.Common.{arith}
use Rattle.history_reader.proofs.Widths.{bytes_by}
use Rattle.history_reader.proofs.wide.are_bytes.Goals as goal

pub returns : goal.returns
returns c = bytes_by c.args.bytes.now (λ i within. omega (arith, c.type_inv.bytes i))
