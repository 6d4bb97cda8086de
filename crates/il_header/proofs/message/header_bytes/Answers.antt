use Rattle.std.proofs.Common.{arith}
use Rattle.il_header.proofs.message.header_bytes.Goals as goal

pub returns-clause-value : goal.returns-clause-value
returns-clause-value c = λ text long.
    rw (long, c.write_u32-2.ensures, c.write_u32.ensures, c.write_u16-3.ensures, c.write_u16-2.ensures, c.type_of.ensures, c.write_u16.ensures)

pub returns-clause-fits : goal.returns-clause-fits
returns-clause-fits c = λ text. record { spec = omega arith; id = omega arith; ack = omega arith }
