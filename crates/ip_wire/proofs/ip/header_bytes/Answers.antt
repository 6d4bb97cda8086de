use Rattle.std.proofs.Common.{arith}
use Rattle.ip_wire.proofs.ip.header_bytes.Goals as goal

pub returns-clause-value : goal.returns-clause-value
returns-clause-value c =
    rw (c.write_u16-4.ensures, c.sum-sum.ensures, c.write_u32-2.ensures, c.write_u32.ensures, c.write_u16-3.ensures, c.write_u16-2.ensures, c.write_u16.ensures, c.flags_of-flags.ensures)

pub returns-clause-fits : goal.returns-clause-fits
returns-clause-fits c = record {
  tos = omega arith;
  ident = omega arith;
  ttl = omega arith;
  proto = omega arith;
  src = omega arith;
  dst = omega arith;
}
