use Rattle.std.proofs.Common.{arith}
use Rattle.udp_headers.proofs.headers.header_bytes.Goals as goal

pub returns-clause-value : goal.returns-clause-value
returns-clause-value c =
    rw (c.write_u16-2.ensures, c.write_u16.ensures, c.write_u32-3.ensures, c.write_u32-2.ensures, c.write_u32.ensures)

pub returns-clause-fits : goal.returns-clause-fits
returns-clause-fits c = record {
  remote_ip = omega arith;
  remote_port = omega arith;
  local_ip = omega arith;
  local_port = omega arith;
  iface = omega arith;
}
