use Rattle.std.proofs.Common.{arith}
use Rattle.ninep_wire.proofs.WholeRead.{t_none, t_reads}
use Rattle.ninep_wire.proofs.spelled.request_in.Goals as goal

pub returns-in-Ok-clause-read : goal.returns-in-Ok-clause-read
returns-in-Ok-clause-read c = t_reads c.args.bytes.now c.in-Ok.message (λ i. omega (arith, c.type_inv.bytes i)) c.in-Ok.ensures.found

-- another fault than the want of memory: no message is spelled so
pub returns-else-is_memory-clause-read : goal.returns-else-is_memory-clause-read
returns-else-is_memory-clause-read c = t_none c.args.bytes.now (λ i. omega (arith, c.type_inv.bytes i)) (λ m s. c.is_memory.ensures c.if-is_memory.false (c.in-Err.ensures.only m s).1)
