use Rattle.std.proofs.Common.{arith}
use Rattle.session_script.proofs.Messages.{has_header}
use Rattle.session_script.proofs.stream.add_step.Goals as goal

pub returns-in-Ok-hear_first-clause-shorter : goal.returns-in-Ok-hear_first-clause-shorter
returns-in-Ok-hear_first-clause-shorter c =
    omega (arith, has_header c.args.table.now.msize c.in-Ok.message c.args.bytes.now c.in-Ok.rest.now c.in-Ok.ensures.found)
