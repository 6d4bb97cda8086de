use Rattle.netcheck.proofs.input.check_input.Goals as goal

pub returns-in-Ok : goal.returns-in-Ok
returns-in-Ok c = c.check_parts.ensures c.args.input.now c.in-Ok.ensures.ok
