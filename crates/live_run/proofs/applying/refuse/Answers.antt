use Rattle.live_run.specs.Hearing.{Bad}
use Rattle.live_run.proofs.applying.refuse.Goals as goal

pub returns : goal.returns
returns g c = Bad c.args.number c.args.cause c.in_ok-say_bad_line.ensures
