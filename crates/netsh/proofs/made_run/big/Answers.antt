use Rattle.std.proofs.Common.{[]}
use Rattle.std.proofs.lemmas.Result.{IfOk-weaker}
use Rattle.netsh.proofs.Given.{gives_summed}
use Rattle.netsh.proofs.made_run.big.Goals as goal

pub returns : goal.returns
returns g c =
    IfOk-weaker _ _ _ (λ answer is. gives_summed c.args.messages [] c.in_ok-world.world answer c.in_ok-world.ensures.made is) c.run_made-answer.ensures
