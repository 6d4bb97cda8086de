use Rattle.std.proofs.lemmas.Result.{IfOk-weaker}
use Rattle.netexplore.specs.Commands.{command_read}
use Rattle.netexplore.proofs.Given.{gives}
use Rattle.netexplore.proofs.answers.answer_over.Goals as goal

pub bad_line-requires-clause-bad : goal.bad_line-requires-clause-bad
bad_line-requires-clause-bad g c = rw c.in-Err-Bad.field-0-is at c.in-Err-Bad.ensures.bad

pub returns : goal.returns
returns g c =
    IfOk-weaker _ _ _ (λ answer is. gives (command_read c.args.command) c.args.input.now c.in-Ok.world answer c.requires c.in-Ok.ensures.ok is)
    c.answer_of-answer.ensures
