use Rattle.std.proofs.lemmas.Result.{IfOk-weaker}
use Rattle.netexplore.specs.Commands.{command_read}
use Rattle.netexplore.proofs.Given.{gives_bad}
use Rattle.netexplore.proofs.answers.bad_line.Goals as goal

pub returns : goal.returns
returns c =
    IfOk-weaker _ _ _
    (λ answer is. gives_bad (command_read c.args.command) c.args.input.now c.args.line c.args.cause answer c.requires.limit c.requires.bad is)
    c.bad_input.ensures
