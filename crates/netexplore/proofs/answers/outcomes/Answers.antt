use Rattle.std.proofs.Common.{refl}
use Rattle.netexplore.specs.Commands.{span_read}
use Rattle.netexplore.proofs.Printing.{found_answer}
use Rattle.netexplore.proofs.answers.outcomes.Goals as goal

pub returns : goal.returns
returns g c =
    found_answer c.outcomes_of.result c.args.world.now c.args.losses (span_read c.args.span) c.sought_in.result c.in_ok-found.found c.sought_in.ensures.losses
    c.sought_in.ensures.preemptions c.sought_in.ensures.limit (λ none le. c.sought_in.ensures.plain none refl le) c.in_ok-found.ensures.sound
    c.in_ok-found.ensures.exact c.outcomes_of.ensures
