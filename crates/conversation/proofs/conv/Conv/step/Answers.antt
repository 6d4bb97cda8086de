use Rattle.std.proofs.Common.{ap, ◌∙◌}
use Rattle.conversation.specs.Kept.{as_step}
use Rattle.history_laws.proofs.Shared.{conv_copies}
use Rattle.conversation.proofs.conv.Conv.step.Goals as goal

pub returns-clause-copy : goal.returns-clause-copy
returns-clause-copy c =
    let work = c.args.work.now in
    let seat = c.args.self.now in
    conv_copies seat.slot c.args.now seat.conv _ work.event work.with _ (c.in_ok-outcome.ensures.ok ∙ ap (as_step _) c.in-Some.is)
