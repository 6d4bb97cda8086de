use Rattle.std.proofs.Common.{◌≡◌, ◌∙◌, Option, Ok, ap}
use Rattle.live_lines.specs.declared.line.LiveLine.{LiveLine}
use Rattle.live_run.proofs.applying.apply.Goals as goal

pub accept-requires : goal.accept-requires
accept-requires g c =
    c.read_steps_are_steps.ensures.step c.args.text.now c.in-Some.line c.in-Step.by c.in-Step.step (c.in-Ok.ensures ∙ ap (λ (o : Option LiveLine). Ok o) c.in-Some.is) c.in-Step.is
