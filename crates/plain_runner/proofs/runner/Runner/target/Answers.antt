use Rattle.std.proofs.Common.{◌∙◌}
use Rattle.net_base.specs.Net.{after}
use Rattle.plain_runner.proofs.Targets.{target_is}
use Rattle.plain_runner.proofs.runner.Runner.target.Goals as goal

pub returns : goal.returns
returns c =
    let w = c.args.world.now in
    target_is w c.args.self.now c.as_slice.result.now c.least_awaited-awaited.result c.least_due.result c.requires
    (c.as_slice.ensures.value
    ∙ c.in_ok-dues.ensures w (after w c.args.self.now.history.entries).actors c.requires.are) (c.least_awaited-awaited.ensures w c.requires) c.least_due.ensures
