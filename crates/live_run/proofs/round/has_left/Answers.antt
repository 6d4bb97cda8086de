use Rattle.std.proofs.Common.{◌∙◌, sym, arith}
use Rattle.net_base.proofs.Shared.{there_at}
use Rattle.live_run.proofs.round.has_left.Goals as goal

pub returns-then-script-len : goal.returns-then-script-len
returns-then-script-len c truth =
    let there = there_at c.args.world.now.scripts c.args.script (omega (arith, c.len.ensures, c.if-script-len.true)) in
    record { script = there.0; is = there.1; left = sym (c.has_left.ensures c.args.world.now there.0 c.requires there.1) ∙ truth }
