use Rattle.std.proofs.Common.{arith}
use Rattle.medium.proofs.Fating.{tells_nothing}
use Rattle.medium.proofs.fates.first_fate.Goals as goal

pub returns-else-saturating_sub-laid : goal.returns-else-saturating_sub-laid
returns-else-saturating_sub-laid c =
    tells_nothing c.args.laid c.args.lines.now.items c.in_ok-line.line.now c.in_ok-line.ensures.lookup c.requires.order (omega (arith, c.if-saturating_sub-laid.false, c.saturating_sub.ensures))
