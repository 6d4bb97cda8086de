use Rattle.std.proofs.Common.{ap, arith, length}
use Rattle.words.proofs.parts.single.Goals as goal
use Rattle.net_base.proofs.Shared.{some_part}

pub returns-in-Some : goal.returns-in-Some
returns-in-Some c =
    λ one. absurd (omega (arith, one, ap length (rw c.in-Some.is at c.split_first.ensures), some_part c.args.separator c.in-Some.field-0.now))
