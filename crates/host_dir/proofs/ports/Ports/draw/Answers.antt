use Rattle.std.proofs.Common.{arith}
use Rattle.host_dir.proofs.Drawn.{both_runs}
use Rattle.host_dir.proofs.ports.Ports.draw.Goals as goal

pub invariant_of-self : goal.invariant_of-self
invariant_of-self c =
    let before = c.self.invariant in
    let now = c.least_unused-self-inside.ensures in (
      omega (arith, before.0, now.from),
      now.within,
      both_runs 5000 c.self.inside.next c.least_unused-self-inside.result c.self.inside.used.keys before.2 now.before,
    )
