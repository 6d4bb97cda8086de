use Rattle.std.proofs.Common.{rules}
use Rattle.host_dir.proofs.Drawn.{more_used}
use Rattle.host_dir.proofs.Sure.{sure}
use Rattle.host_dir.proofs.ports.Ports.add.Goals as goal

pub invariant_of-self : goal.invariant_of-self
invariant_of-self c =
    let before = c.self.invariant in
    let keys = sure c.insert.result _ (c.insert.ensures.succeeds (search rules)) c.insert.ensures.keys in
    (before.0, before.1, rw (keys) (more_used c.args.port c.self.inside.next c.self.inside.used.keys before.2))
