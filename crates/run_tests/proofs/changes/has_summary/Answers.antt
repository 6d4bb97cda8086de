use Rattle.std.proofs.Common.{refl}
use Rattle.run_tests.proofs.changes.has_summary.Goals as goal

pub summary_of-requires-clause-legal : goal.summary_of-requires-clause-legal
summary_of-requires-clause-legal c = c.in-Ok.ensures.legal refl

pub summary_of-requires-clause-timed : goal.summary_of-requires-clause-timed
summary_of-requires-clause-timed c = c.in-Ok.ensures.timed refl
