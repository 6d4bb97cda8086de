use Rattle.std.proofs.Common.{refl}
use Rattle.view_tests.proofs.steps.checked_steps.Goals as goal

pub steps_of-requires-clause-legal : goal.steps_of-requires-clause-legal
steps_of-requires-clause-legal c = c.in-Ok.ensures.legal refl
