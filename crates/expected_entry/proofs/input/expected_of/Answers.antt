use Rattle.std.proofs.Common.{refl}
use Rattle.expected_entry.proofs.input.expected_of.Goals as goal

pub summary_of-requires-clause-legal : goal.summary_of-requires-clause-legal
summary_of-requires-clause-legal c = c.in-Ok.ensures.legal refl

pub returns-in_ok-summary_of-in-Ok : goal.returns-in_ok-summary_of-in-Ok
returns-in_ok-summary_of-in-Ok c = (c.in-Ok.ensures.legal refl, c.in-Ok.ensures.timed refl, c.in_ok-summary_of-in-Ok.ensures)
