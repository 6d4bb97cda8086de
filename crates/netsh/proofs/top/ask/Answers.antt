use Rattle.std.proofs.Common.{refl}
use Rattle.netsh.proofs.Statuses.{causes_of}
use Rattle.netsh.proofs.top.ask.Goals as goal

pub returns-in-Answered-clause-ends : goal.returns-in-Answered-clause-ends
returns-in-Answered-clause-ends g c = (c.in-Answered.ensures.answered c.in-Answered.status refl).0

pub returns-in-Answered-clause-causes : goal.returns-in-Answered-clause-causes
returns-in-Answered-clause-causes g c = causes_of _ _ _ _ (returns-in-Answered-clause-ends g c)
