use Rattle.std.proofs.Common.{take}
use Rattle.net_export.specs.Answered.{AreAnswersOf}
use Rattle.net_export.proofs.answering.answers_by_caller.Given as goal

abbrev pub invariant-loop-session : goal.invariant-loop-session
invariant-loop-session g l = AreAnswersOf l.world (g.E.Entries.list l.history) (take l.session-index l.fn.sessions) l.all.items
