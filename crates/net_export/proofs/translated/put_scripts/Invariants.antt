use Rattle.net_export.proofs.Placing.{Placing}
use Rattle.net_export.proofs.translated.put_scripts.Given as goal

abbrev pub invariant-loop-session : goal.invariant-loop-session
invariant-loop-session l = Placing l.fn.told l.session-index l.scripts.items
