use Rattle.std.proofs.Common.{ℕ, [], ap, sym, subst, arith}
use Rattle.net_base.specs.Stamped.{moment_noted}
use Rattle.journal.specs.Tokens.{HoldsPass}
use Rattle.thread_tests.proofs.one_lock.act_first.Goals as goal

pub act_once-requires-clause-held : goal.act_once-requires-clause-held
act_once-requires-clause-held g c =
    ([], subst (λ (n : ℕ). HoldsPass c.args.pass n []) (sym c.asked_by-asked.ensures.caller) c.requires.held, omega arith)

pub act_once-requires-clause-moment : goal.act_once-requires-clause-moment
act_once-requires-clause-moment g c = ap moment_noted c.requires.seen
