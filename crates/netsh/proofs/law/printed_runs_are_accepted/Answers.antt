use Rattle.netsh.proofs.Accepted.{run_accepted}
use Rattle.netsh.proofs.law.printed_runs_are_accepted.Goals as goal

pub returns : goal.returns
returns c = run_accepted c.legal_histories_are_plain.ensures c.printed_histories_are_handed_in.ensures c.worlds_are_spelled.ensures.complete
