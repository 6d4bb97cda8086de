use Rattle.script_task.proofs.Replies.{entry_fits, played_fits, step_fits}
use Rattle.script_task.proofs.law.replies_fit.Goals as goal

pub returns-clause-entries : goal.returns-clause-entries
returns-clause-entries c = entry_fits

pub returns-clause-steps : goal.returns-clause-steps
returns-clause-steps c = step_fits

pub returns-clause-works : goal.returns-clause-works
returns-clause-works c = played_fits
