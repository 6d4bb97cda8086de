use Rattle.transcript.proofs.Entries.{printed_told}
use Rattle.transcript.proofs.law.printed_runs_tell.Goals as goal

pub returns : goal.returns
returns c = printed_told
