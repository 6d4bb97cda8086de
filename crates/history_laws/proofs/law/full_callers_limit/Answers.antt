use Rattle.history_laws.proofs.Limits.{owes_at_limit, is_limited, found_limited}
use Rattle.history_laws.proofs.law.full_callers_limit.Goals as goal

pub returns : goal.returns
returns c = record { owes = owes_at_limit; could = is_limited; only = found_limited }
