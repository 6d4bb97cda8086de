use Rattle.history_laws.proofs.Limits.{within, full, full_fault}
use Rattle.history_laws.proofs.law.callers_have_room.Goals as goal

pub returns : goal.returns
returns c = record { within = within; full = full; fault = full_fault }
