use Rattle.workers.proofs.Waiting.{free, doubled, most}
use Rattle.workers.proofs.law.patience_grows.Goals as goal

pub returns : goal.returns
returns c = record { free = free; doubled = doubled; most = most }
