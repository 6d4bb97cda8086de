use Rattle.net_base.proofs.Shared.{walks_exactly}
use Rattle.world_text.proofs.law.paths_are_walked.Goals as goal

pub returns : goal.returns
returns c = walks_exactly
