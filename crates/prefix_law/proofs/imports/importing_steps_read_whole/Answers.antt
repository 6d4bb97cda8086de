use Rattle.prefix_law.proofs.Remotes.{whole}
use Rattle.prefix_law.proofs.imports.importing_steps_read_whole.Goals as goal

pub returns : goal.returns
returns c = λ h k s is. whole h k s is
