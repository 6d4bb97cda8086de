use Rattle.prefix_law.proofs.Remotes.{of_data}
use Rattle.prefix_law.proofs.imports.own_is_of_data.Goals as goal

pub returns : goal.returns
returns c = of_data
