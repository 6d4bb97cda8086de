use Rattle.duties.proofs.Ordered.{puts}
use Rattle.duties.proofs.due_law.puts_keep_the_dues.Goals as goal

pub returns : goal.returns
returns c = puts
