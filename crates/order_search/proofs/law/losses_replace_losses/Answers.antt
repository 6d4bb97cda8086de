use Rattle.order_search.proofs.Losing.{without_again}
use Rattle.order_search.proofs.law.losses_replace_losses.Goals as goal

pub returns : goal.returns
returns c = without_again
