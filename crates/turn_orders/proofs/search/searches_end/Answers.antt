use Rattle.turn_orders.proofs.Searching.{search_ends}
use Rattle.turn_orders.proofs.search.searches_end.Goals as goal

pub returns : goal.returns
returns c = search_ends
