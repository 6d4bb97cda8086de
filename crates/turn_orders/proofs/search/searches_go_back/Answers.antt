use Rattle.turn_orders.proofs.Searching.{search_goes_back}
use Rattle.turn_orders.proofs.search.searches_go_back.Goals as goal

pub returns : goal.returns
returns c = search_goes_back
