use Rattle.turn_orders.proofs.Searching.{search_goes_on}
use Rattle.turn_orders.proofs.search.searches_go_on.Goals as goal

pub returns : goal.returns
returns c = search_goes_on
