use Rattle.turn_orders.proofs.Searching.{search_turns}
use Rattle.turn_orders.proofs.search.searches_turn.Goals as goal

pub returns : goal.returns
returns c = search_turns
