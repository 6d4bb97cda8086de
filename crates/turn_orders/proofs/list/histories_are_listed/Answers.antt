use Rattle.turn_orders.proofs.Listing.{found_all, listed_within}
use Rattle.turn_orders.proofs.list.histories_are_listed.Goals as goal

pub returns : goal.returns
returns c = record { all = found_all; only = listed_within }
