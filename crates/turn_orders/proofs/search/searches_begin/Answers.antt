use Rattle.std.proofs.Common.{refl}
use Rattle.turn_orders.proofs.Searching.{search_begins}
use Rattle.turn_orders.proofs.search.searches_begin.Goals as goal

pub returns : goal.returns
returns c = record { all = search_begins; nothing = λ w p. refl }
