-- What other crates cite of these proofs.

-- callers that can continue
pub use Rattle.turn_orders.proofs.Coming.{comes_only, comes_there}
-- what a turn costs, and the preemptions that are left after a history
pub use Rattle.turn_orders.proofs.Costs.{cost_early, cost_first, cost_free, cost_same, cost_waits, cost_within, is_short, left_is, lowest_first}
-- a history is the list of its callers
pub use Rattle.turn_orders.proofs.Growing.{is_its_callers, preempts_push}
-- the steps of a search
pub use Rattle.turn_orders.proofs.Searching.{left-append, search_begins, search_ends, search_goes_back, search_goes_on, search_turns}
pub use Rattle.turn_orders.proofs.RefusedPaths.{refusals_begin, refusals_end, refusals_go_back, refusals_go_on, refusals_turn}
pub use Rattle.turn_orders.proofs.Growing.{turns-append}
-- passes
pub use Rattle.turn_orders.proofs.Numbering.{first_pass, histories_more, last_pass, next_pass, onto-append, told_more}
-- the list of histories, and what is reported of it
pub use Rattle.turn_orders.proofs.Listing.{listed_within}
pub use Rattle.turn_orders.proofs.Telling.{outcome_itself, outcomes_equal, told_new}
