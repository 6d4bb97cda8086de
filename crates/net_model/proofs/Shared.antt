-- What other crates cite of these proofs.

-- the first bad line of an input, and an answer to it, by whether the input is over the limit of its command
pub use Rattle.net_model.proofs.BadLines.{answer_within, given_good, told_of, within_limit}
-- how the parts of a call make its end
pub use Rattle.net_model.proofs.Endings.{answered_failed, ends_told}
-- what the statuses say, from how a call ends
pub use Rattle.net_model.proofs.Statuses.{IsGood, Sound, bad_reads, causes_of, complete, good_of, same_command, status_of, told_good, told_input, took_all}
