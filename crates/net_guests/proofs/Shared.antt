-- What other crates cite of these proofs.

-- whether a duty is owed, and which stands first
pub use Rattle.net_guests.proofs.Firsts.{first_some, free_none, owes_some}
-- a caller's number goes from one pass to another, and what is known of guests goes with it
pub use Rattle.net_guests.proofs.Handing.{apart_test, none_more}
-- the passes of guests come together, and with them what each guest knows
pub use Rattle.net_guests.proofs.Passes.{all_with, finished, gathered, gathering, gathers_on, holds_all, itself, kept, last_or}
