-- What other crates cite of these proofs.

-- beginnings of one list, the lists of a number, and entries at the end
pub use Rattle.journal.proofs.Lists.{at-append, at-snoc, in-gain, prefix_snoc, prefix_trans}
-- each kind of step keeps the rule
pub use Rattle.journal.proofs.Steps.{in-callers, in_has_caller, not_both}
