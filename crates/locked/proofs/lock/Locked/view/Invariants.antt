use Rattle.std.proofs.Common.{◌≡◌}
use Rattle.locked.proofs.lock.Locked.view.Given as goal

-- a round that finds another actor leaves the pass as it was
abbrev pub invariant-loop : goal.invariant-loop
invariant-loop g l = l.pass ≡ l.fn.pass
