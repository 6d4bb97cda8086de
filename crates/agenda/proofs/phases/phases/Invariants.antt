use Rattle.std.proofs.Common.{◌≡◌}
use Rattle.agenda.proofs.phases.phases.Given as goal

-- each caller has its player
abbrev pub invariant-loop : goal.invariant-loop
invariant-loop g l = l.players.callers ≡ g.J.Naming.run.roster.callers
