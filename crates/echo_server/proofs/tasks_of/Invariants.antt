use Rattle.std.proofs.Common.{◌≡◌}
use Rattle.echo_server.specs.Giving.{tasks_given}
use Rattle.echo_server.proofs.tasks_of.Given as goal

abbrev pub invariant-loop-place : goal.invariant-loop-place
invariant-loop-place l = l.tasks.items ≡ tasks_given l.place
