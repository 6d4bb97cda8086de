use Rattle.std.proofs.Common.{◌≡◌}
use Rattle.thread_tests.proofs.one_host.serves.Given as goal

abbrev pub invariant-loop : goal.invariant-loop
invariant-loop g l = l.guest.caller ≡ l.initial.guest.caller
