use Rattle.std.proofs.Common.{◌≡◌}
use Rattle.thread_tests.proofs.one_host.carries.Given as goal

abbrev pub invariant-loop : goal.invariant-loop
invariant-loop g l = l.courier.caller ≡ l.initial.courier.caller
