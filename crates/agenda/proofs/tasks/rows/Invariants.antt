use Rattle.std.proofs.Common.{◌≡◌, ℕ, None, length}
use Rattle.agenda.specs.Given.{task_at}
use Rattle.agenda.proofs.tasks.rows.Given as goal

abbrev pub invariant-loop : goal.invariant-loop
invariant-loop g l = (length l.tasks.items ≡ l.counter) × ((c : ℕ) → task_at l.tasks.items c ≡ None)
