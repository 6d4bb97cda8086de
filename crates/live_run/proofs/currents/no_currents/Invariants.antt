use Rattle.live_run.specs.Currents.{AllNone}
use Rattle.live_run.proofs.currents.no_currents.Given as goal

abbrev pub invariant-loop : goal.invariant-loop
invariant-loop l = AllNone l.counter l.currents.items
