use Rattle.net_actors.specs.Together.{AreFirst}
use Rattle.net_actors.proofs.actors.all_actors.Given as goal

abbrev pub invariant-loop-number : goal.invariant-loop-number
invariant-loop-number l = AreFirst l.world l.number l.actors.items
