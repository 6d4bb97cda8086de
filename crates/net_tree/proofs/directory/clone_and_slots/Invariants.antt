use Rattle.std.proofs.Common.{◌≡◌, ◌∷◌, map}
use Rattle.std.specs.Prelude.{codes, decimal}
use Rattle.net_tree.specs.Slots.{taken_below}
use Rattle.net_tree.proofs.directory.clone_and_slots.Given as goal

abbrev pub invariant-loop-slot : goal.invariant-loop-slot
invariant-loop-slot l = l.lines ≡ codes "clone" ∷ map decimal (taken_below l.slot l.slots)
