use Rattle.std.proofs.Common.{◌≡◌, ◌+◌, ◌≤◌, ◌++◌, take}
use Rattle.std.specs.Prelude.{flat_map}
use Rattle.cs_resolver.specs.Probes.{numbers_at}
use Rattle.cs_resolver.proofs.numbers.add_all.Given as goal

abbrev pub invariant-loop-spot : goal.invariant-loop-spot
invariant-loop-spot g l =
    (l.numbers.items ≡ l.initial.numbers.items ++ flat_map (numbers_at l.index l.kind) (take l.spot-index l.spots))
    × (l.steps ≤ l.initial.steps + l.spot-index)
