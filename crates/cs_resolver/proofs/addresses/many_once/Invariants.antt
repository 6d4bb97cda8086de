use Rattle.std.proofs.Common.{◌≡◌, take}
use Rattle.net_base.specs.Cs.{once_each}
use Rattle.cs_resolver.proofs.addresses.many_once.Given as goal

abbrev pub invariant-loop-number : goal.invariant-loop-number
invariant-loop-number l = l.once.keys ≡ once_each (take l.number-index l.numbers)
