use Rattle.std.proofs.Common.{◌≡◌, ◌++◌, ◌∷◌, drop, map, codes, decimal}
use Rattle.net_base.specs.Directory.{taken_from}
use Rattle.host_dir.proofs.names.names_of.Given as goal

abbrev pub invariant-loop-n : goal.invariant-loop-n
invariant-loop-n l = l.names ++ map decimal (taken_from l.n (drop l.n l.slots)) ≡ codes "clone" ∷ map decimal (taken_from 0 l.slots)
