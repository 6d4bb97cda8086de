use Rattle.std.proofs.Common.{◌≡◌, take}
use Rattle.std.specs.Prelude.{flat_map}
use Rattle.net_base.specs.Cs.{address_lines}
use Rattle.cs_resolver.specs.Targets.{target_texts}
use Rattle.cs_resolver.proofs.resolve.all_lines.Given as goal

abbrev pub invariant-loop-net : goal.invariant-loop-net
invariant-loop-net l = l.lines ≡ flat_map (address_lines l.db l.service (target_texts l.targets)) (take l.net-index l.nets)
