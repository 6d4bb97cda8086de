use Rattle.std.proofs.Common.{◌≡◌, ◌+◌, ◌≤◌, take}
use Rattle.std.specs.Prelude.{flat_map}
use Rattle.std.specs.List.{sum_by}
use Rattle.net_base.specs.Cs.{address_lines, nets_of}
use Rattle.cs_resolver.specs.Probes.{service_found}
use Rattle.cs_resolver.specs.Targets.{target_texts}
use Rattle.cs_resolver.proofs.indexed.all_lines.Given as goal

abbrev pub invariant-loop-net : goal.invariant-loop-net
invariant-loop-net g l =
    (l.lines ≡ flat_map (address_lines l.index l.query.service.now (target_texts l.targets)) (nets_of (take l.net-index l.nets) l.query.net.now))
    × (l.steps ≤ l.initial.steps + sum_by (service_found l.index l.query.service.now) (nets_of (take l.net-index l.nets) l.query.net.now))
