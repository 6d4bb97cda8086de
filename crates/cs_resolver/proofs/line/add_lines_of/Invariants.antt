use Rattle.std.proofs.Common.{◌≡◌, ◌++◌, take, map}
use Rattle.std.specs.Prelude.{flat_map}
use Rattle.net_base.specs.Cs.{cs_line}
use Rattle.cs_resolver.specs.Targets.{target_text}
use Rattle.cs_resolver.proofs.line.add_lines_of.Given as goal

abbrev pub invariant-loop-target : goal.invariant-loop-target
invariant-loop-target l = l.lines ≡ l.initial.lines ++ flat_map (λ target. map (cs_line l.net (target_text target)) l.ports) (take l.target-index l.targets)
