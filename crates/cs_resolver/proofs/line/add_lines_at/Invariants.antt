use Rattle.std.proofs.Common.{◌≡◌, ◌++◌, take, map}
use Rattle.net_base.specs.Cs.{cs_line}
use Rattle.cs_resolver.specs.Targets.{target_text}
use Rattle.cs_resolver.proofs.line.add_lines_at.Given as goal

abbrev pub invariant-loop-port : goal.invariant-loop-port
invariant-loop-port l = l.lines ≡ l.initial.lines ++ map (cs_line l.net (target_text l.target)) (take l.port-index l.ports)
