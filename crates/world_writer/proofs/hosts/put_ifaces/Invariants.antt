use Rattle.std.proofs.Common.{◌≡◌, ◌++◌, drop, map}
use Rattle.world_text.specs.WorldSpelling.{laid, line_of_iface, medium_names}
use Rattle.world_writer.proofs.hosts.put_ifaces.Given as goal

abbrev pub invariant-loop-iface : goal.invariant-loop-iface
invariant-loop-iface l = l.initial.out ++ laid (map (line_of_iface (medium_names l.media)) l.ifaces) ≡ l.out ++ laid (map (line_of_iface (medium_names l.media)) (drop l.iface-index l.ifaces))
