use Rattle.std.proofs.Common.{◌≡◌, length, ◌+◌, ◌-◌, ◌≤◌}
use Rattle.std.specs.Io.KnownBytes.{Consumes}
use Rattle.outside.proofs.source.read_to_end.Given as goal

abbrev pub invariant-loop-taken : goal.invariant-loop-taken
invariant-loop-taken g l =
    (length l.taken ≤ l.limit) ×
    Consumes (g.S.Source.left l.initial.source) (g.S.Source.left l.source) l.taken ×
    (g.S.Source.faults l.source ≡ g.S.Source.faults l.initial.source) ×
    (g.S.Source.reads l.source ≤ g.S.Source.reads l.initial.source + length l.taken)

abbrev pub decreases-loop-taken : goal.decreases-loop-taken
decreases-loop-taken g l = l.limit - length l.taken
