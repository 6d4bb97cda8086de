use Rattle.std.proofs.Common.{◌≡◌, ◌++◌, take, drop}
use Rattle.net_base.specs.Parts.{ends_lowered}
use Rattle.net_base.proofs.ndb.runs.lower.Given as goal

-- those so far are lowered
abbrev pub invariant-loop-place : goal.invariant-loop-place
invariant-loop-place l = l.ends.items ≡ ends_lowered l.count (take l.place l.initial.ends.items) ++ drop l.place l.initial.ends.items
