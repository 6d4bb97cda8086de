use Rattle.std.proofs.Common.{◌≡◌, ◌++◌, take, drop}
use Rattle.net_base.specs.Store.{marks_lowered}
use Rattle.net_base.proofs.ndb.runs.lower_marks.Given as goal

-- those so far are lowered
abbrev pub invariant-loop-place : goal.invariant-loop-place
invariant-loop-place l = l.marks.items ≡ marks_lowered l.count (take l.place l.initial.marks.items) ++ drop l.place l.initial.marks.items
