use Rattle.std.proofs.Common.{◌≡◌, ◌-◌}
use Rattle.end_rows.specs.IlCounts.{come_in_turn}
use Rattle.end_rows.proofs.il.IlCount.come_all.Given as goal

-- the turns that are left
abbrev pub invariant-loop-turn : goal.invariant-loop-turn
invariant-loop-turn l = come_in_turn (l.turns - l.turn) l.self ≡ come_in_turn l.turns l.initial.self
