use Rattle.std.proofs.Common.{◌≡◌, ◌++◌, drop, map}
use Rattle.order_search.specs.Marks.{blank_row}
use Rattle.order_search.proofs.marks.Marks.new.Given as goal

abbrev pub invariant-loop-script : goal.invariant-loop-script
invariant-loop-script l = l.rows.items ++ map blank_row (drop l.script-index l.world.scripts) ≡ map blank_row l.world.scripts
