use Rattle.std.proofs.Common.{◌≡◌, ◌++◌, drop}
use Rattle.std.specs.Prelude.{flat_map}
use Rattle.std.specs.List.{enumerate_from}
use Rattle.net_chart.specs.Drawing.{column_text}
use Rattle.net_chart.proofs.chart.put_columns.Given as goal

-- what is written, and what is still to write
abbrev pub invariant-loop-number : goal.invariant-loop-number
invariant-loop-number l =
    l.out ++ flat_map (column_text l.bottom) (enumerate_from l.number (drop l.number l.hosts)) ≡ l.initial.out ++ flat_map (column_text l.bottom) (enumerate_from 0 l.hosts)
