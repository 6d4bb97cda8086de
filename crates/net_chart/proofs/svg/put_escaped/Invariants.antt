use Rattle.std.proofs.Common.{◌≡◌, ◌++◌, drop}
use Rattle.net_chart.specs.Svg.{svg_escaped}
use Rattle.net_chart.proofs.svg.put_escaped.Given as goal

-- what is written, and what is still to write
abbrev pub invariant-loop-byte : goal.invariant-loop-byte
invariant-loop-byte l = l.out ++ svg_escaped (drop l.byte-index l.text) ≡ l.initial.out ++ svg_escaped l.text
