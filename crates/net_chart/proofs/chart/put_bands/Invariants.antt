use Rattle.std.proofs.Common.{◌≡◌, ◌++◌, drop}
use Rattle.std.specs.Prelude.{flat_map}
use Rattle.net_chart.specs.Drawing.{band_text}
use Rattle.net_chart.proofs.chart.put_bands.Given as goal

-- what is written, and what is still to write
abbrev pub invariant-loop-place : goal.invariant-loop-place
invariant-loop-place l =
    l.out ++ flat_map (band_text l.page l.width) (drop l.place-index l.place-items) ≡ l.initial.out ++ flat_map (band_text l.page l.width) l.place-items
