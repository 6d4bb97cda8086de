use Rattle.std.proofs.Common.{◌≡◌, ℕ, ◌||◌, drop}
use Rattle.std.specs.List.{list_any}
use Rattle.net_chart.specs.Frames.{same_frame}
use Rattle.net_chart.specs.Things.{arrives_in}
use Rattle.net_chart.proofs.past.arrivals_in.Given as goal

-- a frame has a copy that came, or one that comes later
abbrev pub invariant-loop-entry : goal.invariant-loop-entry
invariant-loop-entry l =
    (key : ℕ × ℕ) → (list_any (same_frame key) l.came.keys || arrives_in (drop l.entry-index l.entries) key) ≡ arrives_in l.entries key
