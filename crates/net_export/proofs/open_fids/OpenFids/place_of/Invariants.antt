use Rattle.net_export.proofs.Opened.{Passes}
use Rattle.net_export.proofs.open_fids.OpenFids.place_of.Given as goal

-- those so far are less
abbrev pub invariant-loop-place : goal.invariant-loop-place
invariant-loop-place l = Passes l.fid l.self.fids.items l.place
