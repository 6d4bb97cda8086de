-- The status by how a run ends.
use Rattle.std.specs.Prelude.{ℕ}
use Rattle.net_base.specs.declared.end.RunEnd.{RunEnd}
use Rattle.net_base.specs.declared.end.RunEnd.TheVariants as ended

abbrev pub status_of : RunEnd → ℕ
status_of ended.Done = 0
status_of ended.Stopped = 3
status_of ended.Limit = 4
