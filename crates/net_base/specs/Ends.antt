-- How a run ends.
use Rattle.std.specs.Prelude.{◌≡◌, true}
use Rattle.net_base.specs.declared.world.World.{World}
use Rattle.net_base.specs.Calm.{done_by, limited_by, stopped_by}
use Rattle.net_base.specs.Net.{Net}
use Rattle.net_base.specs.Tasks.{Tasks, nobody}
use Rattle.net_base.specs.declared.end.RunEnd.{RunEnd}
use Rattle.net_base.specs.declared.end.RunEnd.TheVariants as ends

-- how the net stands that a run leaves, by who played a task in the place of a script
abbrev pub EndsBy : Tasks → World → Net → RunEnd → Type 0
EndsBy ts w net ends.Done = done_by ts w net ≡ true
EndsBy ts w net ends.Stopped = stopped_by ts w net ≡ true
EndsBy ts w net ends.Limit = limited_by ts w net ≡ true

-- how a run ends where each script was played
abbrev pub EndsSo : World → Net → RunEnd → Type 0
EndsSo w net end = EndsBy nobody w net end
