-- How a run ends.
use Rattle.std.specs.Prelude.{List}
use Rattle.net_base.specs.declared.world.World.{World}
use Rattle.net_base.specs.Net.{Net}
use Rattle.net_base.specs.Tasks.{Tasks}
use Rattle.net_base.specs.declared.end.RunEnd.{RunEnd}
use Rattle.net_base.specs.Ends.{EndsBy}
use Rattle.host_net.specs.Advancing.{AfterAll}
use Rattle.net_guests.specs.Visits.{Visit}

-- the net ends so after each history in which these callers have the entries that they know
abbrev pub EndAllSo : Tasks → World → List Visit → RunEnd → Type 0
EndAllSo ts w vs end = AfterAll ts w vs (λ (net : Net). EndsBy ts w net end)
