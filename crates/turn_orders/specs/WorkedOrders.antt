-- Worked cases: scripts on one host.
use Rattle.std.specs.Prelude.{List, [], ◌∷◌, codes}
use Rattle.net_base.specs.declared.address.Proto.TheVariants as proto
use Rattle.net_base.specs.declared.timer.Timers.TheVariants.{Fixed}
use Rattle.net_base.specs.declared.world.Script.{Script}
use Rattle.net_base.specs.declared.world.Step.{Step}
use Rattle.net_base.specs.declared.world.Step.TheVariants as step
use Rattle.net_base.specs.declared.world.World.{World}

abbrev pub script_with : List Step → Script
script_with steps = record { host = 0; steps = steps }

-- a host, and these scripts on it
abbrev pub host_with : List Script → World
host_with scripts =
    record {
      end = 60000;
      seed = 7;
      timers = Fixed;
      media = record { number = 0; name = codes "ether0"; mtu = 1500; loss = 0; twice = 0; later = 0; fates = [] } ∷ [];
      hosts = record { name = codes "anna"; nets = proto.Il ∷ []; ifaces = []; routes = []; starts = [] } ∷ [];
      scripts = scripts;
      dbs = record { moment = 0; db = [] } ∷ [];
    }

-- a script with two steps, and one with one step
abbrev pub two_and_one : World
two_and_one = host_with (script_with (step.Refresh ∷ step.Ls (codes "/net") ∷ []) ∷ script_with (step.Close (codes "d") ∷ []) ∷ [])

-- a script that waits, and one that does not
abbrev pub waiting : World
waiting = host_with (script_with (step.Until 10 ∷ []) ∷ script_with (step.Refresh ∷ []) ∷ [])
