-- A small world: one host, whose script sends itself a datagram.
use Rattle.std.specs.Prelude.{[], ◌∷◌, codes}
use Rattle.net_base.specs.declared.address.Proto.TheVariants as proto
use Rattle.net_base.specs.declared.world.HostSpec.{HostSpec}
use Rattle.net_base.specs.declared.world.MediumSpec.{MediumSpec}
use Rattle.net_base.specs.declared.world.Script.{Script}
use Rattle.net_base.specs.declared.world.Step.TheVariants as step
use Rattle.net_base.specs.declared.world.World.{World}
use Rattle.net_base.specs.declared.timer.Timers.TheVariants.{Fixed}

abbrev pub medium : MediumSpec
medium = record { number = 0; name = codes "ether0"; mtu = 1500; loss = 0; twice = 0; later = 0; fates = [] }

abbrev pub worked_anna : HostSpec
worked_anna = record {
  name = codes "anna";
  nets = proto.Il ∷ proto.Udp ∷ [];
  ifaces = record { medium = 0; ip = 2271742214; mask = 4294967040 } ∷ [];
  routes = [];
  starts = [];
}

abbrev pub worked_script : Script
worked_script = record { host = 0; steps = step.Until 1 ∷ [] }

abbrev pub echo_world : World
echo_world = record { end = 60000; seed = 7; timers = Fixed; media = medium ∷ []; hosts = worked_anna ∷ []; scripts = worked_script ∷ []; dbs = record { moment = 0; db = [] } ∷ [] }
