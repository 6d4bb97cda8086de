-- Small worlds in which the theorems are false without their premises: one host, one link, a script that waits, and a script that grows.
use Rattle.std.specs.Prelude.{ℕ, false, List, [], ◌∷◌, None, codes}
use Rattle.net_base.specs.declared.actor.ActorName.TheVariants as name
use Rattle.net_base.specs.declared.address.Proto.TheVariants as proto
use Rattle.net_base.specs.declared.event.Event.TheVariants as event
use Rattle.net_base.specs.declared.history.Entry.{Entry}
use Rattle.net_base.specs.declared.reply.Reply.TheVariants as reply
use Rattle.net_base.specs.declared.timer.Timers.TheVariants as timers
use Rattle.net_base.specs.declared.world.HostSpec.{HostSpec}
use Rattle.net_base.specs.declared.world.MediumSpec.{MediumSpec}
use Rattle.net_base.specs.declared.world.Step.TheVariants as step
use Rattle.net_base.specs.declared.world.World.{World}

abbrev pub small_host : HostSpec
small_host = record { name = codes "a"; nets = proto.Udp ∷ []; ifaces = []; routes = []; starts = [] }

abbrev pub small_medium : MediumSpec
small_medium = record { number = 0; name = codes "m"; mtu = 1500; loss = 0; twice = 0; later = 0; fates = [] }

-- script 0 has no step, and script 1 waits for moment m
abbrev pub small : ℕ → World
small m =
    record {
      end = 10;
      seed = 1;
      timers = timers.Fixed;
      media = small_medium ∷ [];
      hosts = small_host ∷ [];
      scripts = record { host = 0; steps = [] } ∷ record { host = 0; steps = step.Until m ∷ [] } ∷ [];
      dbs = record { moment = 0; db = [] } ∷ [];
    }

-- a history with one entry: the clock advances to moment m
abbrev pub moved : ℕ → List Entry
moved m =
    record { caller = 3; actor = name.Clock; event = event.Move m; reply = reply.Ok; moment = 0; cites = None; emits = None; ended = false } ∷ []
