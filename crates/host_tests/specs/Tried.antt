-- A small world for the tests, and actors to which so many works led.
use Rattle.std.specs.Prelude.{◌≡◌, ℕ, ◌≤◌, List, [], ◌∷◌, length, codes}
use Rattle.net_base.specs.declared.actor.ActorName.{ActorName}
use Rattle.net_base.specs.declared.address.Proto.TheVariants as proto
use Rattle.net_base.specs.declared.world.HostSpec.{HostSpec}
use Rattle.net_base.specs.declared.world.MediumSpec.{MediumSpec}
use Rattle.net_base.specs.declared.world.World.{World}
use Rattle.net_base.specs.declared.timer.Timers.TheVariants.{Fixed}
use Rattle.net_base.specs.Actors.{Actor, opening_actor}
use Rattle.net_base.specs.Net.{WorkAt, played}
use Rattle.net_actors.specs.Together.{AreActors, Numbered}

abbrev pub tried_host : List ℕ → ℕ → HostSpec
tried_host called address =
    record {
      name = called;
      nets = proto.Il ∷ proto.Udp ∷ [];
      ifaces = record { medium = 0; ip = address; mask = 4294967040 } ∷ [];
      routes = [];
      starts = [];
    }

abbrev pub tried_medium : MediumSpec
tried_medium = record { number = 0; name = codes "ether0"; mtu = 1500; loss = 0; twice = 0; later = 0; fates = [] }

abbrev pub tried_world : World
tried_world =
    record {
      end = 60000;
      seed = 7;
      timers = Fixed;
      media = tried_medium ∷ [];
      hosts = tried_host (codes "anna") 2271742214 ∷ tried_host (codes "helix") 2271742239 ∷ [];
      scripts = [];
      dbs = record { moment = 0; db = [] } ∷ [];
    }

-- at most n works led the actor to this state
pub record IsLedTo (w : World) (a : ActorName) (s : Actor) (n : ℕ) : Type 0 where
  pub works : List WorkAt
  pub led : s ≡ played w a (opening_actor w.timers a) works
  pub few : length works ≤ n

-- they are the actors of the world, and at most n works led to each
pub record AreLedTo (w : World) (v : Numbered) (n : ℕ) : Type 0 where
  pub states : ActorName → Actor
  pub are : AreActors w v states
  pub led : (a : ActorName) → IsLedTo w a (states a) n
