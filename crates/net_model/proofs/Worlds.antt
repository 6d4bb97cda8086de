-- Two worlds of two hosts on one medium, over a small database.
use Rattle.std.proofs.Common.{ℕ, List, [], ◌∷◌, ◌++◌, None, unwrap_or, codes, refl}
use Rattle.std.proofs.lemmas.List.Elements.{All-from_recursion}
use Rattle.net_base.specs.declared.address.Proto.TheVariants.{Il, Udp}
use Rattle.net_base.specs.Ndb.{NdbPair}
use Rattle.net_base.specs.declared.world.HostSpec.{HostSpec}
use Rattle.net_base.specs.declared.world.MediumSpec.{MediumSpec}
use Rattle.net_base.specs.declared.world.Script.{Script}
use Rattle.net_base.specs.declared.world.Step.TheVariants as step
use Rattle.net_base.specs.declared.world.Version.{Version}
use Rattle.net_base.specs.declared.world.World.{World}
use Rattle.net_base.specs.declared.timer.Timers.TheVariants.{Fixed}
use Rattle.net_base.specs.NdbBundle.{reading}
use Rattle.net_base.specs.World.{IsDatabase, IsWorld}

abbrev pub small_text : List ℕ
small_text =
    codes "# local network\n"
    ++ codes "ipnet=astro ip=135.104.0.0 ipmask=255.255.0.0\n"
    ++ codes "\tauth=bootes\n"
    ++ codes "ipnet=astro9 ip=135.104.9.0 ipmask=255.255.255.0\n"
    ++ codes "\tauth=helix\n"
    ++ codes "sys=anna ip=135.104.9.6\n"
    ++ codes "\tdom=anna.example.com\n"
    ++ codes "sys=helix dom=helix.example.com\n"
    ++ codes "\tip=10.0.0.31\n"
    ++ codes "\tip=135.104.9.31\n"
    ++ codes "sys=bootes\n"
    ++ codes "\tip=135.104.50.2\n"
    ++ codes "il=9fs port=17008\n"
    ++ codes "udp=echo port=7\n"

abbrev pub small_database : List (List (List NdbPair))
small_database = unwrap_or (reading small_text) []

abbrev pub anna_ip : ℕ
anna_ip = 2271742214

abbrev pub helix_ip : ℕ
helix_ip = 2271742239

abbrev pub ether0 : MediumSpec
ether0 = record { number = 0; name = codes "ether0"; mtu = 1500; loss = 0; twice = 0; later = 0; fates = [] }

-- a host with one interface, whose network has a mask of 24 ones
abbrev pub host_at : List ℕ → ℕ → HostSpec
host_at name ip =
    record {
      name = name;
      nets = Il ∷ Udp ∷ [];
      ifaces = record { medium = 0; ip = ip; mask = 4294967040 } ∷ [];
      routes = [];
      starts = [];
    }

abbrev pub anna : HostSpec
anna = host_at (codes "anna") anna_ip

abbrev pub helix : HostSpec
helix = host_at (codes "helix") helix_ip

-- both hosts with one script each
abbrev pub two_hosts : Script → Script → World
two_hosts first second =
    record {
      end = 60000;
      seed = 7;
      timers = Fixed;
      media = ether0 ∷ [];
      hosts = anna ∷ helix ∷ [];
      scripts = first ∷ second ∷ [];
      dbs = record { moment = 0; db = small_database } ∷ [];
    }

-- a call over IL
abbrev pub il_world : World
il_world =
    two_hosts
    (record {
      host = 0;
      steps =
          step.Until 10 ∷ step.Dial (codes "d") (codes "net!helix!9fs") ∷ step.Write (codes "d") (codes "hello")
          ∷ step.Close (codes "d") ∷ [];
    })
    (record {
      host = 1;
      steps =
          step.Announce (codes "a") (codes "net!*!9fs") ∷ step.Listen (codes "c") (codes "a") ∷ step.Accept (codes "e") (codes "c")
          ∷ step.Read (codes "e") 8192 ∷ step.Read (codes "e") 8192 ∷ step.Close (codes "e") ∷ [];
    })

-- a message over UDP
abbrev pub udp_world : World
udp_world =
    two_hosts
    (record {
      host = 0;
      steps =
          step.Open (codes "c") (codes "/net/udp/clone") None
          ∷ step.Write (codes "c") (codes "connect 135.104.9.31!7 5000")
          ∷ step.Open (codes "d") (codes "/net/udp/0/data") None
          ∷ step.Write (codes "d") (codes "hi")
          ∷ [];
    })
    (record {
      host = 1;
      steps =
          step.Open (codes "c") (codes "/net/udp/clone") None
          ∷ step.Write (codes "c") (codes "connect 135.104.9.6!5000 7")
          ∷ step.Open (codes "d") (codes "/net/udp/0/data") None
          ∷ step.Read (codes "d") 8192
          ∷ [];
    })

pub il_world_is_said : IsWorld il_world
il_world_is_said = record {
  end = refl;
  seed = refl;
  some_media = refl;
  media = refl;
  media_named = refl;
  some_hosts = refl;
  hosts = refl;
  hosts_named = refl;
  hosts_addressed = refl;
  few_scripts = refl;
  scripts = refl;
  versions_timed = refl;
  versions = All-from_recursion (λ (v : Version). IsDatabase v.db) il_world.dbs ((small_text, refl, refl), tt);
}

pub udp_world_is_said : IsWorld udp_world
udp_world_is_said = record {
  end = refl;
  seed = refl;
  some_media = refl;
  media = refl;
  media_named = refl;
  some_hosts = refl;
  hosts = refl;
  hosts_named = refl;
  hosts_addressed = refl;
  few_scripts = refl;
  scripts = refl;
  versions_timed = refl;
  versions = All-from_recursion (λ (v : Version). IsDatabase v.db) udp_world.dbs ((small_text, refl, refl), tt);
}
