-- The text of the worked world of UDP, and a world with each kind of line.
use Rattle.std.specs.Prelude.{ℕ, List, [], ◌∷◌, ◌++◌, Some, None, codes}
use Rattle.net_base.specs.declared.address.Proto.TheVariants as proto
use Rattle.net_base.specs.declared.headers.Headers.{Headers}
use Rattle.net_base.specs.declared.names.Mode.TheVariants as mode
use Rattle.net_base.specs.declared.world.Fate.TheVariants as fate
use Rattle.net_base.specs.declared.world.HostSpec.{HostSpec}
use Rattle.net_base.specs.declared.world.MediumSpec.{MediumSpec}
use Rattle.net_base.specs.declared.world.Step.{Step}
use Rattle.net_base.specs.declared.world.Step.TheVariants as step
use Rattle.net_base.specs.declared.world.World.{World}
use Rattle.net_base.specs.declared.timer.Timers.TheVariants.{Measured}
use Rattle.net_base.specs.DatagramHeaders.{headers_bytes}
use Rattle.world_text.specs.Worked.{ip, script_with, small_bundle}

-- The worked world of UDP.

-- its lines
abbrev pub datagram_head : List ℕ
datagram_head =
    codes "networld 1\nend 60000\nseed 7\nmedium ether0 1500\nhost anna il udp\n"
    ++ (codes "if ether0 135.104.9.6 255.255.255.0\nhost helix il udp\n"
    ++ (codes "if ether0 135.104.9.31 255.255.255.0\nscript anna\nopen c /net/udp/clone\n"
    ++ (codes "write c connect 135.104.9.31!7 5000\nopen d /net/udp/0/data\nwrite d hi\n"
    ++ (codes "script helix\nopen c /net/udp/clone\nwrite c connect 135.104.9.6!5000 7\n"
    ++ (codes "open d /net/udp/0/data\nread d 8192\n")))))

-- its text
abbrev pub datagram_text : List ℕ
datagram_text = datagram_head ++ (codes "ndb\n" ++ small_bundle)

-- A world with each kind of line.

abbrev pub lossy_medium : MediumSpec
lossy_medium = record {
  number = 0;
  name = codes "ether0";
  mtu = 1500;
  loss = 10;
  twice = 0;
  later = 20;
  fates = record { first = 1; last = 1; fate = fate.Lose } ∷ record { first = 3; last = 5; fate = fate.Deliver } ∷ [];
}

abbrev pub example_medium : MediumSpec
example_medium = record { number = 1; name = codes "ether1"; mtu = 576; loss = 0; twice = 0; later = 0; fates = [] }

abbrev pub gate : HostSpec
gate = record {
  name = codes "gate";
  nets = proto.Udp ∷ proto.Il ∷ [];
  ifaces = record { medium = 1; ip = ip 10 0 0 1; mask = ip 255 0 0 0 } ∷ record { medium = 0; ip = ip 135 104 9 1; mask = ip 255 255 255 0 } ∷ [];
  routes = record { net = 0; mask = 0; gateway = ip 10 0 0 2 } ∷ [];
  starts = 7 ∷ 4294967295 ∷ [];
}

-- who asked, and whom
abbrev pub example_asked : Headers
example_asked = record { remote = record { ip = ip 135 104 9 6; port = 5000 }; local = record { ip = ip 135 104 9 31; port = 53 }; iface = ip 135 104 9 31 }

abbrev pub example_steps : List Step
example_steps =
    step.Until 10
    ∷ step.Open (codes "c") (codes "/net/il/clone") None
    ∷ step.Open (codes "d") (codes "/net/cs") (Some mode.Both)
    ∷ step.Read (codes "d") 8192
    ∷ step.Write (codes "d") (codes "two  words")
    ∷ step.Writex (codes "d") (0 ∷ 10 ∷ 255 ∷ [])
    ∷ step.Writex (codes "d") []
    ∷ step.Close (codes "d")
    ∷ step.Ls (codes "/net")
    ∷ step.Cs (codes "net!$auth!9fs")
    ∷ step.Refresh
    ∷ step.Dial (codes "e") (codes "il!helix!9fs")
    ∷ step.Announce (codes "a") (codes "il!*!9fs")
    ∷ step.Listen (codes "l") (codes "a")
    ∷ step.Accept (codes "f") (codes "l")
    ∷ step.Reject (codes "l")
    ∷ step.Hangup (codes "e")
    ∷ step.Hread (codes "a") 512
    ∷ step.Hwrite (codes "a") (headers_bytes example_asked ++ 104 ∷ 105 ∷ [])
    ∷ step.Dns (codes "a") 1000
    ∷ step.Import (codes "e")
    ∷ step.Ropen (codes "r") (codes "e") (codes "/net/udp/clone") mode.Both
    ∷ step.Rread (codes "r") 32
    ∷ step.Rwrite (codes "r") (codes "two  words")
    ∷ step.Rclose (codes "r")
    ∷ step.Export (codes "f")
    ∷ []

abbrev pub every_line : World
every_line = record { end = 60000; seed = 18446744073709551615; timers = Measured; media = lossy_medium ∷ example_medium ∷ []; hosts = gate ∷ []; scripts = script_with 0 example_steps ∷ []; dbs = record { moment = 0; db = [] } ∷ record { moment = 20; db = [] } ∷ [] }
