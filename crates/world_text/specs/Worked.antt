-- Words for worlds and entries of worked histories.
use Rattle.std.specs.Prelude.{ℕ, ◌+◌, ◌*◌, true, false, List, [], ◌∷◌, ◌++◌, Some, None, codes}
use Rattle.net_base.specs.declared.actor.ActorName.{ActorName}
use Rattle.net_base.specs.declared.address.Addr.{Addr}
use Rattle.net_base.specs.declared.address.Pair.{Pair}
use Rattle.net_base.specs.declared.address.Proto.TheVariants as proto
use Rattle.net_base.specs.declared.event.Event.{Event}
use Rattle.net_base.specs.declared.history.Entry.{Entry}
use Rattle.net_base.specs.declared.il.IlKind.{IlKind}
use Rattle.net_base.specs.Ndb.{NdbPair}
use Rattle.net_base.specs.declared.packet.BodyHeader.TheVariants as shown
use Rattle.net_base.specs.declared.packet.Header.{Header}
use Rattle.net_base.specs.declared.reply.Reply.{Reply}
use Rattle.net_base.specs.declared.world.FateRange.{FateRange}
use Rattle.net_base.specs.declared.world.HostSpec.{HostSpec}
use Rattle.net_base.specs.declared.world.Script.{Script}
use Rattle.net_base.specs.declared.world.Step.{Step}
use Rattle.net_base.specs.declared.world.World.{World}
use Rattle.net_base.specs.declared.timer.Timers.TheVariants.{Fixed}

-- Addresses.

abbrev pub ip : ℕ → ℕ → ℕ → ℕ → ℕ
ip a b c d = a * 16777216 + b * 65536 + c * 256 + d

abbrev pub addr_at : ℕ → ℕ → Addr
addr_at address port = record { ip = address; port = port }

abbrev pub anna : ℕ
anna = ip 135 104 9 6

abbrev pub helix : ℕ
helix = ip 135 104 9 31

abbrev pub pair_between_them : Addr → Addr → Pair
pair_between_them local remote = record { local = local; remote = remote }

-- The database.

abbrev pub is : List ℕ → List ℕ → NdbPair
is attr value = record { attr = attr; value = value }

abbrev pub tuples : List (List (List NdbPair))
tuples =
    ((is (codes "ipnet") (codes "astro") ∷ is (codes "ip") (codes "135.104.0.0") ∷ is (codes "ipmask") (codes "255.255.0.0") ∷ [])
    ∷ (is (codes "auth") (codes "bootes") ∷ []) ∷ [])
    ∷ ((is (codes "ipnet") (codes "astro9") ∷ is (codes "ip") (codes "135.104.9.0") ∷ is (codes "ipmask") (codes "255.255.255.0") ∷ [])
    ∷ (is (codes "auth") (codes "helix") ∷ []) ∷ [])
    ∷ ((is (codes "sys") (codes "anna") ∷ is (codes "ip") (codes "135.104.9.6") ∷ [])
    ∷ (is (codes "dom") (codes "anna.example.com") ∷ []) ∷ [])
    ∷ ((is (codes "sys") (codes "helix") ∷ is (codes "dom") (codes "helix.example.com") ∷ [])
    ∷ (is (codes "ip") (codes "10.0.0.31") ∷ []) ∷ (is (codes "ip") (codes "135.104.9.31") ∷ []) ∷ [])
    ∷ ((is (codes "sys") (codes "bootes") ∷ []) ∷ (is (codes "ip") (codes "135.104.50.2") ∷ []) ∷ [])
    ∷ ((is (codes "il") (codes "9fs") ∷ is (codes "port") (codes "17008") ∷ []) ∷ [])
    ∷ ((is (codes "udp") (codes "echo") ∷ is (codes "port") (codes "7") ∷ []) ∷ [])
    ∷ []

-- Worlds of hosts on one medium.

abbrev pub host : List ℕ → ℕ → List ℕ → HostSpec
host called address starts =
    record {
      name = called;
      nets = proto.Il ∷ proto.Udp ∷ [];
      ifaces = record { medium = 0; ip = address; mask = ip 255 255 255 0 } ∷ [];
      routes = [];
      starts = starts;
    }

abbrev pub world : ℕ → List FateRange → List HostSpec → List Script → World
world end fates hosts scripts =
    record {
      end = end;
      seed = 7;
      timers = Fixed;
      media = record { number = 0; name = codes "ether0"; mtu = 1500; loss = 0; twice = 0; later = 0; fates = fates } ∷ [];
      hosts = hosts;
      scripts = scripts;
      dbs = record { moment = 0; db = tuples } ∷ [];
    }

abbrev pub script_with : ℕ → List Step → Script
script_with h steps = record { host = h; steps = steps }

-- the text of the database
abbrev pub small_bundle : List ℕ
small_bundle =
    codes "# local network\nipnet=astro ip=135.104.0.0 ipmask=255.255.0.0\n\tauth=bootes\n"
    ++ (codes "ipnet=astro9 ip=135.104.9.0 ipmask=255.255.255.0\n\tauth=helix\n"
    ++ (codes "sys=anna ip=135.104.9.6\n\tdom=anna.example.com\nsys=helix dom=helix.example.com\n"
    ++ (codes "\tip=10.0.0.31\n\tip=135.104.9.31\nsys=bootes\n\tip=135.104.50.2\n"
    ++ (codes "il=9fs port=17008\nudp=echo port=7\n"))))

-- Entries.

-- an entry that nothing owed
abbrev pub unowed_entry : ℕ → ℕ → ActorName → Event → Reply → Entry
unowed_entry now c a e r = record { actor = a; caller = c; moment = now; event = e; cites = None; reply = r; emits = None; ended = false }

-- an entry that the entry s owed
abbrev pub due : ℕ → ℕ → ActorName → ℕ → Event → Reply → Entry
due now c a s e r = record { actor = a; caller = c; moment = now; event = e; cites = Some s; reply = r; emits = None; ended = false }

-- it emits
abbrev pub emits : Entry → Header → Entry
emits x header = record x { emits = Some header }

-- its conversation ended
abbrev pub ends : Entry → Entry
ends x = record x { ended = true }

abbrev pub udp : Addr → Addr → ℕ → Header
udp src dst len = record { src = src; dst = dst; ttl = 255; tos = 0; body = shown.Udp len }

abbrev pub il : Addr → Addr → IlKind → ℕ → ℕ → ℕ → ℕ → Header
il src dst kind spec id ack len = record { src = src; dst = dst; ttl = 255; tos = 0; body = shown.Il kind spec id ack len }
