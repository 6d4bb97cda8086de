-- What a desk keeps of its world, and its version.
use Rattle.std.specs.Prelude.{◌≡◌, ◌≢◌, ℕ, ◌<◌, Bool, true, false, List, [], length, AllPairs, Option, Some, None, slice_get}
use Rattle.std.specs.Option.{option_map}
use Rattle.net_base.specs.declared.address.Proto.{Proto}
use Rattle.net_base.specs.declared.event.Event.{Event}
use Rattle.net_base.specs.declared.event.Event.TheVariants as event
use Rattle.net_base.specs.declared.history.Outcome.{Outcome}
use Rattle.net_base.specs.declared.reply.Reply.{Reply}
use Rattle.net_base.specs.declared.world.HostSpec.{HostSpec}
use Rattle.net_base.specs.declared.world.Version.{Version}
use Rattle.net_base.specs.declared.world.World.{World}
use Rattle.net_base.specs.ActorStep.{replies}
use Rattle.net_base.specs.Desk.{Desk}

-- the versions of the database, the name and the nets of the host, and the number of the version that cs searches
pub record AtDesk : Type 0 where
  pub dbs : List Version
  pub name : List ℕ
  pub nets : List Proto
  pub version : ℕ

-- the desk of the definitions
abbrev pub desk_at : AtDesk → Desk
desk_at d = record { version = d.version }

-- some nets, each once
pub record AreNets (nets : List Proto) : Type 0 where
  pub some : 0 < length nets
  pub once : AllPairs (λ net other. net ≢ other) nets

-- a host of that name with these nets; a desk asks for nothing else of it
abbrev pub host_at_desk : AtDesk → HostSpec
host_at_desk d = record { name = d.name; nets = d.nets; ifaces = []; routes = []; starts = [] }

-- a host is of that name, with these nets
pub record IsAtHost (d : AtDesk) (h : HostSpec) : Type 0 where
  pub name_is : d.name ≡ h.name
  pub nets_are : d.nets ≡ h.nets

abbrev pub IsAtSome : AtDesk → Option HostSpec → Type 0
IsAtSome d None = ⊥
IsAtSome d (Some h) = IsAtHost d h

-- it is the desk of this host in the world
pub record IsDeskOf (w : World) (h : ℕ) (d : AtDesk) : Type 0 where
  pub databases : d.dbs ≡ w.dbs
  pub host : IsAtSome d (slice_get w.hosts h)

-- an event that leaves a desk its version
abbrev pub leaves_desk : Event → Bool
leaves_desk event.Refresh = false
leaves_desk _ = true

-- this outcome has the reply, and nothing else is given
abbrev pub Replies : Option Reply → Outcome → Type 0
Replies answer o = option_map (λ (r : Reply). replies r None) answer ≡ Some o
