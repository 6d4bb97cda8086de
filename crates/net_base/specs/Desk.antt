-- The steps of the desk of a host, which keeps a version, and of the clock, which keeps nothing.
use Rattle.std.specs.Prelude.{ℕ, List, [], Option, Some, None, bytes_eq, codes, nat_le, if◌then◌else◌}
use Rattle.std.specs.Option.{option_map}
use Rattle.net_base.specs.declared.event.Event.{Event}
use Rattle.net_base.specs.declared.event.Event.TheVariants as event
use Rattle.net_base.specs.declared.names.Mode.{Mode}
use Rattle.net_base.specs.declared.names.Node.{Node}
use Rattle.net_base.specs.declared.names.Node.TheVariants as node
use Rattle.net_base.specs.declared.reply.Reply.{Reply}
use Rattle.net_base.specs.declared.reply.Reply.TheVariants as reply
use Rattle.net_base.specs.declared.world.HostSpec.{HostSpec}
use Rattle.net_base.specs.declared.world.Version.{Version}
use Rattle.net_base.specs.ActorStep.{Step, replies, when}
use Rattle.net_base.specs.Cs.{CsAnswer, Lines, Refused, cs_list}
use Rattle.net_base.specs.Paths.{walk, may_open, names}
use Rattle.net_base.specs.Versions.{database_of, in_force}

-- the desk of a host: the number of the version that cs searches
pub record Desk : Type 0 where
  pub version : ℕ

-- the desk that was never asked to read again
abbrev pub opening_desk : Desk
opening_desk = record { version = 0 }

-- the lines of cs, or the number of what it refuses
abbrev pub cs_reply : CsAnswer → Reply
cs_reply (Lines lines) = reply.Lines lines
cs_reply (Refused n) = reply.CsRefused n

-- the names in /net, else nofile
abbrev pub ls_reply : List ℕ → Reply
ls_reply path = if bytes_eq path (codes "/net") then reply.Names (names node.Root []) else reply.NoFile

-- nofile where the path names nothing, badmode where it may not be opened so; no row answers else
abbrev pub open_refusal : Option Node → Mode → Option Reply
open_refusal None mode = Some reply.NoFile
open_refusal (Some n) mode = if may_open n mode then None else Some reply.BadMode

-- the table of the desk of a host; none where no row answers
abbrev pub desk_reply : List Version → HostSpec → Event → ℕ → Desk → Option Reply
desk_reply dbs h (event.Cs query) now d = Some (cs_reply (cs_list (database_of dbs d.version) h.name h.nets query))
desk_reply dbs h (event.LsPath path) now d = Some (ls_reply path)
desk_reply dbs h (event.OpenPath path mode) now d = open_refusal (walk path) mode
desk_reply dbs h (event.Use name) now d = Some reply.BadFid
desk_reply dbs h (event.Misuse name) now d = Some reply.BadMode
desk_reply dbs h (event.Until moment) now d = when (nat_le moment now) (Some reply.Ok)
desk_reply dbs h event.Refresh now d = Some (reply.Version (in_force now dbs))
desk_reply dbs h _ now d = None

-- a version that is replied is the desk's from then on
abbrev pub desk_after : Reply → Desk → Desk
desk_after (reply.Version n) d = record d { version = n }
desk_after _ d = d

-- the desk replies
abbrev pub desk_replies : Desk → Reply → Step Desk
desk_replies d answer = record { state = desk_after answer d; outcome = replies answer None }

-- the step of the desk of a host
abbrev pub desk_step : List Version → HostSpec → Event → ℕ → Desk → Option (Step Desk)
desk_step dbs h e now d = option_map (desk_replies d) (desk_reply dbs h e now d)

-- the table of the clock
abbrev pub clock_reply : Event → Option Reply
clock_reply (event.Move moment) = Some reply.Ok
clock_reply _ = None
