-- What each row of an actor's table leaves.
use Rattle.std.specs.Prelude.{◌≡◌, ℕ, ◌+◌, true, false, List, [], ◌∷◌, Some, None, nat_le, nat_lt, slice_get}
use Rattle.net_base.specs.declared.actor.ActorName.{ActorName}
use Rattle.net_base.specs.declared.actor.ActorName.TheVariants as name
use Rattle.net_base.specs.declared.address.Proto.{Proto}
use Rattle.net_base.specs.declared.event.Event.{Event}
use Rattle.net_base.specs.declared.event.Event.TheVariants as event
use Rattle.net_base.specs.declared.history.Taken.{Taken}
use Rattle.net_base.specs.declared.history.With.{With}
use Rattle.net_base.specs.declared.history.With.TheVariants as given
use Rattle.net_base.specs.declared.names.Mode.{Mode}
use Rattle.net_base.specs.declared.names.Node.TheVariants as node
use Rattle.net_base.specs.declared.packet.Packet.{Packet}
use Rattle.net_base.specs.declared.reply.Reply.{Reply}
use Rattle.net_base.specs.declared.reply.Reply.TheVariants as reply
use Rattle.net_base.specs.declared.world.HostSpec.{HostSpec}
use Rattle.net_base.specs.declared.world.MediumSpec.{MediumSpec}
use Rattle.net_base.specs.declared.world.Version.{Version}
use Rattle.net_base.specs.declared.world.World.{World}
use Rattle.net_base.specs.ActorStep.{Step}
use Rattle.net_base.specs.Actors.{Actor, IsConv, IsDesk, IsDir, IsMedium, IsPlain, plain_step}
use Rattle.net_base.specs.Conversation.{Conv}
use Rattle.net_base.specs.Cs.{Lines, Refused, cs_list}
use Rattle.net_base.specs.Desk.{Desk, desk_replies}
use Rattle.net_base.specs.Directory.{Dir}
use Rattle.net_base.specs.Medium.{Medium, datagram_length, fate_of, lays, medium_leaves}
use Rattle.net_base.specs.Paths.{names}
use Rattle.net_base.specs.Versions.{database_of, in_force}
use Rattle.history_laws.specs.ConvRows.{ConvRow}
use Rattle.history_laws.specs.DirRows.{DirRow}

-- the replies of the desk of a host at a moment, each with its event
pub data DeskRow (dbs : List Version) (h : HostSpec) (now : ℕ) (d : Desk) : Event → Reply → Type 0 where
  Tells : {query : List ℕ} {lines : List (List ℕ)} → cs_list (database_of dbs d.version) h.name h.nets query ≡ Lines lines
      → DeskRow dbs h now d (event.Cs query) (reply.Lines lines)
  Refuses : {query : List ℕ} {n : ℕ} → cs_list (database_of dbs d.version) h.name h.nets query ≡ Refused n
      → DeskRow dbs h now d (event.Cs query) (reply.CsRefused n)
  Lists : {path : List ℕ} → DeskRow dbs h now d (event.LsPath path) (reply.Names (names node.Root []))
  ListsNone : {path : List ℕ} → DeskRow dbs h now d (event.LsPath path) reply.NoFile
  OpensNone : {path : List ℕ} {mode : Mode} → DeskRow dbs h now d (event.OpenPath path mode) reply.NoFile
  OpensNot : {path : List ℕ} {mode : Mode} → DeskRow dbs h now d (event.OpenPath path mode) reply.BadMode
  Uses : {called : List ℕ} → DeskRow dbs h now d (event.Use called) reply.BadFid
  Misuses : {called : List ℕ} → DeskRow dbs h now d (event.Misuse called) reply.BadMode
  Waits : {moment : ℕ} → nat_le moment now ≡ true → DeskRow dbs h now d (event.Until moment) reply.Ok
  Refreshes : DeskRow dbs h now d event.Refresh (reply.Version (in_force now dbs))

-- the steps of a medium, each with its event and what that is given
pub data MediumRow (spec : MediumSpec) (seed : ℕ) (m : Medium) : Event → With → Step Medium → Type 0 where
  NoStation : {p : Packet} → MediumRow spec seed m (event.Put None) (given.Packet p) (medium_leaves reply.NoStation None m)
  TooBig : {p : Packet} {to : ℕ} → nat_lt spec.mtu (datagram_length p.body) ≡ true
      → MediumRow spec seed m (event.Put (Some to)) (given.Packet p) (medium_leaves reply.TooBig None m)
  Lays : {p : Packet} {to : ℕ} → nat_lt spec.mtu (datagram_length p.body) ≡ false
      → MediumRow spec seed m (event.Put (Some to)) (given.Packet p)
      (lays (fate_of seed spec (m.frames + 1)) (record { frame = m.frames + 1; to = to; packet = p }) m)
  Takes : {gift : With} {t : Taken} {rest : List Taken} → m.queue ≡ t ∷ rest
      → MediumRow spec seed m event.Take gift (medium_leaves (reply.Copy t.frame) (Some t) (record m { queue = rest }))
  TakesHeld : {gift : With} {t : Taken} {rest : List Taken} → m.queue ≡ [] → m.held ≡ t ∷ rest
      → MediumRow spec seed m event.Take gift (medium_leaves (reply.Copy t.frame) (Some t) (record m { held = rest }))

-- the step of one kind of actors, as a step of any
abbrev pub seen_as : {S : Type 0} → (S → Actor) → Step S → Step Actor
seen_as actor s = record { state = actor s.state; outcome = s.outcome }

-- the steps of the actors of a world at a moment: each with its actor, that actor's state, its event and what that is given
pub data ActorRow (w : World) (now : ℕ) : ActorName → Actor → Event → With → Step Actor → Type 0 where
  AtDesk : {h : ℕ} {host : HostSpec} {d : Desk} {e : Event} {gift : With} {r : Reply} → slice_get w.hosts h ≡ Some host → DeskRow w.dbs host now d e r
      → ActorRow w now (name.Desk h) (IsDesk d) e gift (seen_as IsDesk (desk_replies d r))
  AtDir : {h : ℕ} {p : Proto} {d : Dir} {e : Event} {gift : With} {s : Step Dir} → DirRow w h p d e gift s
      → ActorRow w now (name.Dir h p) (IsDir d) e gift (seen_as IsDir s)
  AtConv : {h : ℕ} {p : Proto} {n : ℕ} {c : Conv} {e : Event} {gift : With} {s : Step Conv} → ConvRow n now c e gift s
      → ActorRow w now (name.Conv h p n) (IsConv c) e gift (seen_as IsConv s)
  AtMedium : {k : ℕ} {spec : MediumSpec} {m : Medium} {e : Event} {gift : With} {s : Step Medium} → slice_get w.media k ≡ Some spec → MediumRow spec w.seed m e gift s
      → ActorRow w now (name.Medium k) (IsMedium m) e gift (seen_as IsMedium s)
  AtClock : {moment : ℕ} {gift : With} → ActorRow w now name.Clock IsPlain (event.Move moment) gift (plain_step reply.Ok)
