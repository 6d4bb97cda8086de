-- Wide histories: each number is within the width of its field, and texts that stand in hexadecimal are made of bytes.
use Rattle.std.specs.Prelude.{ℕ, ◌<◌, ◌^◌, List, [], ◌∷◌, Option, Some, None}
use Rattle.net_base.specs.declared.actor.ActorName.{ActorName}
use Rattle.net_base.specs.declared.actor.ActorName.TheVariants as name
use Rattle.net_base.specs.declared.actor.Call.{Call}
use Rattle.net_base.specs.declared.address.Addr.{Addr}
use Rattle.net_base.specs.declared.event.Event.{Event}
use Rattle.net_base.specs.declared.event.Event.TheVariants as event
use Rattle.net_base.specs.declared.history.Entry.{Entry}
use Rattle.net_base.specs.declared.packet.BodyHeader.{BodyHeader}
use Rattle.net_base.specs.declared.packet.BodyHeader.TheVariants as body
use Rattle.net_base.specs.declared.packet.Header.{Header}
use Rattle.net_base.specs.declared.reply.Reply.{Reply}
use Rattle.net_base.specs.declared.reply.Reply.TheVariants as reply
use Rattle.net_base.specs.Plain.{AreBytes}

-- Numbers.

-- moments, generations, frames, stamps and lengths
abbrev pub IsLongField : ℕ → Type 0
IsLongField n = n < 2 ^ 64

-- callers, hosts, slots, counts, ids and limits
abbrev pub IsNarrow : ℕ → Type 0
IsNarrow n = n < 2 ^ 32

-- ports
abbrev pub IsPort : ℕ → Type 0
IsPort n = n < 2 ^ 16

-- ttl, tos and spec
abbrev pub IsOctet : ℕ → Type 0
IsOctet n = n < 2 ^ 8

-- this holds of the value, if there is one
abbrev pub IfAny : (ℕ → Type 0) → Option ℕ → Type 0
IfAny P None = Unit {0}
IfAny P (Some n) = P n

abbrev pub IsPlace : Addr → Type 0
IsPlace a = IsNarrow a.ip × IsPort a.port

abbrev pub IsWideActor : ActorName → Type 0
IsWideActor (name.Desk h) = IsNarrow h
IsWideActor (name.Dir h p) = IsNarrow h
IsWideActor (name.Conv h p n) = IsNarrow h × IsNarrow n
IsWideActor (name.Medium m) = IsNarrow m
IsWideActor name.Clock = Unit {0}

-- Events.

abbrev pub IsWideEvent : Event → Type 0
IsWideEvent (event.Cs query) = AreBytes query
IsWideEvent (event.LsPath path) = AreBytes path
IsWideEvent (event.OpenPath path m) = AreBytes path
IsWideEvent (event.Until m) = IsLongField m
IsWideEvent (event.Grant n g remote lport) = IsNarrow n × IsLongField g × IsPlace remote × IfAny IsPort lport
IsWideEvent (event.Announce n g ip port) = IsNarrow n × IsLongField g × IfAny IsNarrow ip × IfAny IsPort port
IsWideEvent (event.Bind n g port) = IsNarrow n × IsLongField g × IsPort port
IsWideEvent (event.Listen n) = IsNarrow n
IsWideEvent (event.Withdraw n g) = IsNarrow n × IsLongField g
IsWideEvent (event.Release n g) = IsNarrow n × IsLongField g
IsWideEvent (event.Begin g) = IsLongField g
IsWideEvent (event.Born g) = IsLongField g
IsWideEvent (event.Claim g) = IsLongField g
IsWideEvent (event.Connect g) = IsLongField g
IsWideEvent (event.Announced g) = IsLongField g
IsWideEvent (event.Bound g) = IsLongField g
IsWideEvent (event.Await g) = IsLongField g
IsWideEvent (event.File g f count) = IsLongField g × IsNarrow count
IsWideEvent (event.Read g count) = IsLongField g × IsNarrow count
IsWideEvent (event.Write g text) = IsLongField g × AreBytes text
IsWideEvent (event.Hangup g) = IsLongField g
IsWideEvent (event.Ttl g n) = IsLongField g × IsOctet n
IsWideEvent (event.Tos g n) = IsLongField g × IsOctet n
IsWideEvent (event.Ctl g text) = IsLongField g × AreBytes text
IsWideEvent (event.Close g) = IsLongField g
IsWideEvent (event.ArriveAt g) = IsLongField g
IsWideEvent (event.Tick g) = IsLongField g
IsWideEvent (event.Put to) = IfAny IsNarrow to
IsWideEvent (event.Move m) = IsLongField m
IsWideEvent _ = Unit {0}

-- Replies.

abbrev pub AreByteLines : List (List ℕ) → Type 0
AreByteLines [] = Unit {0}
AreByteLines (line ∷ lines) = AreBytes line × AreByteLines lines

abbrev pub AreWideCalls : List Call → Type 0
AreWideCalls [] = Unit {0}
AreWideCalls (call ∷ calls) = IsNarrow call.slot × IsLongField call.generation × AreWideCalls calls

abbrev pub IsWideReply : Reply → Type 0
IsWideReply (reply.Lines lines) = AreByteLines lines
IsWideReply (reply.CsRefused n) = IsNarrow n
IsWideReply (reply.Names names) = AreByteLines names
IsWideReply (reply.Version n) = IsLongField n
IsWideReply (reply.Slot n g) = IsNarrow n × IsLongField g
IsWideReply (reply.Granted pair start limit) = IsPlace pair.local × IsPlace pair.remote × IsNarrow start × IsNarrow limit
IsWideReply (reply.PairUsed k) = IsLongField k
IsWideReply (reply.PortTaken n) = IsNarrow n
IsWideReply (reply.Call n g) = IsNarrow n × IsLongField g
IsWideReply (reply.Calls calls) = AreWideCalls calls
IsWideReply (reply.To n g) = IsNarrow n × IsLongField g
IsWideReply (reply.Born n g start limit) = IsNarrow n × IsLongField g × IsNarrow start × IsNarrow limit
IsWideReply (reply.Opened g) = IsLongField g
IsWideReply (reply.Bytes bytes) = AreBytes bytes
IsWideReply (reply.Count n) = IsNarrow n
IsWideReply (reply.TooLong length limit) = IsLongField length × IsNarrow limit
IsWideReply (reply.BadCtl n) = IsNarrow n
IsWideReply (reply.Laid k) = IsLongField k
IsWideReply (reply.Copy k) = IsLongField k
IsWideReply _ = Unit {0}

-- Entries.

abbrev pub IsWideBody : BodyHeader → Type 0
IsWideBody (body.Il k spec id ack length) = IsOctet spec × IsNarrow id × IsNarrow ack × IsLongField length
IsWideBody (body.Udp length) = IsLongField length

abbrev pub IsWideHeader : Option Header → Type 0
IsWideHeader None = Unit {0}
IsWideHeader (Some h) = IsPlace h.src × IsPlace h.dst × IsOctet h.ttl × IsOctet h.tos × IsWideBody h.body

pub record IsWideEntry (x : Entry) : Type 0 where
  pub moment : IsLongField x.moment
  pub caller : IsNarrow x.caller
  pub actor : IsWideActor x.actor
  pub cites : IfAny IsLongField x.cites
  pub event : IsWideEvent x.event
  pub reply : IsWideReply x.reply
  pub emits : IsWideHeader x.emits

abbrev pub IsWide : List Entry → Type 0
IsWide [] = Unit {0}
IsWide (x ∷ xs) = IsWideEntry x × IsWide xs
