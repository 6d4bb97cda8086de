-- What an entry owes: events that its caller must record next, each with what is given to it.
use Rattle.std.specs.Prelude.{ℕ, ◌-◌, Bool, true, false, List, [], ◌∷◌, ◌++◌, map, length, flat_map, Option, Some, None, unwrap_or, nat_lt, nat_le, if◌then◌else◌}
use Rattle.std.specs.List.{range_with_len}
use Rattle.net_base.specs.declared.actor.ActorName.{ActorName}
use Rattle.net_base.specs.declared.actor.ActorName.TheVariants as name
use Rattle.net_base.specs.declared.actor.Call.{Call}
use Rattle.net_base.specs.declared.address.Proto.{Proto}
use Rattle.net_base.specs.declared.address.Proto.TheVariants as proto
use Rattle.net_base.specs.declared.event.Event.{Event}
use Rattle.net_base.specs.declared.event.Event.TheVariants as event
use Rattle.net_base.specs.declared.history.Taken.{Taken}
use Rattle.net_base.specs.declared.history.With.{With}
use Rattle.net_base.specs.declared.history.With.TheVariants as given
use Rattle.net_base.specs.declared.history.Work.{Work}
use Rattle.net_base.specs.declared.packet.Body.{Body}
use Rattle.net_base.specs.declared.packet.Body.TheVariants as body
use Rattle.net_base.specs.declared.packet.Packet.{Packet}
use Rattle.net_base.specs.declared.reply.Reply.{Reply}
use Rattle.net_base.specs.declared.reply.Reply.TheVariants as reply
use Rattle.net_base.specs.declared.world.World.{World}
use Rattle.net_base.specs.ActorStep.{Step}
use Rattle.net_base.specs.Actors.{Actor, IsConv, slot_count}
use Rattle.net_base.specs.Conversation.{Core, Il, Udp}
use Rattle.net_base.specs.Routes.{Way, way, has_address}

-- an event that is owed, at an actor and with what is given to it, and the stamp of the entry that owes it
pub record Duty : Type 0 where
  pub actor : ActorName
  pub event : Event
  pub with : With
  pub cites : ℕ

-- the one duty of the entry s
abbrev pub one_duty : ℕ → ActorName → Event → With → List Duty
one_duty s a e given = record { actor = a; event = e; with = given; cites = s } ∷ []

-- The put of a packet.

-- at the medium that the way names; without a way the packet is dropped
abbrev pub put_by : Option Way → ℕ → Packet → List Duty
put_by None s p = []
put_by (Some out) s p = one_duty s (name.Medium out.medium) (event.Put out.station) (given.Packet p)

-- the put of the packet that the actor of a host emits
abbrev pub emitted_put : World → ActorName → ℕ → Option Packet → List Duty
emitted_put w (name.Dir h p) s (Some packet) = put_by (way w h packet.dst.ip) s packet
emitted_put w (name.Conv h p n) s (Some packet) = put_by (way w h packet.dst.ip) s packet
emitted_put w _ s _ = []

-- The follow-up of a reply.

-- each call that waited is closed
abbrev pub close_calls : ℕ → Proto → ℕ → List Call → List Duty
close_calls h p s calls =
    map (λ (c : Call). record { actor = name.Conv h p c.slot; event = event.Close c.generation; with = given.Nothing; cites = s }) calls

-- at the directory and at the conversations of a host
abbrev pub follow_up : ActorName → ℕ → Event → With → Reply → List Duty
follow_up (name.Dir h p) s event.Reserve with (reply.Slot n g) = one_duty s (name.Conv h p n) (event.Begin g) given.Nothing
follow_up (name.Dir h p) s (event.Grant n g remote port) with (reply.Granted pair start limit) =
    one_duty s (name.Conv h p n) (event.Connect g) (given.Grant pair start limit)
follow_up (name.Dir h p) s (event.Announce n g ip port) with reply.Ok =
    one_duty s (name.Conv h p n) (event.Announced g) (given.Key (unwrap_or ip 0) (unwrap_or port 0))
follow_up (name.Dir h p) s (event.Bind n g port) with reply.Ok = one_duty s (name.Conv h p n) (event.Bound g) (given.Key 0 port)
follow_up (name.Dir h p) s (event.Listen n) with (reply.Call m g) = one_duty s (name.Conv h p m) (event.Claim g) given.Nothing
follow_up (name.Dir h p) s (event.Withdraw n g) with (reply.Calls calls) = close_calls h p s calls
follow_up (name.Dir h p) s (event.Release n g) with (reply.Calls calls) = close_calls h p s calls
follow_up (name.Dir h p) s event.Arrive (given.Packet packet) (reply.To n g) =
    one_duty s (name.Conv h p n) (event.ArriveAt g) (given.Packet packet)
follow_up (name.Dir h p) s event.Arrive (given.Packet packet) (reply.Born n g start limit) =
    one_duty s (name.Conv h p n) (event.Born g) (given.Birth packet start limit)
follow_up (name.Conv h p n) s (event.Hangup g) with reply.Left = one_duty s (name.Dir h p) (event.Withdraw n g) given.Nothing
follow_up _ s _ with _ = []

-- the protocol of a packet
abbrev pub proto_of : Body → Proto
proto_of (body.Il m) = proto.Il
proto_of (body.Udp text) = proto.Udp

-- the packet goes on with a lower ttl; at ttl 1 or less it is dropped
abbrev pub forwarded : World → ℕ → ℕ → Packet → List Duty
forwarded w to s p = if nat_lt 1 p.ttl then put_by (way w to p.dst.ip) s (record p { ttl = p.ttl - 1 }) else []

-- a copy that a courier took arrives at the directory of the host that has its destination, or is forwarded
abbrev pub courier_duty : World → ActorName → ℕ → Option Taken → List Duty
courier_duty w (name.Medium m) s (Some t) =
    if has_address w t.to t.packet.dst.ip
    then one_duty s (name.Dir t.to (proto_of t.packet.body)) event.Arrive (given.Packet t.packet)
    else forwarded w t.to s t.packet
courier_duty w _ s _ = []

-- Ticks.

abbrev pub due_of_core : Core → Option ℕ
due_of_core (Il e) = e.timer.due
due_of_core (Udp e) = None

-- the moment at which a conversation's end is due
abbrev pub due_of : Actor → Option ℕ
due_of (IsConv c) = due_of_core c.core
due_of _ = None

abbrev pub generation_of : Actor → ℕ
generation_of (IsConv c) = c.generation
generation_of _ = 0

abbrev pub has_come : ℕ → Option ℕ → Bool
has_come now None = false
has_come now (Some due) = nat_le due now

-- the conversations of a world, in the order of host, protocol and slot
abbrev pub slots_of : ℕ → Proto → List ActorName
slots_of h p = map (λ (n : ℕ). name.Conv h p n) (range_with_len 0 slot_count)

abbrev pub conversations : World → List ActorName
conversations w = flat_map (λ (h : ℕ). slots_of h proto.Il ++ slots_of h proto.Udp) (range_with_len 0 (length w.hosts))

-- the tick of a conversation whose due moment has come
abbrev pub tick_at : (ActorName → Actor) → ℕ → ℕ → ActorName → List Duty
tick_at actors s now a =
    if has_come now (due_of (actors a)) then one_duty s a (event.Tick (generation_of (actors a))) given.Nothing else []

-- a move owes a tick to each conversation whose due moment has come
abbrev pub owed_ticks : World → (ActorName → Actor) → ActorName → ℕ → Event → List Duty
owed_ticks w actors name.Clock s (event.Move now) = flat_map (tick_at actors s now) (conversations w)
owed_ticks w actors _ s _ = []

-- The release of a conversation that ended.

abbrev pub release : ActorName → ℕ → Actor → Bool → List Duty
release (name.Conv h p n) s (IsConv c) true = one_duty s (name.Dir h p) (event.Release n c.generation) given.Nothing
release _ s _ _ = []

-- the duties of the entry s at an actor, by its work and its step, where the other actors stand as they do
abbrev pub duties : World → (ActorName → Actor) → ActorName → ℕ → Work → Step Actor → List Duty
duties w actors a s work step =
    emitted_put w a s step.outcome.emit
    ++ follow_up a s work.event work.with step.outcome.reply
    ++ courier_duty w a s step.outcome.taken
    ++ owed_ticks w actors a s work.event
    ++ release a s step.state step.outcome.ended
