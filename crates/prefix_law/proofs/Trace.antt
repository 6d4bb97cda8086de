-- What each pair of addresses has said, and who has it.
use Rattle.std.specs.Prelude.{ℕ, ◌≡◌, true, List, [], ◌∷◌, Option, Some, None, if◌then◌else◌}
use Rattle.net_base.specs.declared.address.Pair.{Pair}
use Rattle.net_base.specs.declared.address.Proto.TheVariants as proto
use Rattle.net_base.specs.declared.actor.ActorName.{ActorName}
use Rattle.net_base.specs.declared.actor.ActorName.TheVariants as actor
use Rattle.net_base.specs.declared.event.Event.{Event}
use Rattle.net_base.specs.declared.event.Event.TheVariants as event
use Rattle.net_base.specs.declared.reply.Reply.{Reply}
use Rattle.net_base.specs.declared.reply.Reply.TheVariants as reply
use Rattle.net_base.specs.declared.il.IlMsg.{IlMsg}
use Rattle.net_base.specs.declared.packet.Body.{Body}
use Rattle.net_base.specs.declared.packet.Body.TheVariants as body
use Rattle.net_base.specs.declared.packet.Packet.{Packet}
use Rattle.net_base.specs.declared.history.With.{With}
use Rattle.net_base.specs.declared.history.With.TheVariants as given
use Rattle.net_base.specs.declared.history.Work.{Work}
use Rattle.net_base.specs.declared.history.Outcome.{Outcome}
use Rattle.net_base.specs.declared.history.Entry.{Entry}
use Rattle.net_base.specs.declared.timer.Timers.TheVariants.{Fixed}
use Rattle.net_base.specs.IlEnd.{fresh_end}
use Rattle.prefix_law.proofs.Pairs.{Side, out_with}
use Rattle.net_base.specs.Same.{same_pair}
use Rattle.net_base.specs.declared.world.World.{World}
use Rattle.net_base.specs.Routes.{Way, way, has_address}
use Rattle.net_base.specs.ActorStep.{Step}
use Rattle.net_base.specs.Conversation.{Core, Il, Stage, Connected, Conv}
use Rattle.net_base.specs.Actors.{Actor, IsConv}
use Rattle.net_base.specs.Net.{Net, next_net, opening_net, step_of, work_of}

-- a conversation
pub record Owner : Type 0 where
  pub host : ℕ
  pub slot : ℕ
  pub generation : ℕ

-- the end of each pair as it last stood, with what it emitted, and the conversation that has the pair
pub record Trace : Type 0 where
  pub side : Pair → Side
  pub owner : Pair → Option Owner

-- an end that nothing happened to: no law compares kinds of timers, so they may be fixed
abbrev pub empty_side : Side
empty_side = record { end = fresh_end Fixed; out = [] }

abbrev pub opening_trace : Trace
opening_trace = record { side = λ _. empty_side; owner = λ _. None }

abbrev pub put_at : {A : Type 0} → (Pair → A) → Pair → A → Pair → A
put_at f p new q = if same_pair p q then new else f q

abbrev pub said_in : Body → Option IlMsg
said_in (body.Il m) = Some m
said_in (body.Udp text) = None

abbrev pub said : Option Packet → Option IlMsg
said None = None
said (Some p) = said_in p.body

abbrev pub conv_trace : Stage → Core → Conv → Option Packet → Trace → Trace
conv_trace Connected (Il e) c emit t =
    record t { side = put_at t.side c.pair (record { end = e; out = out_with (said emit) (t.side c.pair).out }) }
conv_trace _ _ c emit t = t

abbrev pub dir_trace : ℕ → Event → With → Reply → Trace → Trace
dir_trace h (event.Grant n g remote port) w (reply.Granted pair start limit) t =
    record t { owner = put_at t.owner pair (Some (record { host = h; slot = n; generation = g })) }
dir_trace h event.Arrive (given.Packet p) (reply.Born n g start limit) t =
    record t { owner = put_at t.owner (record { local = p.dst; remote = p.src }) (Some (record { host = h; slot = n; generation = g })) }
dir_trace h _ w _ t = t

abbrev pub actor_trace : ActorName → Actor → Work → Outcome → Trace → Trace
actor_trace (actor.Conv h proto.Il n) (IsConv c) work o t = conv_trace c.stage c.core c o.emit t
actor_trace (actor.Dir h proto.Il) s work o t = dir_trace h work.event work.with o.reply t
actor_trace _ _ work o t = t

abbrev pub trace_after : ActorName → Work → Option (Step Actor) → Trace → Trace
trace_after a work None t = t
trace_after a work (Some s) t = actor_trace a s.state work s.outcome t

abbrev pub next_trace : World → Net → Entry → Trace → Trace
next_trace w net x t = trace_after x.actor (work_of net x) (step_of w net x) t

abbrev pub trace_of : World → Net → Trace → List Entry → Trace
trace_of w net t [] = t
trace_of w net t (x ∷ xs) = trace_of w (next_net w net x) (next_trace w net x t) xs

abbrev pub trace : World → List Entry → Trace
trace w h = trace_of w (opening_net w) opening_trace h

-- an address has one host, and a way goes out by an address of its own host
pub record HasPlaces (w : World) : Type 0 where
  pub one_host : (h h' ip : ℕ) → has_address w h ip ≡ true → has_address w h' ip ≡ true → h ≡ h'
  pub own_source : (h ip : ℕ) (out : Way) → way w h ip ≡ Some out → has_address w h out.source ≡ true
