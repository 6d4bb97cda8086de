-- UDP conversations, directories of UDP, and media.
use Rattle.std.proofs.Common.{ℕ, List, [], ◌∷◌, Option, Some, None, inr, refl}
use Rattle.std.specs.Prelude.{IfSome}
use Rattle.net_base.specs.declared.address.Pair.{Pair}
use Rattle.net_base.specs.declared.actor.Call.{Call}
use Rattle.net_base.specs.declared.address.Proto.{Proto}
use Rattle.net_base.specs.declared.address.Proto.TheVariants as proto
use Rattle.net_base.specs.declared.actor.ActorName.TheVariants as actor
use Rattle.net_base.specs.declared.event.Event.{Event}
use Rattle.net_base.specs.declared.event.Event.TheVariants as event
use Rattle.net_base.specs.declared.reply.Reply.{Reply}
use Rattle.net_base.specs.declared.reply.Reply.TheVariants as reply
use Rattle.net_base.specs.declared.packet.Body.{Body}
use Rattle.net_base.specs.declared.packet.Body.TheVariants as body
use Rattle.net_base.specs.declared.packet.Packet.{Packet}
use Rattle.net_base.specs.declared.history.Taken.{Taken}
use Rattle.net_base.specs.declared.history.With.{With}
use Rattle.net_base.specs.declared.history.With.TheVariants as given
use Rattle.net_base.specs.declared.world.World.{World}
use Rattle.net_base.specs.declared.world.MediumSpec.{MediumSpec}
use Rattle.net_base.specs.ActorStep.{Step}
use Rattle.net_base.specs.Conversation.{Conv, Core, Il, Udp, conv_step}
use Rattle.net_base.specs.Directory.{Dir, dir_step}
use Rattle.net_base.specs.Duties.{close_calls, follow_up}
use Rattle.net_base.specs.Medium.{Medium, medium_step}
use Rattle.net_base.specs.UdpEnd.{UdpEnd}
use Rattle.history_laws.specs.ConvRows.{ConvRow}
use Rattle.history_laws.specs.ConvRows as conv_row
use Rattle.history_laws.specs.DirRows.{DirRow}
use Rattle.history_laws.specs.DirRows as dir_row
use Rattle.history_laws.proofs.Shared.{conv_rows, core_stays, dir_rows, map_some}
use Rattle.prefix_law.proofs.Trace.{Trace}
use Rattle.prefix_law.proofs.Touch.{Emitted, EmittedAs, EmittedIf, Later as Growing, emitted_later}
use Rattle.prefix_law.proofs.Acts.{Refusal}
use Rattle.prefix_law.proofs.Copies.{OfMedium, OfTaken, MediumLeaves, medium_leaves, medium_more}
use Rattle.prefix_law.proofs.DirSteps.{WithFine, EachDuty}

-- UDP conversations.

abbrev pub IsUdp : Core → Type 0
IsUdp (Il e) = ⊥
IsUdp (Udp e) = Unit {0}

-- a packet that says nothing of IL but a refusal
abbrev pub HarmlessAs : Body → Type 0
HarmlessAs (body.Il m) = Refusal m
HarmlessAs (body.Udp text) = Unit {0}

abbrev pub Harmless : Option Packet → Type 0
Harmless None = Unit {0}
Harmless (Some p) = HarmlessAs p.body

harmless_as : (t : Trace) (p : Pair) (b : Body) → HarmlessAs b → EmittedAs t p b
harmless_as t p (body.Il m) h = inr h
harmless_as t p (body.Udp text) h = tt

pub harmless_emitted : (t : Trace) (emit : Option Packet) → Harmless emit → EmittedIf t emit
harmless_emitted t None h = tt
harmless_emitted t (Some p) h = harmless_as t _ p.body h

abbrev pub UdpStep : Step Conv → Type 0
UdpStep s = IsUdp s.state.core × Harmless s.outcome.emit

-- a conversation with this end
abbrev of_udp : Conv → UdpEnd → Conv
of_udp c e = record c { core = Udp e }

-- a row of an IL end isn't one of a UDP end
says_harmless : (slot now : ℕ) (c : Conv) (e : UdpEnd) (ev : Event) (gift : With) (s : Step Conv) → ConvRow slot now (of_udp c e) ev gift s → Harmless s.outcome.emit
says_harmless slot now c e ev gift s (conv_row.BornIl k said sync may) = absurd (cc k)
says_harmless slot now c e ev gift s (conv_row.JoinsIl at k may) = absurd (cc k)
says_harmless slot now c e ev gift s (conv_row.WritesIl some fits at k stands) = absurd (cc k)
says_harmless slot now c e ev gift s (conv_row.HangsIl k) = absurd (cc k)
says_harmless slot now c e ev gift s (conv_row.LeavesIl k) = absurd (cc k)
says_harmless slot now c e ev gift s (conv_row.ClosesIl opens k) = absurd (cc k)
says_harmless slot now c e ev gift s (conv_row.ArrivesIl k said) = absurd (cc k)
says_harmless slot now c e ev gift s (conv_row.TicksIl k) = absurd (cc k)
says_harmless slot now c e ev gift s (conv_row.TicksEarly k) = absurd (cc k)
says_harmless slot now c e ev gift s _ = tt

pub udp_steps : (slot : ℕ) (ev : Event) (gift : With) (now : ℕ) (c : Conv) (e : UdpEnd) → IfSome (conv_step slot ev gift now (of_udp c e)) UdpStep
udp_steps slot ev gift now c e =
    map_some (conv_step slot ev gift now (of_udp c e)) _ UdpStep (conv_rows slot now (of_udp c e) ev gift)
    (λ s row. (core_stays IsUdp (λ a b is. is) (λ a b is. is) slot now (of_udp c e) ev gift s row tt, says_harmless slot now c e ev gift s row))

-- Directories of UDP.

pub record IsHarmless (s : Step Dir) : Type 0 where
  pub emits : Harmless s.outcome.emit

row_harmless : (w : World) (h : ℕ) (p : Proto) (d : Dir) (ev : Event) (gift : With) (s : Step Dir) → DirRow w h p d ev gift s → IsHarmless s
row_harmless w h p d ev gift s (dir_row.Refuses said sync) = record { emits = (refl, refl) }
row_harmless w h p d ev gift s _ = record { emits = tt }

pub dir_harmless : (w : World) (h : ℕ) (p : Proto) (ev : Event) (gift : With) (d : Dir) → IfSome (dir_step w h p ev gift d) (λ s. IsHarmless s)
dir_harmless w h p ev gift d = map_some (dir_step w h p ev gift d) _ _ (dir_rows w h p d ev gift) (row_harmless w h p d ev gift)

udp_closes_fine : (w : World) (t : Trace) (h s : ℕ) (calls : List Call) → EachDuty w t (close_calls h proto.Udp s calls)
udp_closes_fine w t h s [] = tt
udp_closes_fine w t h s (c ∷ calls) = (tt, udp_closes_fine w t h s calls)

udp_arrival_follow : (w : World) (t : Trace) (h s : ℕ) (gift : With) (r : Reply) → EachDuty w t (follow_up (actor.Dir h proto.Udp) s event.Arrive gift r)
udp_arrival_follow w t h s (given.Packet packet) (reply.To n g) = (tt, tt)
udp_arrival_follow w t h s (given.Packet packet) (reply.Born n g start limit) = (tt, tt)
udp_arrival_follow w t h s (given.Packet packet) _ = tt
udp_arrival_follow w t h s _ r = tt

-- what a directory of UDP owes says nothing of IL
pub udp_dir_follow : (w : World) (t : Trace) (h s : ℕ) (ev : Event) (gift : With) (r : Reply) → EachDuty w t (follow_up (actor.Dir h proto.Udp) s ev gift r)
udp_dir_follow w t h s event.Reserve gift (reply.Slot n g) = (tt, tt)
udp_dir_follow w t h s (event.Grant n g remote port) gift (reply.Granted pair start limit) = (tt, tt)
udp_dir_follow w t h s (event.Announce n g ip port) gift reply.Ok = (tt, tt)
udp_dir_follow w t h s (event.Bind n g port) gift reply.Ok = (tt, tt)
udp_dir_follow w t h s (event.Listen n) gift (reply.Call m g) = (tt, tt)
udp_dir_follow w t h s (event.Release n g) gift (reply.Calls calls) = udp_closes_fine w t h s calls
udp_dir_follow w t h s (event.Withdraw n g) gift (reply.Calls calls) = udp_closes_fine w t h s calls
udp_dir_follow w t h s event.Arrive gift r = udp_arrival_follow w t h s gift r
udp_dir_follow w t h s _ gift _ = tt

-- so does what a conversation owes
pub conv_follow : (w : World) (t : Trace) (h n s : ℕ) (p : Proto) (ev : Event) (gift : With) (r : Reply) → EachDuty w t (follow_up (actor.Conv h p n) s ev gift r)
conv_follow w t h n s proto.Il (event.Hangup g) gift reply.Left = (tt, tt)
conv_follow w t h n s proto.Udp (event.Hangup g) gift reply.Left = (tt, tt)
conv_follow w t h n s p _ gift _ = tt

-- Media.

abbrev pub MediumFine : Trace → Medium → Type 0
MediumFine t m = OfMedium (Emitted t) m

abbrev pub TakenIf : Trace → Option Taken → Type 0
TakenIf t taken = OfTaken (Emitted t) taken

pub medium_grows : (t u : Trace) (m : Medium) → Growing t u → MediumFine t m → MediumFine u m
medium_grows t u m later f = medium_more (Emitted t) (Emitted u) m (λ p. emitted_later t u p later) f

pub medium_steps : (w : World) (t : Trace) (n : ℕ) (spec : MediumSpec) (seed : ℕ) (ev : Event) (gift : With) (m : Medium) → MediumFine t m → WithFine w t (actor.Medium n) ev gift → IfSome (medium_step spec seed ev gift m) (λ s. MediumLeaves (Emitted t) s)
medium_steps w t n spec seed ev gift m f fine = medium_leaves (Emitted t) spec seed ev gift m f fine
