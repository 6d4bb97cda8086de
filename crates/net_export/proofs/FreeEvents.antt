-- What a script records is neither a courier's event nor the clock's: neither its own events, nor those that it owes.
use Rattle.std.proofs.Common.{ℕ, Bool, true, false, List, [], ◌∷◌, Option, Some, None}
use Rattle.std.specs.Prelude.{◌-◌, if◌then◌else◌, nat_lt}
use Rattle.net_base.specs.declared.actor.ActorName.{ActorName}
use Rattle.net_base.specs.declared.actor.ActorName.TheVariants as name
use Rattle.net_base.specs.declared.actor.Call.{Call}
use Rattle.net_base.specs.declared.address.Proto.{Proto}
use Rattle.net_base.specs.declared.event.Event.{Event}
use Rattle.net_base.specs.declared.event.Event.TheVariants as event
use Rattle.net_base.specs.declared.history.Taken.{Taken}
use Rattle.net_base.specs.declared.history.With.{With}
use Rattle.net_base.specs.declared.history.With.TheVariants as given
use Rattle.net_base.specs.declared.history.Work.{Work}
use Rattle.net_base.specs.declared.packet.Packet.{Packet}
use Rattle.net_base.specs.declared.reply.Reply.{Reply}
use Rattle.net_base.specs.declared.reply.Reply.TheVariants as reply
use Rattle.net_base.specs.declared.world.Script.{Script}
use Rattle.net_base.specs.declared.world.Step.{Step as ScriptStep}
use Rattle.net_base.specs.declared.world.Step.TheVariants as step
use Rattle.net_base.specs.declared.world.World.{World}
use Rattle.net_base.specs.ActorStep.{Step}
use Rattle.net_base.specs.Actors.{Actor, IsConv}
use Rattle.net_base.specs.Duties.{Duty, duties, put_by, emitted_put, close_calls, follow_up, forwarded, courier_duty, tick_at, owed_ticks, has_come, due_of, conversations, release}
use Rattle.net_base.specs.Routes.{Way, way, has_address}
use Rattle.net_base.specs.Scripts.{at_first, position}
use Rattle.net_base.specs.Steps.{call_names, clone_path, reply_lines}
use Rattle.net_base.specs.Versions.{Tuples}
use Rattle.history_laws.proofs.Shared.{Each, each_any, each_append, each_flat_map, next_event, Fits, IsNamed, IsNextEvent, IsOpened, IsOwn, Says}

-- no copy is taken, and the clock doesn't move
abbrev pub IsFree : Event → Type 0
IsFree event.Take = ⊥
IsFree (event.Move m) = ⊥
IsFree _ = Unit {0}

abbrev pub IsFreeDuty : Duty → Type 0
IsFreeDuty d = IsFree d.event

-- What an entry owes.

put_free : (o : Option Way) (s : ℕ) (p : Packet) → Each IsFreeDuty (put_by o s p)
put_free None s p = tt
put_free (Some out) s p = (tt, tt)

emitted_free : (w : World) (a : ActorName) (s : ℕ) (o : Option Packet) → Each IsFreeDuty (emitted_put w a s o)
emitted_free w (name.Dir h p) s (Some packet) = put_free (way w h packet.dst.ip) s packet
emitted_free w (name.Conv h p n) s (Some packet) = put_free (way w h packet.dst.ip) s packet
emitted_free w _ s _ = tt

closes_free : (h s : ℕ) (p : Proto) (calls : List Call) → Each IsFreeDuty (close_calls h p s calls)
closes_free h s p [] = tt
closes_free h s p (c ∷ cs) = (tt, closes_free h s p cs)

follow_free : (a : ActorName) (s : ℕ) (e : Event) (gift : With) (r : Reply) → Each IsFreeDuty (follow_up a s e gift r)
follow_free (name.Dir h p) s event.Reserve gift (reply.Slot n g) = (tt, tt)
follow_free (name.Dir h p) s (event.Grant n g remote port) gift (reply.Granted pair start limit) = (tt, tt)
follow_free (name.Dir h p) s (event.Announce n g ip port) gift reply.Ok = (tt, tt)
follow_free (name.Dir h p) s (event.Bind n g port) gift reply.Ok = (tt, tt)
follow_free (name.Dir h p) s (event.Listen n) gift (reply.Call m g) = (tt, tt)
follow_free (name.Dir h p) s (event.Withdraw n g) gift (reply.Calls calls) = closes_free h s p calls
follow_free (name.Dir h p) s (event.Release n g) gift (reply.Calls calls) = closes_free h s p calls
follow_free (name.Dir h p) s event.Arrive (given.Packet packet) (reply.To n g) = (tt, tt)
follow_free (name.Dir h p) s event.Arrive (given.Packet packet) (reply.Born n g start limit) = (tt, tt)
follow_free (name.Conv h p n) s (event.Hangup g) gift reply.Left = (tt, tt)
follow_free _ s _ gift _ = tt

either : (b : Bool) (ds es : List Duty) → Each IsFreeDuty ds → Each IsFreeDuty es → Each IsFreeDuty (if b then ds else es)
either true ds es one two = one
either false ds es one two = two

courier_free : (w : World) (a : ActorName) (s : ℕ) (o : Option Taken) → Each IsFreeDuty (courier_duty w a s o)
courier_free w (name.Medium m) s (Some t) =
    either (has_address w t.to t.packet.dst.ip) _ (forwarded w t.to s t.packet) (tt, tt)
    (either (nat_lt 1 t.packet.ttl) (put_by (way w t.to t.packet.dst.ip) s (record t.packet { ttl = t.packet.ttl - 1 })) []
    (put_free (way w t.to t.packet.dst.ip) s _) tt)
courier_free w _ s _ = tt

tick_free : (actors : ActorName → Actor) (s now : ℕ) (a : ActorName) → Each IsFreeDuty (tick_at actors s now a)
tick_free actors s now a = either (has_come now (due_of (actors a))) _ [] (tt, tt) tt

ticks_free : (w : World) (actors : ActorName → Actor) (a : ActorName) (s : ℕ) (e : Event) → Each IsFreeDuty (owed_ticks w actors a s e)
ticks_free w actors name.Clock s (event.Move now) = each_flat_map IsFreeDuty (tick_at actors s now) (tick_free actors s now) (conversations w)
ticks_free w actors _ s _ = tt

release_free : (a : ActorName) (s : ℕ) (b : Actor) (ended : Bool) → Each IsFreeDuty (release a s b ended)
release_free (name.Conv h p n) s (IsConv c) true = (tt, tt)
release_free _ s _ _ = tt

pub duties_free : (w : World) (actors : ActorName → Actor) (a : ActorName) (s : ℕ) (work : Work) (step : Step Actor)
    → Each IsFreeDuty (duties w actors a s work step)
duties_free w actors a s work step =
    each_append IsFreeDuty _ (release a s step.state step.outcome.ended)
    (each_append IsFreeDuty _ (owed_ticks w actors a s work.event)
    (each_append IsFreeDuty _ (courier_duty w a s step.outcome.taken)
    (each_append IsFreeDuty (emitted_put w a s step.outcome.emit) (follow_up a s work.event work.with step.outcome.reply)
    (emitted_free w a s step.outcome.emit)
    (follow_free a s work.event work.with step.outcome.reply))
    (courier_free w a s step.outcome.taken))
    (ticks_free w actors a s work.event))
    (release_free a s step.state step.outcome.ended)

-- What a script records next.

abbrev FreeAt : ActorName → Event → Type 0
FreeAt a e = IsFree e

abbrev AnyReply : Reply → Type 0
AnyReply r = Unit {0}

own_free : (e : Event) → IsOwn e → IsFree e
own_free event.Take own = own
own_free (event.Move m) own = own
own_free _ own = tt

fits_free : Fits FreeAt AnyReply
fits_free =
    record {
      other = λ a e own. own_free e own;
      dialled = λ r fine. each_any (λ (line : List ℕ). IsOpened FreeAt (clone_path line)) (λ line a m. tt) (reply_lines r);
    }

says_free : (h : ℕ) (s : ScriptStep) → Says h FreeAt s
says_free h (step.Open called path m) = ((tt, tt), λ a m. tt)
says_free h (step.Read called count) = (tt, tt)
says_free h (step.Write called text) = (tt, tt)
says_free h (step.Writex called text) = (tt, tt)
says_free h (step.Close called) = (tt, tt)
says_free h (step.Ls path) = tt
says_free h (step.Cs query) = tt
says_free h (step.Until moment) = tt
says_free h step.Refresh = tt
says_free h (step.Dial called address) = ((tt, tt), (tt, tt))
says_free h (step.Announce called address) = (tt, tt)
says_free h (step.Listen called from) = ((tt, tt), (tt, tt))
says_free h (step.Accept called from) = ((tt, tt), (tt, tt))
says_free h (step.Reject called) = (tt, tt)
says_free h (step.Hangup called) = (tt, tt)
says_free h (step.Hread called count) = ((tt, tt), each_any (λ (called : List ℕ). IsNamed h FreeAt called) (λ called. (tt, tt)) call_names)
says_free h (step.Hwrite called bytes) = ((tt, tt), each_any (λ (called : List ℕ). IsNamed h FreeAt called) (λ called. (tt, tt)) call_names)
says_free h (step.Dns called times) = ((tt, tt), each_any (λ (called : List ℕ). IsNamed h FreeAt called) (λ called. (tt, tt)) call_names)
-- imports
says_free h (step.Export called) = ((tt, tt), record { named = λ n. (tt, tt); opened = λ at a m. tt })
says_free h (step.Import call) = (tt, tt)
says_free h (step.Ropen called call path m) = ((tt, tt), (tt, tt))
says_free h (step.Rread called count) = (tt, tt)
says_free h (step.Rwrite called text) = (tt, tt)
says_free h (step.Rclose called) = (tt, tt)

-- whatever it was replied
pub script_free : (zone : Tuples) (s : Script) (rs : List Reply) → IsNextEvent FreeAt (position s.host s.steps (at_first zone) rs).next
script_free zone s rs =
    next_event s.host FreeAt AnyReply fits_free s.steps (at_first zone) rs tt
    (each_any (λ (x : ScriptStep). Says s.host FreeAt x) (says_free s.host) s.steps) (each_any AnyReply (λ r. tt) rs)
