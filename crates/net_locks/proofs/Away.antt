-- No duty is one at the clock.
use Rattle.std.proofs.Common.{◌≡◌, ℕ, ◌==◌, nat_lt, Bool, true, false, List, [], ◌∷◌, ◌++◌, map, drop, flat_map, Option, Some, None, if◌then◌else◌, inl, inr, refl, ap, ◌∙◌}
use Rattle.std.specs.List.{range_with_len}
use Rattle.net_base.specs.declared.actor.ActorName.{ActorName}
use Rattle.net_base.specs.declared.actor.ActorName.TheVariants as name
use Rattle.net_base.specs.declared.actor.Call.{Call}
use Rattle.net_base.specs.declared.address.Proto.{Proto}
use Rattle.net_base.specs.declared.address.Proto.TheVariants as proto
use Rattle.net_base.specs.declared.event.Event.{Event}
use Rattle.net_base.specs.declared.event.Event.TheVariants as event
use Rattle.net_base.specs.declared.history.Taken.{Taken}
use Rattle.net_base.specs.declared.history.With.{With}
use Rattle.net_base.specs.declared.history.With.TheVariants as given
use Rattle.net_base.specs.declared.history.Work.{Work}
use Rattle.net_base.specs.declared.noted.Noted.{Noted}
use Rattle.net_base.specs.declared.packet.Packet.{Packet}
use Rattle.net_base.specs.declared.reply.Reply.{Reply}
use Rattle.net_base.specs.declared.reply.Reply.TheVariants as reply
use Rattle.net_base.specs.declared.world.World.{World}
use Rattle.net_base.specs.ActorStep.{Step}
use Rattle.net_base.specs.Actors.{Actor, IsConv}
use Rattle.net_base.specs.Duties.{Duty, close_calls, conversations, courier_duty, due_of, duties, emitted_put, follow_up, forwarded, generation_of, has_come, one_duty, put_by, release, slots_of, tick_at, owed_ticks}
use Rattle.net_base.specs.Net.{Net, opening_net}
use Rattle.net_base.specs.Routes.{Way, way, has_address}
use Rattle.net_base.specs.Stamped.{In, same_actor}
use Rattle.net_locks.specs.Works.{noted_after, next_noted, noted_from, owed_in, step_by}

abbrev IsAway : ActorName → Type 0
IsAway a = same_actor a name.Clock ≡ false

abbrev AreAway : List Duty → Type 0
AreAway [] = Unit {0}
AreAway (d ∷ ds) = IsAway d.actor × AreAway ds

both : (ds es : List Duty) → AreAway ds → AreAway es → AreAway (ds ++ es)
both [] es one two = two
both (d ∷ ds) es one two = (one.0, both ds es one.1 two)

rest : (ds : List Duty) → AreAway ds → AreAway (drop 1 ds)
rest [] away = tt
rest (d ∷ ds) away = away.1

either : (b : Bool) (ds es : List Duty) → AreAway ds → AreAway es → AreAway (if b then ds else es)
either true ds es one two = one
either false ds es one two = two

put_away : (out : Option Way) (s : ℕ) (p : Packet) → AreAway (put_by out s p)
put_away None s p = tt
put_away (Some out) s p = (refl, tt)

emitted_away : (w : World) (a : ActorName) (s : ℕ) (o : Option Packet) → AreAway (emitted_put w a s o)
emitted_away w (name.Dir h p) s (Some packet) = put_away (way w h packet.dst.ip) s packet
emitted_away w (name.Conv h p n) s (Some packet) = put_away (way w h packet.dst.ip) s packet
emitted_away w _ s _ = tt

closes_away : (h : ℕ) (p : Proto) (s : ℕ) (calls : List Call) → AreAway (close_calls h p s calls)
closes_away h p s [] = tt
closes_away h p s (c ∷ cs) = (refl, closes_away h p s cs)

follow_away : (a : ActorName) (s : ℕ) (e : Event) (with : With) (r : Reply) → AreAway (follow_up a s e with r)
follow_away (name.Dir h p) s event.Reserve with (reply.Slot n g) = (refl, tt)
follow_away (name.Dir h p) s (event.Grant n g remote port) with (reply.Granted pair start limit) = (refl, tt)
follow_away (name.Dir h p) s (event.Announce n g ip port) with reply.Ok = (refl, tt)
follow_away (name.Dir h p) s (event.Bind n g port) with reply.Ok = (refl, tt)
follow_away (name.Dir h p) s (event.Listen n) with (reply.Call m g) = (refl, tt)
follow_away (name.Dir h p) s (event.Withdraw n g) with (reply.Calls calls) = closes_away h p s calls
follow_away (name.Dir h p) s (event.Release n g) with (reply.Calls calls) = closes_away h p s calls
follow_away (name.Dir h p) s event.Arrive (given.Packet packet) (reply.To n g) = (refl, tt)
follow_away (name.Dir h p) s event.Arrive (given.Packet packet) (reply.Born n g start limit) = (refl, tt)
follow_away (name.Conv h p n) s (event.Hangup g) with reply.Left = (refl, tt)
follow_away _ s _ with _ = tt

copy_away : (w : World) (a : ActorName) (s : ℕ) (o : Option Taken) → AreAway (courier_duty w a s o)
copy_away w (name.Medium m) s (Some t) =
    either (has_address w t.to t.packet.dst.ip) _ (forwarded w t.to s t.packet) (refl, tt)
    (either (nat_lt 1 t.packet.ttl) (put_by (way w t.to t.packet.dst.ip) s _) [] (put_away (way w t.to t.packet.dst.ip) s _) tt)
copy_away w _ s _ = tt

-- actors none of which is the clock
abbrev NoClock : List ActorName → Type 0
NoClock [] = Unit {0}
NoClock (a ∷ as') = IsAway a × NoClock as'

no_clock : (as' bs : List ActorName) → NoClock as' → NoClock bs → NoClock (as' ++ bs)
no_clock [] bs one two = two
no_clock (a ∷ as') bs one two = (one.0, no_clock as' bs one.1 two)

slots_away : (h : ℕ) (p : Proto) (ns : List ℕ) → NoClock (map (λ (n : ℕ). name.Conv h p n) ns)
slots_away h p [] = tt
slots_away h p (n ∷ ns) = (refl, slots_away h p ns)

hosts_away : (hs : List ℕ) → NoClock (flat_map (λ (h : ℕ). slots_of h proto.Il ++ slots_of h proto.Udp) hs)
hosts_away [] = tt
hosts_away (h ∷ hs) =
    no_clock (slots_of h proto.Il ++ slots_of h proto.Udp) _
    (no_clock (slots_of h proto.Il) (slots_of h proto.Udp) (slots_away h proto.Il (range_with_len 0 32)) (slots_away h proto.Udp (range_with_len 0 32))) (hosts_away hs)

tick_away : (actors : ActorName → Actor) (s now : ℕ) (as' : List ActorName) → NoClock as' → AreAway (flat_map (tick_at actors s now) as')
tick_away actors s now [] away = tt
tick_away actors s now (a ∷ as') away =
    both (tick_at actors s now a) _
    (either (has_come now (due_of (actors a))) (one_duty s a (event.Tick (generation_of (actors a))) given.Nothing) [] (away.0, tt) tt) (tick_away actors s now as' away.1)

ticks_away : (w : World) (actors : ActorName → Actor) (a : ActorName) (s : ℕ) (e : Event) → AreAway (owed_ticks w actors a s e)
ticks_away w actors name.Clock s (event.Move now) = tick_away actors s now (conversations w) (hosts_away _)
ticks_away w actors _ s _ = tt

release_away : (a : ActorName) (s : ℕ) (q : Actor) (b : Bool) → AreAway (release a s q b)
release_away (name.Conv h p n) s (IsConv c) true = (refl, tt)
release_away _ s _ _ = tt

duties_away : (w : World) (actors : ActorName → Actor) (a : ActorName) (s : ℕ) (work : Work) (t : Step Actor) → AreAway (duties w actors a s work t)
duties_away w actors a s work t =
    both (emitted_put w a s t.outcome.emit ++ follow_up a s work.event work.with t.outcome.reply ++ courier_duty w a s t.outcome.taken ++ owed_ticks w actors a s work.event) _
    (both (emitted_put w a s t.outcome.emit ++ follow_up a s work.event work.with t.outcome.reply ++ courier_duty w a s t.outcome.taken) _
    (both (emitted_put w a s t.outcome.emit ++ follow_up a s work.event work.with t.outcome.reply) _
    (both (emitted_put w a s t.outcome.emit) _ (emitted_away w a s t.outcome.emit) (follow_away a s work.event work.with t.outcome.reply))
    (copy_away w a s t.outcome.taken))
    (ticks_away w actors a s work.event))
    (release_away a s t.state t.outcome.ended)

module _ (w : World) (c : ℕ) where
  after_away : (net : Net) (x : Noted) (t : Option (Step Actor)) → AreAway (net.owed c) → AreAway ((noted_after w net x t).owed c)
  after_away net x None away = away
  after_away net x (Some s) away =
      either (x.entry.caller == c) _ (net.owed c) (both (drop 1 (net.owed c)) _ (rest (net.owed c) away) (duties_away w net.actors x.entry.actor _ x.work s)) away

  from_away : (net : Net) (log : List Noted) → AreAway (net.owed c) → AreAway ((noted_from w net log).owed c)
  from_away net [] away = away
  from_away net (x ∷ xs) away = from_away (next_noted w net x) xs (after_away net x (step_by w net x) away)

each_away : (d : Duty) (ds : List Duty) → AreAway ds → In d ds → IsAway d.actor
each_away d [] away is = absurd is
each_away d (e ∷ es) away (inl is) = ap (λ (q : Duty). same_actor q.actor name.Clock) is ∙ away.0
each_away d (e ∷ es) away (inr is) = each_away d es away.1 is

-- a duty that is owed isn't one at the clock
pub owed_away : (w : World) (log : List Noted) (c : ℕ) (d : Duty) → In d (owed_in w log c) → same_actor d.actor name.Clock ≡ false
owed_away w log c d is = each_away d (owed_in w log c) (from_away w c (opening_net w) log tt) is
