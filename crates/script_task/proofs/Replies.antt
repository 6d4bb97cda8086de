-- The replies of all actors fit their events.
use Rattle.std.proofs.Common.{◌≡◌, ℕ, true, List, [], ◌∷◌, take, Option, Some, None, slice_get, refl, sym, subst}
use Rattle.std.specs.Prelude.{IfSome, IsSome}
use Rattle.std.proofs.lemmas.Option.{none-some}
use Rattle.net_base.specs.declared.actor.ActorName.{ActorName}
use Rattle.net_base.specs.declared.actor.ActorName.TheVariants as name
use Rattle.net_base.specs.declared.event.Event.{Event}
use Rattle.net_base.specs.declared.event.Event.TheVariants as event
use Rattle.net_base.specs.declared.history.Entry.{Entry}
use Rattle.net_base.specs.declared.history.With.{With}
use Rattle.net_base.specs.declared.history.Work.{Work}
use Rattle.net_base.specs.declared.reply.Reply.{Reply}
use Rattle.net_base.specs.declared.reply.Reply.TheVariants as reply
use Rattle.net_base.specs.declared.timer.Timers.{Timers}
use Rattle.net_base.specs.declared.world.HostSpec.{HostSpec}
use Rattle.net_base.specs.declared.world.MediumSpec.{MediumSpec}
use Rattle.net_base.specs.declared.world.Version.{Version}
use Rattle.net_base.specs.declared.world.World.{World}
use Rattle.net_base.specs.ActorStep.{Step}
use Rattle.net_base.specs.Actors.{Actor, IsDir, opening_actor, actor_step}
use Rattle.net_base.specs.Conversation.{Conv}
use Rattle.net_base.specs.Desk.{Desk}
use Rattle.net_base.specs.Legal.{IsLegal, MayFollow, Shows}
use Rattle.net_base.specs.Medium.{Medium}
use Rattle.net_base.specs.Net.{Net, after, works, played, stepped_to, WorkAt, work_of, outcome_in}
use Rattle.history_laws.proofs.Shared.{state_is_fold}
use Rattle.script_task.specs.Fitting.{fits}
use Rattle.script_task.proofs.DirReplies.{Fine, dir_fits, opening_fine}
use Rattle.history_laws.specs.ActorRows.{ActorRow, AtDesk, AtDir, AtConv, AtMedium, AtClock, DeskRow, MediumRow, NoStation, Tells}
use Rattle.history_laws.specs.ConvRows.{ConvRow, Stale, generation_in}
use Rattle.history_laws.proofs.Shared.{actor_rows, map_some, shown_reply}

-- Conversations, desks and media.

-- an older generation fits each event that names one
stale_fits : (e : Event) (g : ℕ) → generation_in e ≡ Some g → fits e reply.Stale ≡ true
stale_fits (event.Use called) g names = absurd (none-some g names)
stale_fits (event.Misuse called) g names = absurd (none-some g names)
stale_fits _ g names = refl

conv_fits : (slot now : ℕ) (c : Conv) (e : Event) (with : With) (s : Step Conv) → ConvRow slot now c e with s → fits e s.outcome.reply ≡ true
conv_fits slot now c e with s (Stale {g = g} names old) = stale_fits e g names
conv_fits slot now c e with s _ = refl

desk_fits : (dbs : List Version) (h : HostSpec) (now : ℕ) (d : Desk) (e : Event) (r : Reply) → DeskRow dbs h now d e r → fits e r ≡ true
desk_fits dbs h now d e r (Tells lines) = refl
desk_fits dbs h now d e r _ = refl

medium_fits : (spec : MediumSpec) (seed : ℕ) (m : Medium) (e : Event) (with : With) (s : Step Medium) → MediumRow spec seed m e with s → fits e s.outcome.reply ≡ true
medium_fits spec seed m e with s NoStation = refl
medium_fits spec seed m e with s _ = refl

-- Any actor.

-- a directory keeps its slots, and the others need nothing
abbrev pub IsFine : Actor → Type 0
IsFine (IsDir d) = Fine d.slots
IsFine _ = Unit {0}

-- the actor stays so, and its reply fits
abbrev Goes : Event → Step Actor → Type 0
Goes e t = IsFine t.state × (fits e t.outcome.reply ≡ true)

row_goes : (w : World) (now : ℕ) (a : ActorName) (s : Actor) (e : Event) (with : With) (t : Step Actor) → IsFine s → ActorRow w now a s e with t → Goes e t
row_goes w now a s e with t fine (AtDir {h = h} {p = p} {d = d} {s = x} row) = let fit = dir_fits w h p d fine e with x row in (fit.fine, fit.fit)
row_goes w now a s e with t fine (AtConv {n = n} {c = c} {s = x} row) = (tt, conv_fits n now c e with x row)
row_goes w now a s e with t fine (AtDesk {host = host} {d = d} {r = r} there row) = (tt, desk_fits w.dbs host now d e r row)
row_goes w now a s e with t fine (AtMedium {spec = spec} {m = m} {s = x} there row) = (tt, medium_fits spec w.seed m e with x row)
row_goes w now a s e with t fine AtClock = (tt, refl)

actor_goes : (w : World) (a : ActorName) (s : Actor) (now : ℕ) (work : Work) → IsFine s → IfSome (actor_step w a s now work) (Goes work.event)
actor_goes w a s now work fine = map_some (actor_step w a s now work) _ _ (actor_rows w now a s work) (λ t row. row_goes w now a s work.event work.with t fine row)

-- Histories.

stays_fine : (s : Actor) (e : Event) (o : Option (Step Actor)) → IsFine s → IfSome o (Goes e) → IsFine (stepped_to s o)
stays_fine s e None fine goes = fine
stays_fine s e (Some t) fine goes = goes.0

played_fine : (w : World) (a : ActorName) (s : Actor) (ps : List WorkAt) → IsFine s → IsFine (played w a s ps)
played_fine w a s [] fine = fine
played_fine w a s (p ∷ ps) fine = played_fine w a (stepped_to s (actor_step w a s p.moment p.work)) ps (stays_fine s p.work.event (actor_step w a s p.moment p.work) fine (actor_goes w a s p.moment p.work fine))

opening_is_fine : (timers : Timers) (a : ActorName) → IsFine (opening_actor timers a)
opening_is_fine timers (name.Desk h) = tt
opening_is_fine timers (name.Dir h p) = opening_fine
opening_is_fine timers (name.Conv h p n) = tt
opening_is_fine timers (name.Medium m) = tt
opening_is_fine timers name.Clock = tt

fine_after : (w : World) (h : List Entry) (a : ActorName) → IsFine ((after w h).actors a)
fine_after w h a = subst IsFine (sym (state_is_fold w h a)) (played_fine w a (opening_actor w.timers a) (works w h a) (opening_is_fine w.timers a))

goes_fits : (e : Event) (o : Option (Step Actor)) (t : Step Actor) → o ≡ Some t → IfSome o (Goes e) → fits e t.outcome.reply ≡ true
goes_fits e o t is goes = (subst (λ (x : Option (Step Actor)). IfSome x (Goes e)) is goes).1

-- a step of an actor as it is after a history
pub step_fits : (w : World) (h : List Entry) (a : ActorName) (now : ℕ) (work : Work) (t : Step Actor) → actor_step w a ((after w h).actors a) now work ≡ Some t → fits work.event t.outcome.reply ≡ true
step_fits w h a now work t is = goes_fits work.event (actor_step w a ((after w h).actors a) now work) t is (actor_goes w a ((after w h).actors a) now work (fine_after w h a))

-- a step of an actor after any works
pub played_fits : (w : World) (a : ActorName) (ps : List WorkAt) (now : ℕ) (work : Work) (t : Step Actor) → actor_step w a (played w a (opening_actor w.timers a) ps) now work ≡ Some t → fits work.event t.outcome.reply ≡ true
played_fits w a ps now work t is =
    goes_fits work.event (actor_step w a (played w a (opening_actor w.timers a) ps) now work) t is
    (actor_goes w a (played w a (opening_actor w.timers a) ps) now work (played_fine w a (opening_actor w.timers a) ps (opening_is_fine w.timers a)))

-- an entry that may follow
follows_fits : (w : World) (net : Net) (x : Entry) → IsFine (net.actors x.actor) → IsSome (outcome_in w net x) → Shows (outcome_in w net x) x → fits x.event x.reply ≡ true
follows_fits w net x fine ready shows =
    shown_reply w net x (λ (r : Reply). fits x.event r ≡ true) ready shows
    (λ t row. (row_goes w net.moment x.actor (net.actors x.actor) x.event (work_of net x).with t fine row).1)

-- an entry of a legal history
pub entry_fits : (w : World) (h : List Entry) (k : ℕ) (x : Entry) → IsLegal w h → slice_get h k ≡ Some x → fits x.event x.reply ≡ true
entry_fits w h k x legal is =
    let may : MayFollow w (take k h) x = legal k x is in
    follows_fits w (after w (take k h)) x (fine_after w (take k h) x.actor) may.is_ready may.answers
