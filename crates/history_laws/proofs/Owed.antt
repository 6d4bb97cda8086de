-- What holds of the duties of entries: each that is owed cites an earlier entry of its caller.
use Rattle.std.proofs.Common.{◌≡◌, ℕ, ◌-◌, ◌==◌, Bool, true, false, List, [], ◌∷◌, ◌++◌, length, drop, Option, Some, None, slice_get, inl, inr, refl, sym, ap, subst, ◌∙◌, append_assoc, append-nil}
use Rattle.std.specs.Prelude.{if◌then◌else◌, nat_lt}
use Rattle.std.proofs.lemmas.Bool.{eqb-true}
use Rattle.net_base.specs.declared.actor.ActorName.{ActorName}
use Rattle.net_base.specs.declared.actor.ActorName.TheVariants as name
use Rattle.net_base.specs.declared.actor.Call.{Call}
use Rattle.net_base.specs.declared.address.Proto.{Proto}
use Rattle.net_base.specs.declared.event.Event.{Event}
use Rattle.net_base.specs.declared.event.Event.TheVariants as event
use Rattle.net_base.specs.declared.history.Entry.{Entry}
use Rattle.net_base.specs.declared.history.Taken.{Taken}
use Rattle.net_base.specs.declared.history.With.{With}
use Rattle.net_base.specs.declared.history.With.TheVariants as given
use Rattle.net_base.specs.declared.history.Work.{Work}
use Rattle.net_base.specs.declared.packet.Packet.{Packet}
use Rattle.net_base.specs.declared.reply.Reply.{Reply}
use Rattle.net_base.specs.declared.reply.Reply.TheVariants as reply
use Rattle.net_base.specs.declared.world.World.{World}
use Rattle.net_base.specs.ActorStep.{Step}
use Rattle.net_base.specs.Actors.{Actor, IsConv}
use Rattle.net_base.specs.Duties.{Duty, duties, put_by, emitted_put, close_calls, follow_up, forwarded, courier_duty, tick_at, owed_ticks, has_come, due_of, conversations, release}
use Rattle.net_base.specs.Net.{Net, opening_net, net_after, next_net, net_of, step_of, work_of, owed}
use Rattle.net_base.specs.Routes.{Way, way, has_address}
use Rattle.net_base.specs.Stamped.{In}
use Rattle.history_laws.proofs.Histories.{before_push, at_push}
use Rattle.history_laws.proofs.Ordered.{Each, each_weaker, each_append, each_flat_map}
use Rattle.history_laws.proofs.StepEvents.{IsOther}

-- The duties of an entry.

-- P holds of each duty of the entry s, where it holds of each that cites s and whose event repeats no step's words
module _ (P : Duty → Type 0) (s : ℕ) (holds : (a : ActorName) (e : Event) (gift : With) → IsOther e → P (record { actor = a; event = e; with = gift; cites = s })) where
  put_each : (o : Option Way) (p : Packet) → Each P (put_by o s p)
  put_each None p = tt
  put_each (Some out) p = (holds _ _ _ tt, tt)

  emitted_each : (w : World) (a : ActorName) (o : Option Packet) → Each P (emitted_put w a s o)
  emitted_each w (name.Dir h p) (Some packet) = put_each (way w h packet.dst.ip) packet
  emitted_each w (name.Conv h p n) (Some packet) = put_each (way w h packet.dst.ip) packet
  emitted_each w _ _ = tt

  close_each : (h : ℕ) (p : Proto) (calls : List Call) → Each P (close_calls h p s calls)
  close_each h p [] = tt
  close_each h p (c ∷ cs) = (holds _ _ _ tt, close_each h p cs)

  follow_each : (a : ActorName) (e : Event) (gift : With) (r : Reply) → Each P (follow_up a s e gift r)
  follow_each (name.Dir h p) event.Reserve gift (reply.Slot n g) = (holds _ _ _ tt, tt)
  follow_each (name.Dir h p) (event.Grant n g remote port) gift (reply.Granted pair start limit) = (holds _ _ _ tt, tt)
  follow_each (name.Dir h p) (event.Announce n g ip port) gift reply.Ok = (holds _ _ _ tt, tt)
  follow_each (name.Dir h p) (event.Bind n g port) gift reply.Ok = (holds _ _ _ tt, tt)
  follow_each (name.Dir h p) (event.Listen n) gift (reply.Call m g) = (holds _ _ _ tt, tt)
  follow_each (name.Dir h p) (event.Withdraw n g) gift (reply.Calls calls) = close_each h p calls
  follow_each (name.Dir h p) (event.Release n g) gift (reply.Calls calls) = close_each h p calls
  follow_each (name.Dir h p) event.Arrive (given.Packet packet) (reply.To n g) = (holds _ _ _ tt, tt)
  follow_each (name.Dir h p) event.Arrive (given.Packet packet) (reply.Born n g start limit) = (holds _ _ _ tt, tt)
  follow_each (name.Conv h p n) (event.Hangup g) gift reply.Left = (holds _ _ _ tt, tt)
  follow_each _ _ gift _ = tt

  either_each : (b : Bool) (ds es : List Duty) → Each P ds → Each P es → Each P (if b then ds else es)
  either_each true ds es one two = one
  either_each false ds es one two = two

  forwarded_each : (w : World) (to : ℕ) (p : Packet) → Each P (forwarded w to s p)
  forwarded_each w to p = either_each (nat_lt 1 p.ttl) _ [] (put_each (way w to p.dst.ip) (record p { ttl = p.ttl - 1 })) tt

  courier_each : (w : World) (a : ActorName) (o : Option Taken) → Each P (courier_duty w a s o)
  courier_each w (name.Medium m) (Some t) =
      either_each (has_address w t.to t.packet.dst.ip) _ (forwarded w t.to s t.packet) (holds _ _ _ tt, tt) (forwarded_each w t.to t.packet)
  courier_each w _ _ = tt

  tick_each : (actors : ActorName → Actor) (now : ℕ) (a : ActorName) → Each P (tick_at actors s now a)
  tick_each actors now a = either_each (has_come now (due_of (actors a))) _ [] (holds _ _ _ tt, tt) tt

  ticks_each : (w : World) (actors : ActorName → Actor) (a : ActorName) (e : Event) → Each P (owed_ticks w actors a s e)
  ticks_each w actors name.Clock (event.Move now) = each_flat_map P (tick_at actors s now) (tick_each actors now) (conversations w)
  ticks_each w actors _ _ = tt

  release_each : (a : ActorName) (b : Actor) (ended : Bool) → Each P (release a s b ended)
  release_each (name.Conv h p n) (IsConv c) true = (holds _ _ _ tt, tt)
  release_each _ _ _ = tt

  pub duties_each : (w : World) (actors : ActorName → Actor) (a : ActorName) (work : Work) (step : Step Actor) → Each P (duties w actors a s work step)
  duties_each w actors a work step =
      each_append P _ (release a s step.state step.outcome.ended)
      (each_append P _ (owed_ticks w actors a s work.event)
      (each_append P _ (courier_duty w a s step.outcome.taken)
      (each_append P (emitted_put w a s step.outcome.emit) (follow_up a s work.event work.with step.outcome.reply)
      (emitted_each w a step.outcome.emit)
      (follow_each a work.event work.with step.outcome.reply))
      (courier_each w a step.outcome.taken))
      (ticks_each w actors a work.event))
      (release_each a step.state step.outcome.ended)

-- What the callers owe after an entry.

-- P holds of each duty that the caller owes after an entry, where it did before and does of the entry's own
pub owed_each : (P : Duty → Type 0) (w : World) (net : Net) (x : Entry) (o : Option (Step Actor)) (c : ℕ) → Each P (net.owed c)
    → (x.caller ≡ c → (a : ActorName) (e : Event) (gift : With) → IsOther e → P (record { actor = a; event = e; with = gift; cites = length net.past }))
    → Each P ((net_after w net x o).owed c)
owed_each P w net x None c before holds = before
owed_each P w net x (Some s) c before holds = by (x.caller == c) refl
  where
    new : List Duty
    new = duties w net.actors x.actor (length net.past) (work_of net x) s

    rest : (ds : List Duty) → Each P ds → Each P (drop 1 ds)
    rest [] all = tt
    rest (d ∷ ds) all = all.1

    by : (b : Bool) → (x.caller == c) ≡ b → Each P (if b then drop 1 (net.owed c) ++ new else net.owed c)
    by false other = before
    by true same =
        each_append P (drop 1 (net.owed c)) new (rest (net.owed c) before)
        (duties_each P (length net.past) (holds (eqb-true x.caller c same)) w net.actors x.actor (work_of net x) s)

-- Over a history.

-- the duty of the caller cites an earlier entry of its own
abbrev CitesOwn : List Entry → ℕ → Duty → Type 0
CitesOwn h c d = (x : Entry) × (slice_get h d.cites ≡ Some x) × (x.caller ≡ c)

cites_later : (h : List Entry) (y : Entry) (c : ℕ) (d : Duty) → CitesOwn h c d → CitesOwn (h ++ y ∷ []) c d
cites_later h y c d own = (own.0, before_push h y own.0 d.cites own.1, own.2)

-- what the net has listed is the history
pub past_is : (w : World) (net : Net) (x : Entry) (s : Option (Step Actor)) → (net_after w net x s).past ≡ net.past ++ x ∷ []
past_is w net x None = refl
past_is w net x (Some s) = refl

owed_next : (w : World) (net : Net) (x : Entry) (s : Option (Step Actor)) (c : ℕ) → Each (CitesOwn net.past c) (net.owed c) → Each (CitesOwn (net.past ++ x ∷ []) c) ((net_after w net x s).owed c)
owed_next w net x s c own =
    owed_each (CitesOwn (net.past ++ x ∷ []) c) w net x s c
    (each_weaker (CitesOwn net.past c) (CitesOwn (net.past ++ x ∷ []) c) (cites_later net.past x c) (net.owed c) own)
    (λ same a e gift other. (x, at_push net.past x, same))

owed_all : (w : World) (net : Net) (h : List Entry) (c : ℕ) → Each (CitesOwn net.past c) (net.owed c) → Each (CitesOwn (net_of w net h).past c) ((net_of w net h).owed c)
owed_all w net [] c own = own
owed_all w net (x ∷ xs) c own =
    owed_all w (next_net w net x) xs c (subst (λ (p : List Entry). Each (CitesOwn p c) ((next_net w net x).owed c)) (sym (past_is w net x (step_of w net x))) (owed_next w net x (step_of w net x) c own))

pub past_after : (w : World) (net : Net) (h : List Entry) → (net_of w net h).past ≡ net.past ++ h
past_after w net [] = sym (append-nil net.past)
past_after w net (x ∷ xs) = past_after w (next_net w net x) xs ∙ (ap (λ (p : List Entry). p ++ xs) (past_is w net x (step_of w net x)) ∙ append_assoc net.past (x ∷ []) xs)

found : (h : List Entry) (c : ℕ) (ds : List Duty) (d : Duty) → Each (CitesOwn h c) ds → In d ds → CitesOwn h c d
found h c [] d own there = absurd there
found h c (e ∷ es) d own (inl same) = subst (CitesOwn h c) (sym same) own.0
found h c (e ∷ es) d own (inr later) = found h c es d own.1 later

-- each duty that a caller owes cites an earlier entry of its own
pub cites_its_own : (w : World) (h : List Entry) (c : ℕ) (d : Duty) → In d (owed w h c) → (x : Entry) × (slice_get h d.cites ≡ Some x) × (x.caller ≡ c)
cites_its_own w h c d there =
    found h c (owed w h c) d (subst (λ (p : List Entry). Each (CitesOwn p c) (owed w h c)) (past_after w (opening_net w) h) (owed_all w (opening_net w) h c tt)) there
