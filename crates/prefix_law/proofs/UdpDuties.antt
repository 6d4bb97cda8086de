-- What packets and duties carry: each datagram was written at the conversation that has its addresses.
use Rattle.std.proofs.Common.{◌≡◌, ℕ, ◌-◌, nat_lt, Bool, true, List, [], ◌∷◌, ◌++◌, drop, Option, Some, None, subst}
use Rattle.std.specs.Prelude.{flat_map}
use Rattle.std.proofs.lemmas.Bool.{cond_both}
use Rattle.net_base.specs.declared.actor.ActorName.{ActorName}
use Rattle.net_base.specs.declared.actor.ActorName.TheVariants as actor
use Rattle.net_base.specs.declared.address.Pair.{Pair}
use Rattle.net_base.specs.declared.address.Proto.{Proto}
use Rattle.net_base.specs.declared.event.Event.{Event}
use Rattle.net_base.specs.declared.event.Event.TheVariants as event
use Rattle.net_base.specs.declared.history.Entry.{Entry}
use Rattle.net_base.specs.declared.history.Taken.{Taken}
use Rattle.net_base.specs.declared.history.With.{With}
use Rattle.net_base.specs.declared.history.With.TheVariants as given
use Rattle.net_base.specs.declared.history.Work.{Work}
use Rattle.net_base.specs.declared.packet.Body.{Body}
use Rattle.net_base.specs.declared.packet.Body.TheVariants as body
use Rattle.net_base.specs.declared.packet.Packet.{Packet}
use Rattle.net_base.specs.declared.reply.Reply.{Reply}
use Rattle.net_base.specs.declared.reply.Reply.TheVariants as reply
use Rattle.net_base.specs.declared.world.World.{World}
use Rattle.net_base.specs.ActorStep.{Step}
use Rattle.net_base.specs.Actors.{Actor, IsConv}
use Rattle.net_base.specs.Callers.{Caller}
use Rattle.net_base.specs.Directory as directory
use Rattle.net_base.specs.Duties.{Duty, put_by, emitted_put, follow_up, courier_duty, has_come, due_of, generation_of, conversations, tick_at, owed_ticks, release, duties}
use Rattle.net_base.specs.Legal.{IsAsked}
use Rattle.net_base.specs.Net.{with_of}
use Rattle.net_base.specs.Routes.{Way, way, has_address}
use Rattle.net_base.specs.Steps.{Ask}
use Rattle.net_base.specs.Written.{Given}
use Rattle.prefix_law.proofs.Copies.{OfTaken}

-- What is known of a history: K, to whom pairs were given, and W, which texts were written at the conversation that has a pair.

abbrev pub given_to : ℕ → Proto → ℕ → ℕ → Pair → Given
given_to h p n g pair = record { to = record { host = h; proto = p; slot = n; generation = g }; pair = pair }

-- more is known
pub record Grows (K L : Given → Type 0) (W V : Pair → List ℕ → Type 0) : Type 0 where
  pub given_stays : (g : Given) → K g → L g
  pub written_stays : (p : Pair) (text : List ℕ) → W p text → V p text

-- a datagram from one address of a pair to the other was written
abbrev pub EmittedAs : (Pair → List ℕ → Type 0) → Pair → Body → Type 0
EmittedAs W p (body.Il m) = Unit {0}
EmittedAs W p (body.Udp text) = W p text

abbrev pub Emitted : (Pair → List ℕ → Type 0) → Packet → Type 0
Emitted W p = EmittedAs W (record { local = p.src; remote = p.dst }) p.body

abbrev pub EmittedIf : (Pair → List ℕ → Type 0) → Option Packet → Type 0
EmittedIf W None = Unit {0}
EmittedIf W (Some p) = Emitted W p

emitted_as_more : (W V : Pair → List ℕ → Type 0) (p : Pair) (b : Body) → ((q : Pair) (text : List ℕ) → W q text → V q text) → EmittedAs W p b → EmittedAs V p b
emitted_as_more W V p (body.Il m) more e = tt
emitted_as_more W V p (body.Udp text) more e = more p text e

pub emitted_more : (W V : Pair → List ℕ → Type 0) → ((q : Pair) (text : List ℕ) → W q text → V q text) → (p : Packet) → Emitted W p → Emitted V p
emitted_more W V more p e = emitted_as_more W V (record { local = p.src; remote = p.dst }) p.body more e

-- what is given to a conversation
abbrev pub GiftFine : (Given → Type 0) → (Pair → List ℕ → Type 0) → ℕ → Proto → ℕ → Event → With → Type 0
GiftFine K W h p n (event.Connect g) (given.Grant pair start limit) = K (given_to h p n g pair)
GiftFine K W h p n (event.Born g) (given.Birth q start limit) = K (given_to h p n g (directory.packet_pair q)) × Emitted W q
GiftFine K W h p n (event.ArriveAt g) (given.Packet q) = K (given_to h p n g (directory.packet_pair q)) × Emitted W q
GiftFine K W h p n _ _ = Unit {0}

-- what duties carry
abbrev pub WithFine : World → (Given → Type 0) → (Pair → List ℕ → Type 0) → ActorName → Event → With → Type 0
WithFine w K W (actor.Conv h p n) ev gift = GiftFine K W h p n ev gift
WithFine w K W (actor.Medium m) (event.Put to) (given.Packet q) = Emitted W q
WithFine w K W (actor.Dir h p) event.Arrive (given.Packet q) = Emitted W q × (has_address w h q.dst.ip ≡ true)
WithFine w K W _ _ _ = Unit {0}

-- what a copy carries that a medium gives
abbrev pub TakenAt : (Pair → List ℕ → Type 0) → ActorName → Option Taken → Type 0
TakenAt W (actor.Medium m) taken = OfTaken (Emitted W) taken
TakenAt W _ taken = Unit {0}

abbrev pub EachDuty : World → (Given → Type 0) → (Pair → List ℕ → Type 0) → List Duty → Type 0
EachDuty w K W [] = Unit {0}
EachDuty w K W (d ∷ ds) = WithFine w K W d.actor d.event d.with × EachDuty w K W ds

module _ (w : World) (K L : Given → Type 0) (W V : Pair → List ℕ → Type 0) (more : Grows K L W V) where
  gift_more : (h : ℕ) (p : Proto) (n : ℕ) (ev : Event) (gift : With) → GiftFine K W h p n ev gift → GiftFine L V h p n ev gift
  gift_more h p n (event.Connect g) (given.Grant pair start limit) f = more.given_stays _ f
  gift_more h p n (event.Born g) (given.Birth q start limit) f = (more.given_stays _ f.0, emitted_more W V more.written_stays q f.1)
  gift_more h p n (event.ArriveAt g) (given.Packet q) f = (more.given_stays _ f.0, emitted_more W V more.written_stays q f.1)
  gift_more h p n _ _ f = tt

  with_more : (a : ActorName) (ev : Event) (gift : With) → WithFine w K W a ev gift → WithFine w L V a ev gift
  with_more (actor.Conv h p n) ev gift f = gift_more h p n ev gift f
  with_more (actor.Medium m) (event.Put to) (given.Packet q) f = emitted_more W V more.written_stays q f
  with_more (actor.Dir h p) event.Arrive (given.Packet q) f = (emitted_more W V more.written_stays q f.0, f.1)
  with_more _ _ _ f = tt

  pub each_duty_more : (ds : List Duty) → EachDuty w K W ds → EachDuty w L V ds
  each_duty_more [] f = tt
  each_duty_more (d ∷ ds) f = (with_more d.actor d.event d.with f.0, each_duty_more ds f.1)

module _ (w : World) (K : Given → Type 0) (W : Pair → List ℕ → Type 0) where
  pub each_duty_append : (xs ys : List Duty) → EachDuty w K W xs → EachDuty w K W ys → EachDuty w K W (xs ++ ys)
  each_duty_append [] ys f g = g
  each_duty_append (x ∷ xs) ys f g = (f.0, each_duty_append xs ys f.1 g)

  pub each_duty_rest : (ds : List Duty) → EachDuty w K W ds → EachDuty w K W (drop 1 ds)
  each_duty_rest [] f = tt
  each_duty_rest (d ∷ ds) f = f.1

  put_fine : (out : Option Way) (s : ℕ) (p : Packet) → Emitted W p → EachDuty w K W (put_by out s p)
  put_fine None s p e = tt
  put_fine (Some out) s p e = (e, tt)

  emitted_put_fine : (a : ActorName) (s : ℕ) (emit : Option Packet) → EmittedIf W emit → EachDuty w K W (emitted_put w a s emit)
  emitted_put_fine (actor.Dir h p) s None e = tt
  emitted_put_fine (actor.Conv h p n) s None e = tt
  emitted_put_fine (actor.Dir h p) s (Some packet) e = put_fine (way w h packet.dst.ip) s packet e
  emitted_put_fine (actor.Conv h p n) s (Some packet) e = put_fine (way w h packet.dst.ip) s packet e
  emitted_put_fine _ s _ e = tt

  courier_fine : (a : ActorName) (s : ℕ) (taken : Option Taken) → TakenAt W a taken → EachDuty w K W (courier_duty w a s taken)
  courier_fine (actor.Medium m) s None e = tt
  courier_fine (actor.Medium m) s (Some x) e =
      cond_both (has_address w x.to x.packet.dst.ip) _ _ (λ (ds : List Duty). EachDuty w K W ds)
      (λ here. ((e, here), tt))
      (λ _. cond_both (nat_lt 1 x.packet.ttl) _ _ (λ (ds : List Duty). EachDuty w K W ds) (λ _. put_fine (way w x.to x.packet.dst.ip) s (record x.packet { ttl = x.packet.ttl - 1 }) e) (λ _. tt))
  courier_fine _ s taken e = tt

  nothing_fine : (a : ActorName) (ev : Event) → WithFine w K W a ev given.Nothing
  nothing_fine (actor.Conv h p n) (event.Connect g) = tt
  nothing_fine (actor.Conv h p n) (event.Born g) = tt
  nothing_fine (actor.Conv h p n) (event.ArriveAt g) = tt
  nothing_fine (actor.Medium m) (event.Put to) = tt
  nothing_fine (actor.Dir h p) event.Arrive = tt
  nothing_fine _ _ = tt

  release_fine : (a : ActorName) (s : ℕ) (x : Actor) (ended : Bool) → EachDuty w K W (release a s x ended)
  release_fine (actor.Conv h p n) s (IsConv c) true = (tt, tt)
  release_fine _ s _ _ = tt

  tick_fine : (actors : ActorName → Actor) (s now : ℕ) (a : ActorName) → EachDuty w K W (tick_at actors s now a)
  tick_fine actors s now a =
      cond_both (has_come now (due_of (actors a))) _ _ (λ (ds : List Duty). EachDuty w K W ds)
      (λ _. (nothing_fine a (event.Tick (generation_of (actors a))), tt)) (λ _. tt)

  each_tick_fine : (actors : ActorName → Actor) (s now : ℕ) (names : List ActorName) → EachDuty w K W (flat_map (tick_at actors s now) names)
  each_tick_fine actors s now [] = tt
  each_tick_fine actors s now (a ∷ names) = each_duty_append (tick_at actors s now a) (flat_map (tick_at actors s now) names) (tick_fine actors s now a) (each_tick_fine actors s now names)

  ticks_fine : (actors : ActorName → Actor) (a : ActorName) (s : ℕ) (ev : Event) → EachDuty w K W (owed_ticks w actors a s ev)
  ticks_fine actors actor.Clock s (event.Move now) = each_tick_fine actors s now (conversations w)
  ticks_fine actors _ s _ = tt

  -- what a conversation owes by its reply carries nothing
  pub conv_follow : (h : ℕ) (p : Proto) (n s : ℕ) (ev : Event) (gift : With) (r : Reply) → EachDuty w K W (follow_up (actor.Conv h p n) s ev gift r)
  conv_follow h p n s (event.Hangup g) gift reply.Left = (tt, tt)
  conv_follow h p n s _ gift _ = tt

  -- all that an entry owes
  pub duties_fine : (actors : ActorName → Actor) (a : ActorName) (stamp : ℕ) (work : Work) (s : Step Actor) → EmittedIf W s.outcome.emit → TakenAt W a s.outcome.taken → EachDuty w K W (follow_up a stamp work.event work.with s.outcome.reply)
      → EachDuty w K W (duties w actors a stamp work s)
  duties_fine actors a stamp work s emitted taken follow =
      each_duty_append _ _
      (each_duty_append _ _
      (each_duty_append _ _
      (each_duty_append _ _ (emitted_put_fine a stamp s.outcome.emit emitted) follow)
      (courier_fine a stamp s.outcome.taken taken))
      (ticks_fine actors a stamp work.event))
      (release_fine a stamp s.state s.outcome.ended)

  -- what the work of an entry carries
  pub work_fine : (x : Entry) (ds : List Duty) (caller : Caller) (ask : Option Ask) → EachDuty w K W ds → IsAsked ds caller ask x → WithFine w K W x.actor x.event (with_of ds)
  work_fine x [] caller ask f is = nothing_fine x.actor x.event
  work_fine x (d ∷ ds) caller ask f is = subst (λ (a : Ask). WithFine w K W a.actor a.event d.with) is f.0
