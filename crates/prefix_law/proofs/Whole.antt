-- Each entry of a legal history keeps what holds of all pairs.
use Rattle.std.proofs.Common.{◌≡◌, ℕ, ◌+◌, ◌-◌, ◌^◌, ◌<◌, ◌≤◌, ◌==◌, ◌&&◌, nat_lt, Bool, true, false, cond, List, [], ◌∷◌, ◌++◌, length, take, drop, Option, Some, None, slice_get, ◌⊎◌, inl, inr, refl, sym, ap, subst, ◌∙◌, arith}
use Rattle.std.specs.Prelude.{IfSome, IsSome, flat_map}
use Rattle.std.specs.Option.{option_map, option_and_then}
use Rattle.std.proofs.lemmas.Option.{none-some}
use Rattle.std.proofs.lemmas.Bool.{and_parts, and_from, cond_both, eqb-true, eq-eqb}
use Rattle.std.proofs.lemmas.List.{length_push, append-nil}
use Rattle.net_base.specs.declared.address.Pair.{Pair}
use Rattle.net_base.specs.declared.address.Proto.TheVariants as proto
use Rattle.net_base.specs.declared.actor.ActorName.{ActorName}
use Rattle.net_base.specs.declared.actor.ActorName.TheVariants as actor
use Rattle.net_base.specs.declared.event.Event.{Event}
use Rattle.net_base.specs.declared.event.Event.TheVariants as event
use Rattle.net_base.specs.declared.reply.Reply.{Reply}
use Rattle.net_base.specs.declared.packet.Body.{Body}
use Rattle.net_base.specs.declared.packet.Body.TheVariants as body
use Rattle.net_base.specs.declared.packet.Packet.{Packet}
use Rattle.net_base.specs.declared.history.Taken.{Taken}
use Rattle.net_base.specs.declared.history.With.{With}
use Rattle.net_base.specs.declared.history.With.TheVariants as given
use Rattle.net_base.specs.declared.history.Work.{Work}
use Rattle.net_base.specs.declared.history.Entry.{Entry}
use Rattle.net_base.specs.declared.timer.Timers.TheVariants.{Fixed}
use Rattle.prefix_law.proofs.Pairs.{Side}
use Rattle.net_base.specs.declared.world.World.{World}
use Rattle.net_base.specs.Routes.{Way, way, has_address}
use Rattle.net_base.specs.declared.world.HostSpec.{HostSpec}
use Rattle.net_base.specs.declared.world.MediumSpec.{MediumSpec}
use Rattle.net_base.specs.ActorStep.{Step, when}
use Rattle.net_base.specs.Conversation.{Core, Il, Udp, Stage, Unused, Listening, Connected, Conv, conv_step, packet_of as packet_by}
use Rattle.net_base.specs.Medium.{medium_step}
use Rattle.net_base.specs.Directory.{Dir, Slot, free_slot, dir_step}
use Rattle.net_base.specs.Actors.{Actor, IsDesk, IsConv, IsDir, IsMedium, IsPlain, slot_count, has_actor, plain_step, step_as, table_step, actor_step}
use Rattle.net_base.specs.Desk.{Desk, desk_replies, desk_reply, desk_step, clock_reply}
use Rattle.net_base.specs.Callers.{Caller, caller_of}
use Rattle.net_base.specs.Steps.{Ask}
use Rattle.net_base.specs.Duties.{Duty, put_by, emitted_put, follow_up, proto_of, courier_duty, has_come, due_of, generation_of, conversations, tick_at, owed_ticks, release, duties}
use Rattle.net_base.specs.Net.{Net, opening_net, with_of, work_of, step_of, actors_after, owed_after, net_after, next_net, net_of, after}
use Rattle.net_base.specs.Legal.{IsLegalBy, Shows, Shown, IsAsked}
use Rattle.prefix_law.proofs.Trace.{Owner, Trace, opening_trace, conv_trace, dir_trace, actor_trace, trace_after, next_trace, trace_of, trace, HasPlaces}
use Rattle.prefix_law.proofs.Deeds.{both_ways, nothing_yet}
use Rattle.prefix_law.proofs.ConvMoves.{of_end, moves, elsewhere, Move, Stay, Begin, Join, Come, Listen}
use Rattle.net_base.specs.IlEnd.{End}
use Rattle.net_base.specs.Tasks.{Tasks}
use Rattle.net_base.specs.declared.il.IlMsg.{IlMsg}
use Rattle.prefix_law.proofs.Touch.{IsIn, HeardClose, Utters, Owned, Later, Emitted, EmittedIf, emitted_later, HasEnd, ConvFine, ActorFine, ConvStep}
use Rattle.prefix_law.proofs.ConvSteps.{GiftFine, owned_more, conv_steps}
use Rattle.prefix_law.proofs.DirSteps.{WithFine, EachDuty, SlotIsFine, DirIsFine, Addressed, DirStep, all_free}
use Rattle.prefix_law.proofs.DirRows.{dir_steps}
use Rattle.history_laws.specs.ActorRows.{seen_as}
use Rattle.history_laws.proofs.Shared.{map_some}
use Rattle.prefix_law.proofs.OtherSteps.{IsUdp, harmless_emitted, udp_steps, dir_harmless, udp_dir_follow, conv_follow, MediumFine, TakenIf, medium_grows, medium_steps}
use Rattle.history_laws.proofs.Shared.{after_push, by_entries}
use Rattle.prefix_law.proofs.Accounts.{AllSized, AtEnd, given_by, Reading}
use Rattle.prefix_law.proofs.Books.{got_sized, Booked, Books, NoEntry, booked_quiet, books_next, conv_booked}

-- What duties carry stays fine.

gift_later : (t u : Trace) (h n : ℕ) (ev : Event) (gift : With) → Later t u → GiftFine t h n ev gift → GiftFine u h n ev gift
gift_later t u h n (event.Connect g) (given.Grant p start limit) later f = later.owner_stays p _ f
gift_later t u h n (event.Born g) (given.Birth q start limit) later f = (later.owner_stays _ _ f.0, emitted_later t u q later f.1)
gift_later t u h n (event.ArriveAt g) (given.Packet q) later f = (later.owner_stays _ _ f.0, emitted_later t u q later f.1)
gift_later t u h n _ _ later f = tt

with_later : (w : World) (t u : Trace) (a : ActorName) (ev : Event) (gift : With) → Later t u → WithFine w t a ev gift → WithFine w u a ev gift
with_later w t u (actor.Conv h proto.Il n) ev gift later f = gift_later t u h n ev gift later f
with_later w t u (actor.Medium m) (event.Put to) (given.Packet p) later f = emitted_later t u p later f
with_later w t u (actor.Dir h proto.Il) event.Arrive (given.Packet p) later f = (emitted_later t u p later f.0, f.1)
with_later w t u _ _ _ later f = tt

each_duty_later : (w : World) (t u : Trace) (ds : List Duty) → Later t u → EachDuty w t ds → EachDuty w u ds
each_duty_later w t u [] later f = tt
each_duty_later w t u (d ∷ ds) later f = (with_later w t u d.actor d.event d.with later f.0, each_duty_later w t u ds later f.1)

each_duty_append : (w : World) (t : Trace) (xs ys : List Duty) → EachDuty w t xs → EachDuty w t ys → EachDuty w t (xs ++ ys)
each_duty_append w t [] ys f g = g
each_duty_append w t (x ∷ xs) ys f g = (f.0, each_duty_append w t xs ys f.1 g)

each_duty_rest : (w : World) (t : Trace) (ds : List Duty) → EachDuty w t ds → EachDuty w t (drop 1 ds)
each_duty_rest w t [] f = tt
each_duty_rest w t (d ∷ ds) f = f.1

-- The whole net.

abbrev pub UdpFine : Actor → Type 0
UdpFine (IsConv c) = IsUdp c.core
UdpFine _ = ⊥

abbrev pub DirFineAs : Trace → ℕ → Actor → Type 0
DirFineAs t h (IsDir d) = DirIsFine t h d
DirFineAs t h _ = ⊥

-- the limit of a conversation is that of a message
abbrev pub LimitFine : Actor → Type 0
LimitFine (IsConv c) = c.limit ≤ 8192
LimitFine _ = ⊥

abbrev pub MediumFineAs : Trace → Actor → Type 0
MediumFineAs t (IsMedium m) = MediumFine t m
MediumFineAs t _ = ⊥

pub record AllFine (t : Trace) (actors : ActorName → Actor) : Type 0 where
  pub convs : (h n : ℕ) → ActorFine t h n (actors (actor.Conv h proto.Il n))
  pub udps : (h n : ℕ) → UdpFine (actors (actor.Conv h proto.Udp n))
  pub dirs : (h : ℕ) → DirFineAs t h (actors (actor.Dir h proto.Il))
  pub media : (m : ℕ) → MediumFineAs t (actors (actor.Medium m))
  pub limits : (h n : ℕ) → LimitFine (actors (actor.Conv h proto.Il n))

pub record Fine (w : World) (k : ℕ) (net : Net) (t : Trace) : Type 0 where
  pub owned : Owned k t
  pub addressed : Addressed w t
  pub all : AllFine t net.actors
  pub owed : (c : ℕ) → EachDuty w t (net.owed c)

abbrev pub TakenAt : Trace → ActorName → Option Taken → Type 0
TakenAt t (actor.Medium m) o = TakenIf t o
TakenAt t _ o = Unit {0}

-- the conversation that has the pair says the message by this step
pub record SaidHere (t : Trace) (q : Pair) (a : ActorName) (m : IlMsg) (emit : Option Packet) : Type 0 where
  pub o : Owner
  pub owns : t.owner q ≡ Some o
  pub actor_is : a ≡ actor.Conv o.host proto.Il o.slot
  pub by : Conv
  pub pair_is : by.pair ≡ q
  pub emit_is : emit ≡ Some (packet_by by (body.Il m))

-- what a step at an actor leaves
pub record Next (w : World) (k : ℕ) (actors : ActorName → Actor) (stamp : ℕ) (t u : Trace) (a : ActorName) (work : Work) (s : Step Actor) : Type 0 where
  pub owned : Owned (k + 1) u
  pub addressed : Addressed w u
  pub later : Later t u
  pub all : AllFine u (actors_after actors a s.state)
  pub emitted : EmittedIf u s.outcome.emit
  pub taken : TakenAt u a s.outcome.taken
  pub follow : EachDuty w u (follow_up a stamp work.event work.with s.outcome.reply)
  pub booked : Booked t u a work.event s.outcome.reply
  -- what other conversations and generations have stays as it is
  pub still : (q : Pair) (o : Owner) → t.owner q ≡ Some o → ((c : Conv) → s.state ≡ IsConv c → a ≡ actor.Conv o.host proto.Il o.slot → c.generation ≡ o.generation → ⊥) → u.side q ≡ t.side q
  -- an end is closed_by_peer by a close of the other end
  pub closed_by_peer : (q : Pair) → (u.side q).end.closed_by_peer ≡ true → ((t.side q).end.closed_by_peer ≡ true) ⊎ HeardClose t q
  -- what a pair has said now it had said, or says by this step
  pub says : (q : Pair) (m : IlMsg) → IsIn m (u.side q).out → IsIn m (t.side q).out ⊎ SaidHere t q a m s.outcome.emit

dir_later : (t u : Trace) (h : ℕ) (a : Actor) → ((p : Pair) (o : Owner) → t.owner p ≡ Some o → u.owner p ≡ Some o) → ((p : Pair) (o : Owner) → u.owner p ≡ Some o → t.owner p ≡ Some o) → DirFineAs t h a → DirFineAs u h a
dir_later t u h (IsDir d) on back f = record {
  slots_fine = λ n s is.
      let x = f.slots_fine n s is in
      record { has = λ p e. on p _ (x.has p e); past = λ p g e. x.past p g (back p _ e); unused = λ r p g e. x.unused r p g (back p _ e) };
  known = λ p o e. f.known p o (back p o e);
}
dir_later t u h _ on back f = absurd f

medium_later : (t u : Trace) (a : Actor) → Later t u → MediumFineAs t a → MediumFineAs u a
medium_later t u (IsMedium m) later f = medium_grows t u m later f
medium_later t u _ later f = absurd f

map_if : {S T : Type 0} (f : S → T) (o : Option S) (Q : T → Type 0) → IfSome o (λ s. Q (f s)) → IfSome (option_map f o) Q
map_if f None Q h = h
map_if f (Some x) Q h = h

both_if : {S : Type 0} (o : Option S) (P Q R : S → Type 0) → IfSome o P → IfSome o Q → ((s : S) → P s → Q s → R s) → IfSome o R
both_if None P Q R h i f = h
both_if (Some x) P Q R h i f = f x h i

-- where the world doesn't have the actor there is no step
table_if : {S : Type 0} (b : Bool) (o : Option S) (Q : S → Type 0) → IfSome o Q → IfSome (when b o) Q
table_if b o Q h = cond_both b o None (λ (x : Option _). IfSome x Q) (λ _. h) (λ _. tt)

-- an actor's step is where its name is
at_name : (P : Actor → Type 0) (new old : Actor) (b : Bool) → (b ≡ true → P new) → (b ≡ false → P old) → P (cond b new old)
at_name P new old b f g = cond_both b new old P f g

not_both : (a b c d : ℕ) → (((a == b) && true) && (c == d)) ≡ false → a ≡ b → c ≡ d → ⊥
not_both a b c d not one two = both_ways (and_from ((a == b) && true) (c == d) (and_from (a == b) true (eq-eqb a b one) refl) (eq-eqb c d two)) not

pub conv_trace_owner : (s : Stage) (core : Core) (c : Conv) (emit : Option Packet) (t : Trace) (p : Pair) → (conv_trace s core c emit t).owner p ≡ t.owner p
conv_trace_owner Connected (Il e) c emit t p = refl
conv_trace_owner Connected (Udp e) c emit t p = refl
conv_trace_owner Unused core c emit t p = refl
conv_trace_owner Listening core c emit t p = refl

no_udp : (t : Trace) (h n : ℕ) (c : Conv) (s : Stage) (e : _) → HasEnd t h n c s (Udp e) → ⊥
no_udp t h n c Connected e x = x
no_udp t h n c Unused e x = x
no_udp t h n c Listening e x = x

other_proto : (a b c d : ℕ) → (((a == b) && false) && (c == d)) ≡ true → ⊥
other_proto a b c d is = both_ways (and_parts (a == b) false (and_parts ((a == b) && false) (c == d) is).0).1 refl

udp_no_entry : (h n : ℕ) (o : Owner) (ev : Event) (r : Reply) → NoEntry o (actor.Conv h proto.Udp n) ev r
udp_no_entry h n o ev r = record {
  written_none = cond_both (((h == o.host) && false) && (n == o.slot)) _ _ (λ (xs : List (List ℕ)). xs ≡ []) (λ is. absurd (other_proto h o.host n o.slot is)) (λ _. refl);
  read_none = cond_both (((h == o.host) && false) && (n == o.slot)) _ _ (λ (xs : List (List ℕ)). xs ≡ []) (λ is. absurd (other_proto h o.host n o.slot is)) (λ _. refl);
}

move_limit : (now : ℕ) (c : Conv) (e : End) (ev : Event) (gift : With) (s : Step Conv) → c.limit ≤ 8192 → Move now c e ev gift s → s.state.limit ≤ 8192
move_limit now c e ev gift s small (Stay turn act st) = rw st.limit_is small
move_limit now c e ev gift s small (Begin b) = rw b.limit_is (omega arith)
move_limit now c e ev gift s small (Join j) = j.limited
move_limit now c e ev gift s small (Come x) = x.limited
move_limit now c e ev gift s small (Listen o) = rw o.limit_is small

stays : (t : Trace) → Later t t
stays t = record { owner_stays = λ p o is. is; out_stays = λ p m there. there }

module _ (w : World) (world : HasPlaces w) (k : ℕ) (few : k < 2 ^ 31) (net : Net) (t : Trace) (f : Fine w k net t) (ev : Event) (gift : With) where
  abbrev Leaves : ActorName → Trace → Step Actor → Type 0
  Leaves a u s = Next w k net.actors (length net.past) t u a (record { event = ev; with = gift }) s

  says_here : (h n g : ℕ) (emit : Option Packet) (u : Trace) → ((q : Pair) (m : IlMsg) → IsIn m (u.side q).out → IsIn m (t.side q).out ⊎ Utters t h n g q m emit)
      → (q : Pair) (m : IlMsg) → IsIn m (u.side q).out → IsIn m (t.side q).out ⊎ SaidHere t q (actor.Conv h proto.Il n) m emit
  says_here h n g emit u says q m there = go (says q m there)
    where
      go : IsIn m (t.side q).out ⊎ Utters t h n g q m emit → IsIn m (t.side q).out ⊎ SaidHere t q (actor.Conv h proto.Il n) m emit
      go (inl old) = inl old
      go (inr new) = inr (record { o = record { host = h; slot = n; generation = g }; owns = new.owns; actor_is = refl; by = new.by; pair_is = new.pair_is; emit_is = new.emit_is })

  -- A conversation with an IL end.

  conv_leaves : (h n : ℕ) (s : Step Conv) → s.state.limit ≤ 8192 → ConvStep k h n t (conv_trace s.state.stage s.state.core s.state s.outcome.emit t) s
      → Booked t (conv_trace s.state.stage s.state.core s.state s.outcome.emit t) (actor.Conv h proto.Il n) ev s.outcome.reply
      → Leaves (actor.Conv h proto.Il n) (conv_trace s.state.stage s.state.core s.state s.outcome.emit t) (seen_as IsConv s)
  conv_leaves h n s small step booked =
      let u = conv_trace s.state.stage s.state.core s.state s.outcome.emit t in
      let back : (p : Pair) (o : Owner) → u.owner p ≡ Some o → t.owner p ≡ Some o = λ p o is. sym (conv_trace_owner s.state.stage s.state.core s.state s.outcome.emit t p) ∙ is in
      record {
        owned = step.owned;
        addressed = λ p o is. f.addressed p o (back p o is);
        later = step.later;
        all = record {
          convs = λ h' n'. at_name (λ (a : Actor). ActorFine u h' n' a) (IsConv s.state) (net.actors (actor.Conv h' proto.Il n')) (((h == h') && true) && (n == n'))
              (λ is.
              let parts = and_parts ((h == h') && true) (n == n') is in
              subst (λ (i : ℕ). ConvFine u i n' s.state) (eqb-true h h' (and_parts (h == h') true parts.0).0) (subst (λ (i : ℕ). ConvFine u h i s.state) (eqb-true n n' parts.1) step.own))
              (λ not. step.others h' n' (net.actors (actor.Conv h' proto.Il n')) (not_both h h' n n' not) (f.all.convs h' n'));
          udps = λ h' n'. at_name (λ (a : Actor). UdpFine a) (IsConv s.state) (net.actors (actor.Conv h' proto.Udp n')) (((h == h') && false) && (n == n'))
              (λ is. absurd (other_proto h h' n n' is)) (λ not. f.all.udps h' n');
          dirs = λ h'. dir_later t u h' (net.actors (actor.Dir h' proto.Il)) step.later.owner_stays back (f.all.dirs h');
          media = λ m. medium_later t u (net.actors (actor.Medium m)) step.later (f.all.media m);
          limits = λ h' n'. at_name (λ (a : Actor). LimitFine a) (IsConv s.state) (net.actors (actor.Conv h' proto.Il n')) (((h == h') && true) && (n == n')) (λ is. small) (λ not. f.all.limits h' n');
        };
        emitted = step.emitted;
        taken = tt;
        follow = conv_follow w u h n (length net.past) proto.Il ev gift s.outcome.reply;
        booked = booked;
        still = λ q o owns other. step.still q o owns (λ e. other s.state refl (ap (λ (x : Owner). actor.Conv x.host proto.Il x.slot) e) (ap (λ (x : Owner). x.generation) e));
        closed_by_peer = step.closed_by_peer;
        says = says_here h n s.state.generation s.outcome.emit u step.says;
      }

  conv_next : (h n : ℕ) (a : Actor) → LimitFine a → ActorFine t h n a → GiftFine t h n ev gift
      → IfSome (table_step w (actor.Conv h proto.Il n) a net.moment (record { event = ev; with = gift })) (λ s. Leaves (actor.Conv h proto.Il n) (actor_trace (actor.Conv h proto.Il n) s.state (record { event = ev; with = gift }) s.outcome t) s)
  conv_next h n (IsConv c) small fine gift_fine = by_core c.core refl fine.0
    where
      by_core : (core : Core) → c.core ≡ core → HasEnd t h n c c.stage core
          → IfSome (table_step w (actor.Conv h proto.Il n) (IsConv c) net.moment (record { event = ev; with = gift })) (λ s. Leaves (actor.Conv h proto.Il n) (actor_trace (actor.Conv h proto.Il n) s.state (record { event = ev; with = gift }) s.outcome t) s)
      by_core (Udp e) is has = absurd (no_udp t h n c c.stage e has)
      by_core (Il e) is has =
          subst (λ (d : Conv). IfSome (table_step w (actor.Conv h proto.Il n) (IsConv d) net.moment (record { event = ev; with = gift })) (λ s. Leaves (actor.Conv h proto.Il n) (actor_trace (actor.Conv h proto.Il n) s.state (record { event = ev; with = gift }) s.outcome t) s))
          (ap (λ (x : Core). record c { core = x }) (sym is))
          (map_if (seen_as IsConv) (conv_step n ev gift net.moment (of_end c e)) _
          (both_if (conv_step n ev gift net.moment (of_end c e)) _ _ _ (moves n ev gift net.moment c e small) (elsewhere n ev gift net.moment c e)
          (λ s move other.
          let step = conv_steps k h n t few f.owned net.moment c e ev gift s (has, fine.1) gift_fine move in
          conv_leaves h n s (move_limit net.moment c e ev gift s small move) step
          (conv_booked k h n t f.owned net.moment c e ev gift s step.owned (has, fine.1) gift_fine other move))))
  conv_next h n _ small fine gift_fine = absurd fine

  -- Actors that don't change what pairs have.

  quiet_leaves : (a : ActorName) (s : Step Actor) → AllFine t (actors_after net.actors a s.state) → EmittedIf t s.outcome.emit → TakenAt t a s.outcome.taken
      → EachDuty w t (follow_up a (length net.past) ev gift s.outcome.reply) → ((o : Owner) → NoEntry o a ev s.outcome.reply) → Leaves a t s
  quiet_leaves a s all emitted taken follow none = record {
    owned = owned_more k t f.owned;
    addressed = f.addressed;
    later = stays t;
    all = all;
    emitted = emitted;
    taken = taken;
    follow = follow;
    booked = booked_quiet t a ev s.outcome.reply none;
    still = λ q o owns other. refl;
    closed_by_peer = λ q is. inl is;
    says = λ q m there. inl there;
  }

  udp_next : (h n : ℕ) (a : Actor) → UdpFine a
      → IfSome (table_step w (actor.Conv h proto.Udp n) a net.moment (record { event = ev; with = gift })) (λ s. Leaves (actor.Conv h proto.Udp n) (actor_trace (actor.Conv h proto.Udp n) s.state (record { event = ev; with = gift }) s.outcome t) s)
  udp_next h n (IsConv c) fine = by_core c.core refl fine
    where
      leaves : (s : Step Conv) → IsUdp s.state.core → EmittedIf t s.outcome.emit → Leaves (actor.Conv h proto.Udp n) t (seen_as IsConv s)
      leaves s is_udp emitted = quiet_leaves (actor.Conv h proto.Udp n) (seen_as IsConv s)
          (record {
            convs = λ h' n'. at_name (λ (a : Actor). ActorFine t h' n' a) (IsConv s.state) (net.actors (actor.Conv h' proto.Il n')) (((h == h') && false) && (n == n'))
                (λ is. absurd (other_proto h h' n n' is)) (λ not. f.all.convs h' n');
            udps = λ h' n'. at_name (λ (a : Actor). UdpFine a) (IsConv s.state) (net.actors (actor.Conv h' proto.Udp n')) (((h == h') && true) && (n == n')) (λ is. is_udp) (λ not. f.all.udps h' n');
            dirs = f.all.dirs;
            media = f.all.media;
            limits = λ h' n'. at_name (λ (a : Actor). LimitFine a) (IsConv s.state) (net.actors (actor.Conv h' proto.Il n')) (((h == h') && false) && (n == n'))
                (λ is. absurd (other_proto h h' n n' is)) (λ not. f.all.limits h' n');
          })
          emitted tt (conv_follow w t h n (length net.past) proto.Udp ev gift s.outcome.reply) (λ o. udp_no_entry h n o ev s.outcome.reply)

      by_core : (core : Core) → c.core ≡ core → IsUdp core
          → IfSome (table_step w (actor.Conv h proto.Udp n) (IsConv c) net.moment (record { event = ev; with = gift })) (λ s. Leaves (actor.Conv h proto.Udp n) t s)
      by_core (Il e) is fine' = absurd fine'
      by_core (Udp e) is fine' =
          subst (λ (d : Conv). IfSome (table_step w (actor.Conv h proto.Udp n) (IsConv d) net.moment (record { event = ev; with = gift })) (λ s. Leaves (actor.Conv h proto.Udp n) t s))
          (ap (λ (x : Core). record c { core = x }) (sym is))
          (map_if (seen_as IsConv) (conv_step n ev gift net.moment (record c { core = Udp e })) _
          (map_some (conv_step n ev gift net.moment (record c { core = Udp e })) _ _ (udp_steps n ev gift net.moment c e)
          (λ s x. leaves s x.0 (harmless_emitted t s.outcome.emit x.1))))
  udp_next h n _ fine = absurd fine

  medium_next : (m : ℕ) (a : Actor) → MediumFineAs t a → WithFine w t (actor.Medium m) ev gift
      → IfSome (table_step w (actor.Medium m) a net.moment (record { event = ev; with = gift })) (λ s. Leaves (actor.Medium m) t s)
  medium_next m (IsMedium x) fine gift_fine = by_spec (slice_get w.media m)
    where
      by_spec : (found : Option MediumSpec) → IfSome (option_and_then (λ (spec : MediumSpec). option_map (seen_as IsMedium) (medium_step spec w.seed ev gift x)) found) (λ s. Leaves (actor.Medium m) t s)
      by_spec None = tt
      by_spec (Some spec) =
          map_if (seen_as IsMedium) (medium_step spec w.seed ev gift x) _
          (map_some (medium_step spec w.seed ev gift x) _ _ (medium_steps w t m spec w.seed ev gift x fine gift_fine)
          (λ s step. quiet_leaves (actor.Medium m) (seen_as IsMedium s)
          (record {
            convs = f.all.convs;
            udps = f.all.udps;
            dirs = f.all.dirs;
            media = λ m'. at_name (λ (a : Actor). MediumFineAs t a) (IsMedium s.state) (net.actors (actor.Medium m')) (m == m') (λ is. step.fine) (λ not. f.all.media m');
            limits = f.all.limits;
          })
          (subst (λ (o : Option Packet). EmittedIf t o) (sym step.emits_none) tt) step.taken tt (λ o. record { written_none = refl; read_none = refl })))
  medium_next m _ fine gift_fine = absurd fine

  clock_next : (ev' : Event) → ev ≡ ev' → IfSome (option_map plain_step (clock_reply ev')) (λ s. Leaves actor.Clock t s)
  clock_next (event.Move m) is = quiet_leaves actor.Clock _ (record { convs = f.all.convs; udps = f.all.udps; dirs = f.all.dirs; media = f.all.media; limits = f.all.limits }) tt tt tt (λ o. record { written_none = refl; read_none = refl })
  clock_next _ is = tt

  desk_next : (h : ℕ) (d : Desk) (r : Option Reply) → IfSome (step_as IsDesk (option_map (desk_replies d) r)) (λ s. Leaves (actor.Desk h) t s)
  desk_next h d None = tt
  desk_next h d (Some r) = quiet_leaves (actor.Desk h) _ (record { convs = f.all.convs; udps = f.all.udps; dirs = f.all.dirs; media = f.all.media; limits = f.all.limits }) tt tt tt (λ o. record { written_none = refl; read_none = refl })

  desk_found : (h : ℕ) (d : Desk) (found : Option HostSpec) → IfSome (option_and_then (λ (host : HostSpec). step_as IsDesk (desk_step w.dbs host ev net.moment d)) found) (λ s. Leaves (actor.Desk h) t s)
  desk_found h d None = tt
  desk_found h d (Some host) = desk_next h d (desk_reply w.dbs host ev net.moment d)

  udp_dir_next : (h : ℕ) (a : Actor)
      → IfSome (table_step w (actor.Dir h proto.Udp) a net.moment (record { event = ev; with = gift })) (λ s. Leaves (actor.Dir h proto.Udp) t s)
  udp_dir_next h (IsDir d) =
      map_if (seen_as IsDir) (dir_step w h proto.Udp ev gift d) _
      (map_some (dir_step w h proto.Udp ev gift d) _ _ (dir_harmless w h proto.Udp ev gift d)
      (λ s x. quiet_leaves (actor.Dir h proto.Udp) (seen_as IsDir s)
      (record {
        convs = f.all.convs;
        udps = f.all.udps;
        dirs = λ h'. at_name (λ (a : Actor). DirFineAs t h' a) (IsDir s.state) (net.actors (actor.Dir h' proto.Il)) ((h == h') && false)
            (λ is. absurd (both_ways (and_parts (h == h') false is).1 refl)) (λ not. f.all.dirs h');
        media = f.all.media;
        limits = f.all.limits;
      })
      (harmless_emitted t s.outcome.emit x.emits) tt (udp_dir_follow w t h (length net.past) ev gift s.outcome.reply) (λ o. record { written_none = refl; read_none = refl })))
  udp_dir_next h (IsConv c) = tt
  udp_dir_next h (IsMedium m) = tt
  udp_dir_next h (IsDesk d) = tt
  udp_dir_next h IsPlain = tt

  -- A directory of IL.

  dir_leaves : (h : ℕ) (s : Step Dir) → DirStep w k h (length net.past) ev gift t (dir_trace h ev gift s.outcome.reply t) s → Leaves (actor.Dir h proto.Il) (dir_trace h ev gift s.outcome.reply t) (seen_as IsDir s)
  dir_leaves h s step =
      let u = dir_trace h ev gift s.outcome.reply t in
      record {
        owned = owned_more k u step.owned;
        addressed = step.addressed;
        later = step.later;
        all = record {
          convs = λ h' n'. step.convs h' n' (net.actors (actor.Conv h' proto.Il n')) (f.all.convs h' n');
          udps = f.all.udps;
          dirs = λ h'. at_name (λ (a : Actor). DirFineAs u h' a) (IsDir s.state) (net.actors (actor.Dir h' proto.Il)) ((h == h') && true)
              (λ is. subst (λ (i : ℕ). DirIsFine u i s.state) (eqb-true h h' (and_parts (h == h') true is).0) step.fine)
              (λ not. other h' (net.actors (actor.Dir h' proto.Il)) (λ same. both_ways (and_from (h == h') true (eq-eqb h h' same) refl) not) (f.all.dirs h'));
          media = λ m. medium_later t u (net.actors (actor.Medium m)) step.later (f.all.media m);
          limits = f.all.limits;
        };
        emitted = step.emitted;
        taken = tt;
        follow = step.follow;
        booked = record {
          had = λ p o is. elim (step.owner_back p o is) [
            | inl old ↦ inl (
              old,
              record {
                sent_is = ap (λ (x : Side). x.end.sent) (step.side_same p) ∙ sym (append-nil (t.side p).end.sent);
                read_is = λ _. ap (λ (x : Side). given_by x.end) (step.side_same p) ∙ sym (append-nil (given_by (t.side p).end));
                reading = λ x. subst (λ (y : Side). Reading y.end) (sym (step.side_same p)) x;
                sized = λ x. subst (λ (y : Side). AllSized y.end.sent) (sym (step.side_same p)) x;
                ends = λ _ _ h. absurd h;
                whole = λ _ _ _ none. (
                  ap (λ (y : Side). y.end.read_offset) (step.side_same p) ∙ none,
                  ap (λ (y : Side). take y.end.read_count y.end.got) (step.side_same p) ∙ sym (append-nil (take (t.side p).end.read_count (t.side p).end.got)),
                );
                quiet = λ _. refl;
                stays = λ x. subst (λ (y : Side). AtEnd y.end) (sym (step.side_same p)) x;
              },
            )
            | inr new ↦ inr (new.1, step.side_same p ∙ f.owned.untouched p new.0, record { written_none = refl; read_none = refl })
          ];
          none = λ o alone. (λ p is. alone p (step.later.owner_stays p o is), record { written_none = refl; read_none = refl });
        };
        still = λ q o owns other'. step.side_same q;
        closed_by_peer = λ q is. inl (subst (λ (y : Side). y.end.closed_by_peer ≡ true) (step.side_same q) is);
        says = λ q m there. inl (subst (λ (y : Side). IsIn m y.out) (step.side_same q) there);
      }
    where
      other : (h' : ℕ) (a : Actor) → (h ≡ h' → ⊥) → DirFineAs t h' a → DirFineAs (dir_trace h ev gift s.outcome.reply t) h' a
      other h' (IsDir d) apart x = step.other_dirs h' d apart x
      other h' _ apart x = absurd x

  dir_next : (h : ℕ) (a : Actor) → DirFineAs t h a → WithFine w t (actor.Dir h proto.Il) ev gift
      → IfSome (table_step w (actor.Dir h proto.Il) a net.moment (record { event = ev; with = gift })) (λ s. Leaves (actor.Dir h proto.Il) (actor_trace (actor.Dir h proto.Il) s.state (record { event = ev; with = gift }) s.outcome t) s)
  dir_next h (IsDir d) fine gift_fine =
      map_if (seen_as IsDir) (dir_step w h proto.Il ev gift d) _
      (map_some (dir_step w h proto.Il ev gift d) _ _ (dir_steps w world k h (length net.past) t f.owned f.addressed ev gift d fine gift_fine) (λ s step. dir_leaves h s step))
  dir_next h _ fine gift_fine = absurd fine

  -- any actor
  table_next : (a : ActorName) → WithFine w t a ev gift
      → IfSome (table_step w a (net.actors a) net.moment (record { event = ev; with = gift })) (λ s. Leaves a (actor_trace a s.state (record { event = ev; with = gift }) s.outcome t) s)
  table_next (actor.Conv h proto.Il n) fine = conv_next h n (net.actors (actor.Conv h proto.Il n)) (f.all.limits h n) (f.all.convs h n) fine
  table_next (actor.Conv h proto.Udp n) fine = udp_next h n (net.actors (actor.Conv h proto.Udp n)) (f.all.udps h n)
  table_next (actor.Dir h proto.Il) fine = dir_next h (net.actors (actor.Dir h proto.Il)) (f.all.dirs h) fine
  table_next (actor.Dir h proto.Udp) fine = udp_dir_next h (net.actors (actor.Dir h proto.Udp))
  table_next (actor.Medium m) fine = medium_next m (net.actors (actor.Medium m)) (f.all.media m) fine
  table_next (actor.Desk h) fine = by_state (net.actors (actor.Desk h))
    where
      by_state : (a : Actor) → IfSome (table_step w (actor.Desk h) a net.moment (record { event = ev; with = gift })) (λ s. Leaves (actor.Desk h) t s)
      by_state (IsDesk d) = desk_found h d (slice_get w.hosts h)
      by_state IsPlain = tt
      by_state (IsDir d) = tt
      by_state (IsConv c) = tt
      by_state (IsMedium m) = tt
  table_next actor.Clock fine = by_state (net.actors actor.Clock)
    where
      by_state : (a : Actor) → IfSome (table_step w actor.Clock a net.moment (record { event = ev; with = gift })) (λ s. Leaves actor.Clock t s)
      by_state IsPlain = clock_next ev refl
      by_state (IsDesk d) = tt
      by_state (IsDir d) = tt
      by_state (IsConv c) = tt
      by_state (IsMedium m) = tt

  pub next : (a : ActorName) → WithFine w t a ev gift
      → IfSome (actor_step w a (net.actors a) net.moment (record { event = ev; with = gift })) (λ s. Leaves a (actor_trace a s.state (record { event = ev; with = gift }) s.outcome t) s)
  next a fine = table_if (has_actor w a) _ _ (table_next a fine)

-- Duties.

put_fine : (w : World) (t : Trace) (out : Option Way) (s : ℕ) (p : Packet) → Emitted t p → EachDuty w t (put_by out s p)
put_fine w t None s p e = tt
put_fine w t (Some out) s p e = (e, tt)

emitted_put_fine : (w : World) (t : Trace) (a : ActorName) (s : ℕ) (emit : Option Packet) → EmittedIf t emit → EachDuty w t (emitted_put w a s emit)
emitted_put_fine w t (actor.Dir h p) s None e = tt
emitted_put_fine w t (actor.Conv h p n) s None e = tt
emitted_put_fine w t (actor.Dir h p) s (Some packet) e = put_fine w t (way w h packet.dst.ip) s packet e
emitted_put_fine w t (actor.Conv h p n) s (Some packet) e = put_fine w t (way w h packet.dst.ip) s packet e
emitted_put_fine w t _ s _ e = tt

arrive_fine : (w : World) (t : Trace) (h : ℕ) (b : Body) (p : Packet) → Emitted t p → has_address w h p.dst.ip ≡ true → WithFine w t (actor.Dir h (proto_of b)) event.Arrive (given.Packet p)
arrive_fine w t h (body.Il m) p e here = (e, here)
arrive_fine w t h (body.Udp text) p e here = tt

courier_fine : (w : World) (t : Trace) (a : ActorName) (s : ℕ) (taken : Option Taken) → TakenAt t a taken → EachDuty w t (courier_duty w a s taken)
courier_fine w t (actor.Medium m) s None e = tt
courier_fine w t (actor.Medium m) s (Some x) e =
    cond_both (has_address w x.to x.packet.dst.ip) _ _ (λ (ds : List Duty). EachDuty w t ds)
    (λ here. (arrive_fine w t x.to x.packet.body x.packet e here, tt))
    (λ _. cond_both (nat_lt 1 x.packet.ttl) _ _ (λ (ds : List Duty). EachDuty w t ds) (λ _. put_fine w t (way w x.to x.packet.dst.ip) s (record x.packet { ttl = x.packet.ttl - 1 }) e) (λ _. tt))
courier_fine w t _ s taken e = tt

nothing_fine : (w : World) (t : Trace) (a : ActorName) (ev : Event) → WithFine w t a ev given.Nothing
nothing_fine w t (actor.Conv h proto.Il n) (event.Connect g) = tt
nothing_fine w t (actor.Conv h proto.Il n) (event.Born g) = tt
nothing_fine w t (actor.Conv h proto.Il n) (event.ArriveAt g) = tt
nothing_fine w t (actor.Medium m) (event.Put to) = tt
nothing_fine w t (actor.Dir h proto.Il) event.Arrive = tt
nothing_fine w t _ _ = tt

release_fine : (w : World) (t : Trace) (a : ActorName) (s : ℕ) (x : Actor) (ended : Bool) → EachDuty w t (release a s x ended)
release_fine w t (actor.Conv h proto.Il n) s (IsConv c) true = (tt, tt)
release_fine w t (actor.Conv h proto.Udp n) s (IsConv c) true = (tt, tt)
release_fine w t _ s _ _ = tt

tick_fine : (w : World) (t : Trace) (actors : ActorName → Actor) (s now : ℕ) (a : ActorName) → EachDuty w t (tick_at actors s now a)
tick_fine w t actors s now a =
    cond_both (has_come now (due_of (actors a))) _ _ (λ (ds : List Duty). EachDuty w t ds)
    (λ _. (nothing_fine w t a (event.Tick (generation_of (actors a))), tt)) (λ _. tt)

each_tick_fine : (w : World) (t : Trace) (actors : ActorName → Actor) (s now : ℕ) (as' : List ActorName) → EachDuty w t (flat_map (tick_at actors s now) as')
each_tick_fine w t actors s now [] = tt
each_tick_fine w t actors s now (a ∷ as') = each_duty_append w t (tick_at actors s now a) (flat_map (tick_at actors s now) as') (tick_fine w t actors s now a) (each_tick_fine w t actors s now as')

ticks_fine : (w : World) (t : Trace) (actors : ActorName → Actor) (a : ActorName) (s : ℕ) (ev : Event) → EachDuty w t (owed_ticks w actors a s ev)
ticks_fine w t actors actor.Clock s (event.Move now) = each_tick_fine w t actors s now (conversations w)
ticks_fine w t actors _ s _ = tt

-- what the work of an entry carries is fine
pub work_fine : (w : World) (t : Trace) (x : Entry) (ds : List Duty) (caller : Caller) (ask : Option Ask) → EachDuty w t ds → IsAsked ds caller ask x → WithFine w t x.actor x.event (with_of ds)
work_fine w t x [] caller ask f is = nothing_fine w t x.actor x.event
work_fine w t x (d ∷ ds) caller ask f is = subst (λ (a : Ask). WithFine w t a.actor a.event d.with) is f.0

-- One entry.

owed_fine : (w : World) (k : ℕ) (net : Net) (t u : Trace) (x : Entry) (s : Step Actor) → Fine w k net t → Next w k net.actors (length net.past) t u x.actor (work_of net x) s
    → (c : ℕ) → EachDuty w u (owed_after net.owed x.caller (duties w net.actors x.actor (length net.past) (work_of net x) s) c)
owed_fine w k net t u x s f n c =
    let stamp = length net.past in
    let old : EachDuty w u (net.owed c) = each_duty_later w t u (net.owed c) n.later (f.owed c) in
    let new : EachDuty w u (duties w net.actors x.actor stamp (work_of net x) s) =
    each_duty_append w u _ _
    (each_duty_append w u _ _
    (each_duty_append w u _ _
    (each_duty_append w u _ _ (emitted_put_fine w u x.actor stamp s.outcome.emit n.emitted) n.follow)
    (courier_fine w u x.actor stamp s.outcome.taken n.taken))
    (ticks_fine w u net.actors x.actor stamp x.event))
    (release_fine w u x.actor stamp s.state s.outcome.ended) in
    cond_both (x.caller == c) _ _ (λ (ds : List Duty). EachDuty w u ds) (λ _. each_duty_append w u _ _ (each_duty_rest w u (net.owed c) old) new) (λ _. old)

pub record Kept (w : World) (k : ℕ) (net : Net) (t : Trace) (h : List Entry) : Type 0 where
  pub fine : Fine w k net t
  pub books : Books t h

entry_kept : (w : World) → HasPlaces w → (k : ℕ) (h : List Entry) (net : Net) (t : Trace) (x : Entry) (caller : Caller) (ask : Option Ask) → k < 2 ^ 31 → Kept w k net t h → IsAsked (net.owed x.caller) caller ask x
    → IsSome (option_map (λ (s : Step Actor). s.outcome) (step_of w net x)) → Shows (option_map (λ (s : Step Actor). s.outcome) (step_of w net x)) x
    → Kept w (k + 1) (next_net w net x) (next_trace w net x t) (h ++ x ∷ [])
entry_kept w world k h net t x caller ask few kept is_asked ready shows =
    go (step_of w net x) (next w world k few net t f x.event (with_of (net.owed x.caller)) x.actor (work_fine w t x (net.owed x.caller) caller ask (f.owed x.caller) is_asked)) ready shows
  where
    f : Fine w k net t
    f = kept.fine

    go : (o : Option (Step Actor)) → IfSome o (λ s. Next w k net.actors (length net.past) t (actor_trace x.actor s.state (work_of net x) s.outcome t) x.actor (work_of net x) s)
        → IsSome (option_map (λ (s : Step Actor). s.outcome) o) → Shows (option_map (λ (s : Step Actor). s.outcome) o) x
        → Kept w (k + 1) (net_after w net x o) (trace_after x.actor (work_of net x) o t) (h ++ x ∷ [])
    go None n ready is = absurd (both_ways ready refl)
    go (Some s) n ready is =
        let u = actor_trace x.actor s.state (work_of net x) s.outcome t in
        let reply_is : s.outcome.reply ≡ x.reply = sym (ap (λ (z : Shown). z.reply) is) in
        record {
          fine = record { owned = n.owned; addressed = n.addressed; all = n.all; owed = owed_fine w k net t u x s f n };
          books = books_next t u h x (got_sized k t h f.owned kept.books) kept.books (subst (λ (r : Reply). Booked t u x.actor x.event r) reply_is n.booked);
        }

-- The beginning.

free_fine : (h n : ℕ) → SlotIsFine opening_trace h n free_slot
free_fine h n = record {
  has = λ p is. absurd (none-some p is);
  past = λ p g is. absurd (none-some _ is);
  unused = λ r p g is. absurd (none-some _ is);
}

opening_fine : (w : World) → Fine w 0 (opening_net w) opening_trace
opening_fine w = record {
  owned = record {
    talk = λ p. nothing_yet Fixed Fixed;
    untouched = λ p is. refl;
    unique = λ p q o one two. absurd (none-some o one);
    apart = λ p o is. absurd (none-some o is);
    few = λ p. omega arith;
  };
  addressed = λ p o is. absurd (none-some o is);
  all = record {
    convs = λ h n. (refl, λ p g is le not. refl);
    udps = λ h n. tt;
    dirs = λ h. record { slots_fine = λ n s is. subst (λ (x : Slot). SlotIsFine opening_trace h n x) (all_free slot_count n s is) (free_fine h n); known = λ p o is. absurd (none-some o is) };
    media = λ m. (tt, tt);
    limits = λ h n. omega arith;
  };
  owed = λ c. tt;
}

-- Legal histories.

pub trace_push : (w : World) (h : List Entry) (x : Entry) → trace w (h ++ x ∷ []) ≡ next_trace w (after w h) x (trace w h)
trace_push w h x = go (opening_net w) opening_trace h
  where
    go : (net : Net) (t : Trace) (xs : List Entry) → trace_of w net t (xs ++ x ∷ []) ≡ next_trace w (net_of w net xs) x (trace_of w net t xs)
    go net t [] = refl
    go net t (y ∷ xs) = go (next_net w net y) (next_trace w net y t) xs

pub all_kept : {ts : Tasks} (w : World) → HasPlaces w → (h : List Entry) → IsLegalBy ts w h → length h < 2 ^ 31 → Kept w (length h) (after w h) (trace w h) h
all_kept w world h legal few =
    by_entries w (λ xs. length xs < 2 ^ 31 → Kept w (length xs) (after w xs) (trace w xs) xs)
    (λ _. record { fine = opening_fine w; books = record { sent_is = λ p o is. absurd (none-some o is); given_is = λ p o is. absurd (none-some o is); reading = λ p o is. absurd (none-some o is); sized = λ p o is. absurd (none-some o is); ended = λ p o is. absurd (none-some o is); none = λ o alone. (refl, refl) } })
    (λ xs x legal' may f short.
    let n : length (xs ++ x ∷ []) ≡ length xs + 1 = length_push xs x in
    let before : Kept w (length xs) (after w xs) (trace w xs) xs = f (omega (arith, n)) in
    let step : Kept w (length xs + 1) (next_net w (after w xs) x) (next_trace w (after w xs) x (trace w xs)) (xs ++ x ∷ []) =
    entry_kept w world (length xs) xs (after w xs) (trace w xs) x (caller_of w x.caller) _ (omega (arith, n)) before may.is_asked may.is_ready may.answers in
    subst (λ (i : ℕ). Kept w i (after w (xs ++ x ∷ [])) (trace w (xs ++ x ∷ [])) (xs ++ x ∷ [])) (sym n)
    (subst (λ (net : Net). Kept w (length xs + 1) net (trace w (xs ++ x ∷ [])) (xs ++ x ∷ [])) (sym (after_push w xs x))
    (subst (λ (t : Trace). Kept w (length xs + 1) (next_net w (after w xs) x) t (xs ++ x ∷ [])) (sym (trace_push w xs x)) step)))
    h legal few
