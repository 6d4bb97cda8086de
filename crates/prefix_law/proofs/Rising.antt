-- In a timed legal history the moments rise: after each entry an end is due beyond the moment, or its tick is owed.
use Rattle.std.proofs.Common.{◌≡◌, ℕ, zero, suc, ◌+◌, ◌-◌, ◌<◌, ◌≤◌, ◌==◌, ◌&&◌, nat_lt, nat_le, Bool, true, false, not, cond, List, [], ◌∷◌, ◌++◌, length, take, drop, map, Option, Some, None, slice_get, ◌⊎◌, inl, inr, refl, sym, ap, subst, ◌∙◌, arith}
use Rattle.std.specs.Prelude.{flat_map, filter_map, IsSome}
use Rattle.std.specs.List.{list_all, range_with_len}
use Rattle.std.specs.Option.{option_map, option_map_or, option_and_then}
use Rattle.std.proofs.lemmas.Bool.{and_parts, cond_both, ltb-true, ltb-false, eqb-true, eq-eqb, false≢true, not-true}
use Rattle.std.proofs.lemmas.Bool.Decides.{nat_tests}
use Rattle.std.proofs.lemmas.Option.{none-some, same_Some, slice_get_within}
use Rattle.net_base.specs.declared.actor.ActorName.{ActorName}
use Rattle.net_base.specs.declared.actor.ActorName.TheVariants as name
use Rattle.net_base.specs.declared.address.Proto.{Proto}
use Rattle.net_base.specs.declared.address.Proto.TheVariants as proto
use Rattle.net_base.specs.declared.event.Event.{Event}
use Rattle.net_base.specs.declared.event.Event.TheVariants as event
use Rattle.net_base.specs.declared.history.Entry.{Entry}
use Rattle.net_base.specs.declared.history.With.{With}
use Rattle.net_base.specs.declared.history.With.TheVariants as given
use Rattle.net_base.specs.declared.history.Work.{Work}
use Rattle.net_base.specs.declared.world.HostSpec.{HostSpec}
use Rattle.net_base.specs.declared.world.MediumSpec.{MediumSpec}
use Rattle.net_base.specs.declared.world.Script.{Script}
use Rattle.net_base.specs.declared.world.World.{World}
use Rattle.net_base.specs.ActorStep.{Step, when}
use Rattle.net_base.specs.Actors.{Actor, IsDesk, IsDir, IsConv, IsMedium, actor_step, has_actor, opening_actor, step_as, slot_count}
use Rattle.net_base.specs.Callers.{Caller, IsScript, caller_of, caller_count, other_caller, clock_number}
use Rattle.net_base.specs.Calm.{owes as owes_some, is_ready, can_go_on, callers, nothing_owed, nothing_pending, scripts_wait, calm, unfinished, movable, awaited_moment, least, target}
use Rattle.net_base.specs.Desk.{Desk, opening_desk, desk_step}
use Rattle.net_base.specs.Duties.{Duty, duties, due_of, generation_of, has_come, slots_of, conversations, tick_at, owed_ticks, emitted_put, follow_up, courier_duty, release}
use Rattle.net_base.specs.Legal.{IsLegal, MayFollow, IsInTime, IsTimed, IsAsked}
use Rattle.net_base.specs.Medium.{medium_step}
use Rattle.net_base.specs.Net.{Net, opening_net, net_after, after, step_of, work_of, with_of, moment_after}
use Rattle.net_base.specs.Next.{next_of, own_replies, zone_of}
use Rattle.net_base.specs.Stamped.{In, same_actor}
use Rattle.net_base.specs.Steps.{Ask}
use Rattle.net_base.specs.World.{IsWorld, is_script, is_step}
use Rattle.prefix_law.proofs.ConvWaits.{TimedActor, actor_later, IsConvName, tick_later, timed_opening}
use Rattle.prefix_law.proofs.Deeds.{both_ways}
use Rattle.history_laws.proofs.Shared.{after_push, by_entries, legal_take, one_more, next_same, next_other, all_at, in_range}
use Rattle.prefix_law.proofs.Untils.{UntilAt, FineNext, fine_position}
use Rattle.prefix_law.proofs.Waits.{Beyond}
use Rattle.net_base.proofs.Shared.{in_front, in_back, in_parts, there_at, same_actor_is, same_itself, in_flat}

-- Lists.

-- each is beyond
abbrev pub Above : ℕ → List ℕ → Type 0
Above n [] = Unit {0}
Above n (m ∷ ms) = (n < m) × Above n ms

above_both : (n : ℕ) (xs ys : List ℕ) → Above n xs → Above n ys → Above n (xs ++ ys)
above_both n [] ys one two = two
above_both n (x ∷ xs) ys one two = (one.0, above_both n xs ys one.1 two)

above_filter : {A : Type 0} (n : ℕ) (f : A → Option ℕ) (xs : List A) → ((x : A) → In x xs → Beyond n (f x)) → Above n (filter_map f xs)
above_filter n f [] all = tt
above_filter n f (x ∷ xs) all = by (f x) refl (above_filter n f xs (λ y there. all y (inr there)))
  where
    by : (o : Option ℕ) → f x ≡ o → Above n (filter_map f xs) → Above n (filter_map f (x ∷ xs))
    by None is rest = rw is rest
    by (Some m) is rest = rw is (subst (λ (o : Option ℕ). Beyond n o) is (all x (inl refl)), rest)

below_least : (n last : ℕ) (ms : List ℕ) → n < last → Above n ms → n < least last ms
below_least n last [] lt all = lt
below_least n last (m ∷ ms) lt all = let rest = below_least n last ms lt all.1 in let first = all.0 in grind (arith)

all_in : {A : Type 0} (p : A → Bool) (xs : List A) (x : A) → list_all p xs ≡ true → In x xs → p x ≡ true
all_in p [] x all there = absurd there
all_in p (y ∷ xs) x all (inl is) = subst (λ u. p u ≡ true) (sym is) (and_parts (p y) (list_all p xs) all).0
all_in p (y ∷ xs) x all (inr there) = all_in p xs x (and_parts (p y) (list_all p xs) all).1 there

-- Conversations.

conv_mapped : (h : ℕ) (p : Proto) (ns : List ℕ) (a : ActorName) → In a (map (λ (n : ℕ). name.Conv h p n) ns) → IsConvName a
conv_mapped h p [] a there = absurd there
conv_mapped h p (n ∷ ns) a (inl is) = subst IsConvName (sym is) tt
conv_mapped h p (n ∷ ns) a (inr there) = conv_mapped h p ns a there

conv_named : (hs : List ℕ) (a : ActorName) → In a (flat_map (λ (h : ℕ). slots_of h proto.Il ++ slots_of h proto.Udp) hs) → IsConvName a
conv_named [] a there = absurd there
conv_named (h ∷ hs) a there =
    elim (in_parts a (slots_of h proto.Il ++ slots_of h proto.Udp) _ there) [
      | inr later ↦ conv_named hs a later
      | inl here ↦ elim (in_parts a (slots_of h proto.Il) (slots_of h proto.Udp) here) [
        | inl il ↦ conv_mapped h proto.Il (range_with_len 0 slot_count) a il
        | inr udp ↦ conv_mapped h proto.Udp (range_with_len 0 slot_count) a udp
      ]
    ]

-- What holds after each entry.

-- a tick of the conversation's own generation is owed
pub record OwesTick (a : ActorName) (g : ℕ) (ds : List Duty) : Type 0 where
  pub duty : Duty
  pub there : In duty ds
  pub actor_is : duty.actor ≡ a
  pub event_is : duty.event ≡ event.Tick g

pub record Owed (w : World) (net : Net) (a : ActorName) : Type 0 where
  pub by : ℕ
  pub below : by < caller_count w
  pub tick : OwesTick a (generation_of (net.actors a)) (net.owed by)

abbrev pub Awake : World → Net → ActorName → Type 0
Awake w net a = Beyond net.moment (due_of (net.actors a)) ⊎ Owed w net a

-- an actor is a desk
abbrev IsDeskState : Actor → Type 0
IsDeskState a = (d : Desk) × (a ≡ IsDesk d)

pub record Rests (w : World) (net : Net) : Type 0 where
  pub timed : (a : ActorName) → TimedActor (net.actors a)
  pub desks : (h : ℕ) → IsDeskState (net.actors (name.Desk h))
  pub awake : (a : ActorName) → In a (conversations w) → Awake w net a

-- Desks stay desks.

desk_left : (w : World) (h : ℕ) (work : Work) (now : ℕ) (d : Desk) (has : Bool) (found : Option HostSpec) (s : Step Actor)
    → when has (option_and_then (λ (host : HostSpec). step_as IsDesk (desk_step w.dbs host work.event now d)) found) ≡ Some s → IsDeskState s.state
desk_left w h work now d false found s is = absurd (none-some s is)
desk_left w h work now d true None s is = absurd (none-some s is)
desk_left w h work now d true (Some host) s is = by (desk_step w.dbs host work.event now d) is
  where
    by : (o : Option (Step Desk)) → step_as IsDesk o ≡ Some s → IsDeskState s.state
    by None none = absurd (none-some s none)
    by (Some t) some = (t.state, ap (λ (u : Step Actor). u.state) (sym (same_Some _ s some)))

desk_stays : (w : World) (h : ℕ) (b : Actor) (now : ℕ) (work : Work) (s : Step Actor) → IsDeskState b → actor_step w (name.Desk h) b now work ≡ Some s → IsDeskState s.state
desk_stays w h b now work s desk is =
    desk_left w h work now desk.0 (has_actor w (name.Desk h)) (slice_get w.hosts h) s (subst (λ (c : Actor). actor_step w (name.Desk h) c now work ≡ Some s) desk.1 is)

-- One entry more.

-- the duty is the caller's first, which the entry records, or stays owed
remains : (ds : List Duty) (d : Duty) (caller : Caller) (ask : Option Ask) (x : Entry) → In d ds → IsAsked ds caller ask x → ((d.actor ≡ x.actor) × (d.event ≡ x.event)) ⊎ In d (drop 1 ds)
remains [] d caller ask x there asked = absurd there
remains (e ∷ es) d caller ask x (inl same) asked = inl (ap (λ (y : Duty). y.actor) same ∙ ap (λ (y : Ask). y.actor) asked, ap (λ (y : Duty). y.event) same ∙ ap (λ (y : Ask). y.event) asked)
remains (e ∷ es) d caller ask x (inr there) asked = inr there

module _ (w : World) (net : Net) (x : Entry) (s : Step Actor) where
  abbrev new : List Duty
  new = duties w net.actors x.actor (length net.past) (work_of net x) s

  -- a tick that is owed stays owed, or the entry is that tick
  still : (c : ℕ) (a : ActorName) (g : ℕ) (ask : Option Ask) → IsAsked (net.owed x.caller) (caller_of w x.caller) ask x → OwesTick a g (net.owed c)
      → ((x.actor ≡ a) × (x.event ≡ event.Tick g)) ⊎ OwesTick a g ((net_after w net x (Some s)).owed c)
  still c a g ask asked tick = by (x.caller == c) refl
    where
      by : (b : Bool) → (x.caller == c) ≡ b → ((x.actor ≡ a) × (x.event ≡ event.Tick g)) ⊎ OwesTick a g (cond b (drop 1 (net.owed c) ++ new) (net.owed c))
      by false other = inr tick
      by true same =
          let mine : IsAsked (net.owed c) (caller_of w x.caller) ask x = subst (λ (d : ℕ). IsAsked (net.owed d) (caller_of w x.caller) ask x) (eqb-true x.caller c same) asked in
          elim (remains (net.owed c) tick.duty (caller_of w x.caller) ask x tick.there mine) [
            | inl first ↦ inl (sym first.0 ∙ tick.actor_is, sym first.1 ∙ tick.event_is)
            | inr later ↦ inr (record { duty = tick.duty; there = in_front tick.duty (drop 1 (net.owed c)) new later; actor_is = tick.actor_is; event_is = tick.event_is })
          ]

  -- what the entry owes is owed by its caller
  owed_new : (d : Duty) → In d new → In d ((net_after w net x (Some s)).owed x.caller)
  owed_new d there = subst (λ (b : Bool). In d (cond b (drop 1 (net.owed x.caller) ++ new) (net.owed x.caller))) (sym (eq-eqb x.caller x.caller refl)) (in_back d (drop 1 (net.owed x.caller)) new there)

-- Moves.

never : (has : Bool) (s : Step Actor) → when has None ≡ Some s → ⊥
never true s is = none-some s is
never false s is = none-some s is

desk_moves : (w : World) (m now : ℕ) (d : Desk) (has : Bool) (found : Option HostSpec) (s : Step Actor) → when has (option_and_then (λ (host : HostSpec). step_as IsDesk (desk_step w.dbs host (event.Move m) now d)) found) ≡ Some s → ⊥
desk_moves w m now d has None s is = never has s is
desk_moves w m now d has (Some host) s is = never has s is

-- the clock alone moves
at_clock : (w : World) (a : ActorName) (b : Actor) (now m : ℕ) (with : With) (s : Step Actor) → actor_step w a b now (record { event = event.Move m; with = with }) ≡ Some s → a ≡ name.Clock
at_clock w name.Clock b now m with s is = refl
at_clock w (name.Desk h) (IsDesk d) now m with s is = absurd (desk_moves w m now d (has_actor w (name.Desk h)) (slice_get w.hosts h) s is)
at_clock w (name.Desk h) _ now m with s is = absurd (never (has_actor w (name.Desk h)) s is)
at_clock w (name.Dir h p) (IsDir d) now m with s is = absurd (never (has_actor w (name.Dir h p)) s is)
at_clock w (name.Dir h p) _ now m with s is = absurd (never (has_actor w (name.Dir h p)) s is)
at_clock w (name.Conv h p n) (IsConv c) now m with s is = absurd (never (has_actor w (name.Conv h p n)) s is)
at_clock w (name.Conv h p n) _ now m with s is = absurd (never (has_actor w (name.Conv h p n)) s is)
at_clock w (name.Medium k) (IsMedium x) now m with s is = absurd (by (slice_get w.media k) is)
  where
    by : (found : Option MediumSpec) → when (has_actor w (name.Medium k)) (option_and_then (λ (spec : MediumSpec). step_as IsMedium (medium_step spec w.seed (event.Move m) with x)) found) ≡ Some s → ⊥
    by None none = never (has_actor w (name.Medium k)) s none
    by (Some spec) none = never (has_actor w (name.Medium k)) s none
at_clock w (name.Medium k) _ now m with s is = absurd (never (has_actor w (name.Medium k)) s is)

-- an event moves the clock, or it leaves the moment
moves_or_not : (e : Event) → ((m : ℕ) × (e ≡ event.Move m)) ⊎ ((now : ℕ) → moment_after now e ≡ now)
moves_or_not (event.Move m) = inl (m, refl)
moves_or_not _ = inr (λ now. refl)

come_or_beyond : (m : ℕ) (due : Option ℕ) → Beyond m due ⊎ (has_come m due ≡ true)
come_or_beyond m None = inl tt
come_or_beyond m (Some due) = by (nat_le due m) refl
  where
    by : (b : Bool) → nat_le due m ≡ b → (m < due) ⊎ (nat_le due m ≡ true)
    by true is = inr is
    by false is = inl (grind (arith, nat_tests))

tick_at_due : (actors : ActorName → Actor) (s now : ℕ) (a : ActorName) → has_come now (due_of (actors a)) ≡ true
    → In (record { actor = a; event = event.Tick (generation_of (actors a)); with = given.Nothing; cites = s }) (tick_at actors s now a)
tick_at_due actors s now a come = rw come (inl refl)

conv_apart : (a : ActorName) → IsConvName a → same_actor name.Clock a ≡ false
conv_apart (name.Conv h p n) conv = refl
conv_apart _ conv = absurd conv

beyond_at : (n n' : ℕ) (b b' : Actor) → n' ≡ n → b' ≡ b → Beyond n (due_of b) → Beyond n' (due_of b')
beyond_at n n' b b' moment actor beyond =
    subst (λ (c : Actor). Beyond n' (due_of c)) (sym actor) (subst (λ (k : ℕ). Beyond k (due_of b)) (sym moment) beyond)

module _ (w : World) (net : Net) (x : Entry) (s : Step Actor) (rests : Rests w net) (is : step_of w net x ≡ Some s) (below : x.caller < caller_count w) where
  abbrev then : Net
  then = net_after w net x (Some s)

  step_at : (a : ActorName) → x.actor ≡ a → actor_step w a (net.actors a) net.moment (work_of net x) ≡ Some s
  step_at a here = subst (λ (b : ActorName). actor_step w b (net.actors b) net.moment (work_of net x) ≡ Some s) here is

  owed_tick : (a : ActorName) (g g' : ℕ) (c : ℕ) → c < caller_count w → OwesTick a g (then.owed c) → g ≡ generation_of (then.actors a) → Owed w then a
  owed_tick a g g' c lt tick same = record { by = c; below = lt; tick = subst (λ (n : ℕ). OwesTick a n (then.owed c)) same tick }

  -- the clock moves
  moved_awake : (m : ℕ) → x.event ≡ event.Move m → (a : ActorName) → In a (conversations w) → Awake w then a
  moved_awake m move a there =
      let clock : x.actor ≡ name.Clock = at_clock w x.actor (net.actors x.actor) net.moment m (with_of (net.owed x.caller)) s (subst (λ (e : Event). actor_step w x.actor (net.actors x.actor) net.moment (record { event = e; with = with_of (net.owed x.caller) }) ≡ Some s) move is) in
      let conv = conv_named (range_with_len 0 (length w.hosts)) a there in
      let stays : then.actors a ≡ net.actors a = next_other w net x a (Some s) (subst (λ (b : ActorName). same_actor b a ≡ false) (sym clock) (conv_apart a conv)) in
      let at : then.moment ≡ m = ap (λ (e : Event). moment_after net.moment e) move in
      elim (come_or_beyond m (due_of (net.actors a))) [
        | inl beyond ↦ inl (beyond_at m then.moment (net.actors a) (then.actors a) at stays beyond)
        | inr come ↦
            let n = length net.past in
            let duty : Duty = record { actor = a; event = event.Tick (generation_of (net.actors a)); with = given.Nothing; cites = n } in
            let listed : In duty (flat_map (tick_at net.actors n m) (conversations w)) = in_flat (tick_at net.actors n m) (conversations w) a duty there (tick_at_due net.actors n m a come) in
            let here : In duty (owed_ticks w net.actors x.actor n x.event) =
            subst (λ (b : ActorName). In duty (owed_ticks w net.actors b n x.event)) (sym clock) (subst (λ (e : Event). In duty (owed_ticks w net.actors name.Clock n e)) (sym move) listed) in
            let front : List Duty = (emitted_put w x.actor n s.outcome.emit ++ follow_up x.actor n x.event (with_of (net.owed x.caller)) s.outcome.reply) ++ courier_duty w x.actor n s.outcome.taken in
            let fresh : In duty (new w net x s) =
            in_front duty (front ++ owed_ticks w net.actors x.actor n x.event) (release x.actor n s.state s.outcome.ended) (in_back duty front (owed_ticks w net.actors x.actor n x.event) here) in
            inr (owed_tick a (generation_of (net.actors a)) 0 x.caller below (record { duty = duty; there = owed_new w net x s duty fresh; actor_is = refl; event_is = refl }) (ap generation_of (sym stays)))
      ]

  module _ (ask : Option Ask) (asked : IsAsked (net.owed x.caller) (caller_of w x.caller) ask x) (same_moment : then.moment ≡ net.moment) where
    -- another actor's entry
    other_awake : (a : ActorName) → In a (conversations w) → same_actor x.actor a ≡ false → Awake w then a
    other_awake a there other =
        let stays : then.actors a ≡ net.actors a = next_other w net x a (Some s) other in
        elim (rests.awake a there) [
          | inl beyond ↦ inl (beyond_at net.moment then.moment (net.actors a) (then.actors a) same_moment stays beyond)
          | inr owed ↦ elim (still w net x s owed.by a (generation_of (net.actors a)) ask asked owed.tick) [
            | inl first ↦ absurd (both_ways (subst (λ (b : ActorName). same_actor b a ≡ true) (sym first.0) (same_itself a)) other)
            | inr tick ↦ inr (owed_tick a (generation_of (net.actors a)) 0 owed.by owed.below tick (ap generation_of (sym stays)))
          ]
        ]

    -- its own
    own_awake : (a : ActorName) → In a (conversations w) → same_actor x.actor a ≡ true → Awake w then a
    own_awake a there same =
        let here : x.actor ≡ a = same_actor_is x.actor a same in
        let becomes : then.actors a ≡ s.state = next_same w net x a (Some s) same in
        let later = actor_later w a (net.actors a) net.moment (work_of net x) s (rests.timed a) (step_at a here) in
        elim later.due [
          | inr beyond ↦ inl (beyond_at net.moment then.moment s.state (then.actors a) same_moment becomes beyond)
          | inl keeps ↦ elim (rests.awake a there) [
            | inl beyond ↦ inl (beyond_at net.moment then.moment s.state (then.actors a) same_moment becomes (subst (λ (o : Option ℕ). Beyond net.moment o) (sym keeps.0) beyond))
            | inr owed ↦ elim (still w net x s owed.by a (generation_of (net.actors a)) ask asked owed.tick) [
              | inl first ↦
                  inl (beyond_at net.moment then.moment s.state (then.actors a) same_moment becomes
                  (tick_later w a (net.actors a) net.moment (with_of (net.owed x.caller)) (generation_of (net.actors a)) s (conv_named (range_with_len 0 (length w.hosts)) a there) (rests.timed a) refl
                  (subst (λ (e : Event). actor_step w a (net.actors a) net.moment (record { event = e; with = with_of (net.owed x.caller) }) ≡ Some s) first.1 (step_at a here))))
              | inr tick ↦ inr (owed_tick a (generation_of (net.actors a)) 0 owed.by owed.below tick (sym keeps.1 ∙ ap generation_of (sym becomes)))
            ]
          ]
        ]

    stays_awake : (a : ActorName) → In a (conversations w) → Awake w then a
    stays_awake a there = by (same_actor x.actor a) refl
      where
        by : (b : Bool) → same_actor x.actor a ≡ b → Awake w then a
        by true same = own_awake a there same
        by false other = other_awake a there other

  stays_timed : (a : ActorName) → TimedActor (then.actors a)
  stays_timed a = by (same_actor x.actor a) refl
    where
      by : (b : Bool) → same_actor x.actor a ≡ b → TimedActor (then.actors a)
      by true same =
          subst TimedActor (sym (next_same w net x a (Some s) same)) (actor_later w a (net.actors a) net.moment (work_of net x) s (rests.timed a) (step_at a (same_actor_is x.actor a same))).timed
      by false other = subst TimedActor (sym (next_other w net x a (Some s) other)) (rests.timed a)

  stay_desks : (h : ℕ) → IsDeskState (then.actors (name.Desk h))
  stay_desks h = by (same_actor x.actor (name.Desk h)) refl
    where
      by : (b : Bool) → same_actor x.actor (name.Desk h) ≡ b → IsDeskState (then.actors (name.Desk h))
      by true same =
          subst IsDeskState (sym (next_same w net x (name.Desk h) (Some s) same))
          (desk_stays w h (net.actors (name.Desk h)) net.moment (work_of net x) s (rests.desks h) (step_at (name.Desk h) (same_actor_is x.actor (name.Desk h) same)))
      by false other = subst IsDeskState (sym (next_other w net x (name.Desk h) (Some s) other)) (rests.desks h)

  rests_then : (ask : Option Ask) → IsAsked (net.owed x.caller) (caller_of w x.caller) ask x → Rests w then
  rests_then ask asked = record {
    timed = stays_timed;
    desks = stay_desks;
    awake = elim (moves_or_not x.event) [
      | inl move ↦ moved_awake move.0 move.1
      | inr not ↦ stays_awake ask asked (not net.moment)
    ];
  }

rests_next : (w : World) (net : Net) (x : Entry) (o : Option (Step Actor)) (ask : Option Ask) → Rests w net → step_of w net x ≡ o → x.caller < caller_count w → IsSome (option_map (λ (s : Step Actor). s.outcome) o) → IsAsked (net.owed x.caller) (caller_of w x.caller) ask x
    → Rests w (net_after w net x o)
rests_next w net x None ask rests is below ready asked = absurd (false≢true ready)
rests_next w net x (Some s) ask rests is below ready asked = rests_then w net x s rests is below ask asked

opening_awake : (w : World) (a : ActorName) → IsConvName a → Beyond 0 (due_of (opening_actor w.timers a))
opening_awake w (name.Conv h proto.Il n) conv = tt
opening_awake w (name.Conv h proto.Udp n) conv = tt
opening_awake w _ conv = absurd conv

rests_opening : (w : World) → Rests w (opening_net w)
rests_opening w = record {
  timed = timed_opening w.timers;
  desks = λ h. (opening_desk, refl);
  awake = λ a there. inl (opening_awake w a (conv_named (range_with_len 0 (length w.hosts)) a there));
}

pub rests_after : (w : World) (h : List Entry) → IsLegal w h → Rests w (after w h)
rests_after w h legal = by_entries w (λ (k : List Entry). Rests w (after w k)) (rests_opening w) push h legal
  where
    push : (k : List Entry) (x : Entry) → IsLegal w k → MayFollow w k x → Rests w (after w k) → Rests w (after w (k ++ x ∷ []))
    push k x before may rests =
        subst (Rests w) (sym (after_push w k x)) (rests_next w (after w k) x (step_of w (after w k) x) _ rests refl may.is_known.1 may.is_ready may.is_asked)

-- The calm.

in_some : {A : Type 0} (x : A) (xs : List A) → In x xs → 0 < length xs
in_some x [] there = absurd there
in_some x (y ∷ xs) there = omega arith

module _ (w : World) (net : Net) (world : IsWorld w) (rests : Rests w net) (is_calm : calm w net ≡ true) where
  nobody_owes : nothing_owed w net ≡ true
  nobody_owes = (and_parts (nothing_owed w net) (nothing_pending w net && scripts_wait w net) is_calm).0

  all_wait : scripts_wait w net ≡ true
  all_wait = (and_parts (nothing_pending w net) (scripts_wait w net) (and_parts (nothing_owed w net) (nothing_pending w net && scripts_wait w net) is_calm).1).1

  due_beyond : (a : ActorName) → In a (conversations w) → Beyond net.moment (due_of (net.actors a))
  due_beyond a there =
      elim (rests.awake a there) [
        | inl beyond ↦ beyond
        | inr owed ↦
            let none : nat_lt 0 (length (net.owed owed.by)) ≡ false =
            not-true (nat_lt 0 (length (net.owed owed.by))) (all_in (λ (c : ℕ). not (owes_some net c)) (callers w) owed.by nobody_owes (in_range 0 (caller_count w) owed.by (omega arith) (omega (arith, owed.below)))) in
            let some = in_some owed.tick.duty (net.owed owed.by) owed.tick.there in
            absurd (omega (arith, some, ltb-false 0 (length (net.owed owed.by)) none))
      ]

  -- a desk answers a wait for a moment that came
  until_ready : (h m : ℕ) → h < length w.hosts → nat_le m net.moment ≡ true → is_ready w net (Some (record { actor = name.Desk h; event = event.Until m })) ≡ true
  until_ready h m lt come =
      let host = there_at w.hosts h lt in
      let has : nat_lt h (length w.hosts) ≡ true = grind (arith, nat_tests) in
      rw ((rests.desks h).1) (rw (has, host.1, come) refl)

  by_event : (h : ℕ) (a : ActorName) (e : Event) → h < length w.hosts → UntilAt h a e → is_ready w net (Some (record { actor = a; event = e })) ≡ false → Beyond net.moment (awaited_moment (Some (record { actor = a; event = e })))
  by_event h a (event.Until m) lt at not_ready = by (nat_le m net.moment) refl
    where
      by : (b : Bool) → nat_le m net.moment ≡ b → net.moment < m
      by false is = grind (arith, nat_tests)
      by true is =
          absurd (both_ways (until_ready h m lt is) (subst (λ (b : ActorName). is_ready w net (Some (record { actor = b; event = event.Until m })) ≡ false) at not_ready))
  by_event h a _ lt at not_ready = tt

  by_ask : (h : ℕ) (ask : Option Ask) → h < length w.hosts → FineNext h ask → is_ready w net ask ≡ false → Beyond net.moment (awaited_moment ask)
  by_ask h None lt at not_ready = tt
  by_ask h (Some ask) lt at not_ready = by_event h ask.actor ask.event lt at not_ready

  awaits : (c : ℕ) (o : Option Script) → slice_get w.scripts c ≡ o → Beyond net.moment (awaited_moment (next_of w (option_map_or (λ (s : Script). IsScript s) o (other_caller w c)) net.past c))
  awaits c None is =
      cond_both (nat_lt c (clock_number w)) _ _ (λ (k : Caller). Beyond net.moment (awaited_moment (next_of w k net.past c)))
      (λ _. tt)
      (λ _. cond_both (c == clock_number w) _ _ (λ (k : Caller). Beyond net.moment (awaited_moment (next_of w k net.past c))) (λ _. tt) (λ _. tt))
  awaits c (Some s) is =
      let one = all_at (is_script (length w.hosts)) w.scripts c s world.scripts is in
      let lt : s.host < length w.hosts = ltb-true s.host (length w.hosts) (and_parts (nat_lt s.host (length w.hosts)) (list_all is_step s.steps) one).0 in
      let waits = all_in (λ (k : ℕ). not (can_go_on w net k)) (range_with_len 0 (length w.scripts)) c all_wait (in_range 0 (length w.scripts) c (omega arith) (omega (arith, slice_get_within w.scripts c s is))) in
      let waits_so : not (is_ready w net (next_of w (IsScript s) net.past c)) ≡ true =
      subst (λ (o : Option Script). not (is_ready w net (next_of w (option_map_or (λ (t : Script). IsScript t) o (other_caller w c)) net.past c)) ≡ true) is waits in
      by_ask s.host (next_of w (IsScript s) net.past c) lt (fine_position s.host s.steps (zone_of w) (own_replies net.past c)) (not-true (is_ready w net (next_of w (IsScript s) net.past c)) waits_so)

  -- the clock's target is beyond the moment, where the end is
  rises : net.moment < w.end → net.moment < target w net
  rises lt =
      below_least net.moment w.end _ lt
      (above_both net.moment (filter_map (λ (a : ActorName). due_of (net.actors a)) (conversations w)) (filter_map (λ (c : ℕ). awaited_moment (next_of w (caller_of w c) net.past c)) (callers w))
      (above_filter net.moment (λ (a : ActorName). due_of (net.actors a)) (conversations w) due_beyond)
      (above_filter net.moment (λ (c : ℕ). awaited_moment (next_of w (caller_of w c) net.past c)) (callers w) (λ c there. awaits c (slice_get w.scripts c) refl)))

-- Over a timed legal history.

module _ (w : World) (h : List Entry) (world : IsWorld w) (legal : IsLegal w h) (timed : IsTimed w h) where
  beyond_before : (k m : ℕ) (x : Entry) → slice_get h k ≡ Some x → x.event ≡ event.Move m → (after w (take k h)).moment < m
  beyond_before k m x is move =
      let net = after w (take k h) in
      let in_time : (movable w net ≡ true) × (m ≡ target w net) = subst (λ (e : Event). IsInTime net w e) move (timed k x is) in
      let parts = and_parts (calm w net) (unfinished w net && nat_lt net.moment w.end) in_time.0 in
      let before : net.moment < w.end = ltb-true net.moment w.end (and_parts (unfinished w net) (nat_lt net.moment w.end) parts.1).1 in
      subst (λ (n : ℕ). net.moment < n) (sym in_time.1) (rises w net world (rests_after w (take k h) (legal_take w h k legal)) parts.0 before)

  -- each move goes beyond the moment before it
  pub move_rises : (k m : ℕ) (x : Entry) → slice_get h k ≡ Some x → x.event ≡ event.Move m → x.moment < m
  move_rises k m x is move = subst (λ (n : ℕ). n < m) (sym (legal k x is).at_moment) (beyond_before k m x is move)

  moment_of_step : (net : Net) (x : Entry) (o : Option (Step Actor)) → IsSome (option_map (λ (s : Step Actor). s.outcome) o) → (net_after w net x o).moment ≡ moment_after net.moment x.event
  moment_of_step net x None ready = absurd (false≢true ready)
  moment_of_step net x (Some s) ready = refl

  next_moment : (k : ℕ) (x : Entry) → slice_get h k ≡ Some x → (after w (take (suc k) h)).moment ≡ moment_after (after w (take k h)).moment x.event
  next_moment k x is =
      let more = one_more h k (slice_get_within h k x is) in
      let same : more.0 ≡ x = same_Some more.0 x (sym more.1 ∙ is) in
      let grown : take (suc k) h ≡ take k h ++ x ∷ [] = more.2 ∙ ap (λ (y : Entry). take k h ++ y ∷ []) same in
      ap (λ (p : List Entry). (after w p).moment) grown
      ∙ (ap (λ (n : Net). n.moment) (after_push w (take k h) x) ∙ moment_of_step (after w (take k h)) x (step_of w (after w (take k h)) x) (legal k x is).is_ready)

  one_step : (k : ℕ) → k < length h → (after w (take k h)).moment ≤ (after w (take (suc k) h)).moment
  one_step k lt =
      let x = one_more h k lt in
      let next = next_moment k x.0 x.1 in
      elim (moves_or_not x.0.event) [
        | inl move ↦
            let here : moment_after (after w (take k h)).moment x.0.event ≡ move.0 = ap (λ (e : Event). moment_after (after w (take k h)).moment e) move.1 in
            omega (arith, beyond_before k move.0 x.0 x.1 move.1, next, here)
        | inr not ↦ omega (arith, next, not (after w (take k h)).moment)
      ]

  never_falls : (i n : ℕ) → i + n ≤ length h → (after w (take i h)).moment ≤ (after w (take (i + n) h)).moment
  never_falls i zero le =
      let same : i ≡ i + 0 = omega arith in
      subst (λ (k : ℕ). (after w (take i h)).moment ≤ (after w (take k h)).moment) same (omega arith)
  never_falls i (suc n) le =
      let rest = never_falls i n (omega arith) in
      let last = one_step (i + n) (omega arith) in
      let same : suc (i + n) ≡ i + suc n = omega arith in
      subst (λ (k : ℕ). (after w (take i h)).moment ≤ (after w (take k h)).moment) same (omega (arith, rest, last))

  -- from one beginning to a longer one
  falls_never : (i j : ℕ) → i ≤ j → j ≤ length h → (after w (take i h)).moment ≤ (after w (take j h)).moment
  falls_never i j le within =
      let n : (n : ℕ) × (i + n ≡ j) = (j - i, omega arith) in
      subst (λ (k : ℕ). (after w (take i h)).moment ≤ (after w (take k h)).moment) n.1 (never_falls i n.0 (omega (arith, n.1)))

  pub entries_rise : (i j : ℕ) (x y : Entry) → i ≤ j → slice_get h i ≡ Some x → slice_get h j ≡ Some y → x.moment ≤ y.moment
  entries_rise i j x y le is_x is_y =
      let le' = slice_get_within h j y is_y in
      let r = falls_never i j le (omega (arith, le')) in
      omega (arith, r, (legal i x is_x).at_moment, (legal j y is_y).at_moment)

  pub moves_rise : (i j m n : ℕ) (x y : Entry) → i < j → slice_get h i ≡ Some x → slice_get h j ≡ Some y → x.event ≡ event.Move m → y.event ≡ event.Move n → m < n
  moves_rise i j m n x y lt is_x is_y move_x move_y =
      let within = slice_get_within h j y is_y in
      let r = falls_never (suc i) j (omega arith) (omega (arith, within)) in
      let next = next_moment i x is_x in
      let here : moment_after (after w (take i h)).moment x.event ≡ m = ap (λ (e : Event). moment_after (after w (take i h)).moment e) move_x in
      omega (arith, r, next, here, beyond_before j n y is_y move_y)
