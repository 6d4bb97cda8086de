-- What each legal entry changes of what is owed, and the law.
use Rattle.std.proofs.Common.{◌≡◌, ℕ, ◌+◌, ◌<◌, ◌≤◌, ◌==◌, ◌&&◌, ◌⊎◌, nat_lt, Bool, true, false, List, [], ◌∷◌, ◌++◌, length, drop, Option, Some, None, slice_get, inl, inr, refl, sym, ap, subst, ◌∙◌, arith, append-nil}
use Rattle.std.specs.Prelude.{if◌then◌else◌, option_to_list}
use Rattle.std.specs.Option.{option_map, option_and_then}
use Rattle.std.proofs.lemmas.Bool.{and_parts, true≢false, ltb-true}
use Rattle.std.proofs.lemmas.Option.{none-some, same_Some}
use Rattle.net_base.specs.declared.actor.ActorName.{ActorName}
use Rattle.net_base.specs.declared.actor.ActorName.TheVariants as name
use Rattle.net_base.specs.declared.address.Proto.{Proto}
use Rattle.net_base.specs.declared.event.Event.{Event}
use Rattle.net_base.specs.declared.event.Event.TheVariants as event
use Rattle.net_base.specs.declared.history.Taken.{Taken}
use Rattle.net_base.specs.declared.history.With.{With}
use Rattle.net_base.specs.declared.history.With.TheVariants as given
use Rattle.net_base.specs.declared.world.MediumSpec.{MediumSpec}
use Rattle.net_base.specs.declared.world.Fate.{Fate}
use Rattle.net_base.specs.declared.world.Fate.TheVariants as fate
use Rattle.net_base.specs.declared.world.World.{World}
use Rattle.net_base.specs.ActorStep.{Step, when}
use Rattle.net_base.specs.Actors.{Actor, IsDesk, IsDir, IsConv, IsMedium, IsPlain, actor_step, slot_count}
use Rattle.net_base.specs.Callers.{caller_count}
use Rattle.net_base.specs.Conversation.{Conv, conv_step}
use Rattle.net_base.specs.Directory.{Dir, dir_step}
use Rattle.net_base.specs.Duties.{Duty, duties, emitted_put, follow_up}
use Rattle.net_base.specs.Medium.{Medium, medium_step, takes, lays, fate_of, now_of, held_of, datagram_length}
use Rattle.net_base.specs.Net.{Net, actors_after}
use Rattle.net_base.specs.Stamped.{In, same_actor}
use Rattle.net_base.specs.World.{IsWorld}
use Rattle.history_laws.proofs.Owed.{duties_each}
use Rattle.history_laws.proofs.Ordered.{Each, Later, each_append, each_weaker}
use Rattle.history_laws.proofs.Duties.{Steady, OfKind, IsKind, IsMediumKind, AreSlots, AreCopies, IsActorOf, IsBirth, Apart, bears, named, same_core, reached, given_last, generation_at, conv_generation, generation_in}
use Rattle.history_laws.proofs.DirRows.{Moved, MovesIf, FollowsAt, dir_moves}
use Rattle.history_laws.proofs.ConvRows.{Kept, KeptIf, conv_kept, birth_done}
use Rattle.history_laws.proofs.Worlds.{may_give}
use Rattle.history_laws.proofs.Least.{each_in}
use Rattle.history_laws.proofs.Keeping.{Changes, IsNew, IsBorne, IsGained, NotConv, no_birth, each_of, later_append}
use Rattle.history_laws.proofs.New.{IsPlainDuty, plain_new, emitted_each, courier_each, release_each, left_each, ticks_new, none_bears, follow_apart}
use Rattle.net_base.proofs.Shared.{in_back, in_parts, same_actor_is, same_itself}

-- Media.

abbrev IsTo : World → Taken → Type 0
IsTo w t = t.to < length w.hosts

now_copies : (w : World) (f : Fate) (t : Taken) → t.to < length w.hosts → AreCopies w (now_of f t) × AreCopies w (held_of f t)
now_copies w fate.Deliver t to = ((to, tt), tt)
now_copies w fate.Lose t to = (tt, tt)
now_copies w fate.Twice t to = ((to, (to, tt)), tt)
now_copies w fate.Later t to = (tt, (to, tt))

-- what a medium's step leaves and gives
record IsMediumStep (w : World) (t : Step Medium) : Type 0 where
  pub queue : AreCopies w t.state.queue
  pub held : AreCopies w t.state.held
  pub taken : AreCopies w (option_to_list t.outcome.taken)

lay_step : (w : World) (f : Fate) (t : Taken) (m : Medium) → t.to < length w.hosts → AreCopies w m.queue → AreCopies w m.held → IsMediumStep w (lays f t m)
lay_step w f t m to queue held = record {
  queue = each_append (IsTo w) (m.queue ++ now_of f t) m.held (each_append (IsTo w) m.queue (now_of f t) queue (now_copies w f t to).0) held;
  held = (now_copies w f t to).1;
  taken = tt;
}

either_step : (w : World) (b : Bool) (t u : Step Medium) → IsMediumStep w t → IsMediumStep w u → IsMediumStep w (if b then t else u)
either_step w true t u one two = one
either_step w false t u one two = two

abbrev MediumStepIf : World → Option (Step Medium) → Type 0
MediumStepIf w None = Unit {0}
MediumStepIf w (Some t) = IsMediumStep w t

take_step : (w : World) (queue held : List Taken) (m : Medium) → AreCopies w queue → AreCopies w held → AreCopies w m.queue → AreCopies w m.held → MediumStepIf w (takes queue held m)
take_step w (t ∷ rest) held m q h mq mh = record { queue = q.1; held = mh; taken = (q.0, tt) }
take_step w [] (t ∷ rest) m q h mq mh = record { queue = mq; held = h.1; taken = (h.0, tt) }
take_step w [] [] m q h mq mh = tt

-- a put is a duty; what owes nothing gives nothing
medium_keeps : (w : World) (s : MediumSpec) (seed : ℕ) (e : Event) (with : With) (m : Medium) → AreCopies w m.queue → AreCopies w m.held → IsMediumKind w e with ⊎ (with ≡ given.Nothing) → MediumStepIf w (medium_step s seed e with m)
medium_keeps w s seed (event.Put None) (given.Packet p) m queue held kind = record { queue = queue; held = held; taken = tt }
medium_keeps w s seed (event.Put (Some to)) (given.Packet p) m queue held (inl kind) =
    either_step w (nat_lt s.mtu (datagram_length p.body)) _ (lays (fate_of seed s (m.frames + 1)) (record { frame = m.frames + 1; to = to; packet = p }) m)
    (record { queue = queue; held = held; taken = tt }) (lay_step w (fate_of seed s (m.frames + 1)) (record { frame = m.frames + 1; to = to; packet = p }) m kind queue held)
medium_keeps w s seed (event.Put (Some to)) (given.Packet p) m queue held (inr none) = absurd (true≢false (ap is_packet none))
  where
    is_packet : With → Bool
    is_packet (given.Packet q) = true
    is_packet _ = false
medium_keeps w s seed event.Take with m queue held kind = take_step w m.queue m.held m queue held queue held
medium_keeps w s seed _ _ m queue held kind = tt

-- Steps of any actor, as those of its kind.

step_of_kind : {S : Type 0} (b : Bool) (f : S → Actor) (o : Option (Step S)) (t : Step Actor) → when b (option_map (λ (s : Step S). record { state = f s.state; outcome = s.outcome }) o) ≡ Some t
    → (u : Step S) × (o ≡ Some u) × (t ≡ record { state = f u.state; outcome = u.outcome }) × (b ≡ true)
step_of_kind true f (Some u) t is = (u, refl, sym (same_Some _ t is), refl)
step_of_kind true f None t is = absurd (none-some t is)
step_of_kind false f o t is = absurd (none-some t is)

-- What is asked: the first duty, or an event of the caller's own, to which nothing is given and which bears nothing.
pub record IsAskedOf (net : Net) (c : ℕ) (a : ActorName) (e : Event) (with : With) : Type 0 where
  pub own : net.owed c ≡ [] → (with ≡ given.Nothing) × (bears e ≡ false)
  pub duty : (d : Duty) (ds : List Duty) → net.owed c ≡ d ∷ ds → (d.actor ≡ a) × (d.event ≡ e) × (d.with ≡ with)

-- an entry of a caller, and the net after it
pub record Recorded (w : World) (net after : Net) (c : ℕ) (a : ActorName) (e : Event) (with : With) (t : Step Actor) : Type 0 where
  pub world : IsWorld w
  pub steady : Steady w net
  pub known : c < caller_count w
  pub step : actor_step w a (net.actors a) net.moment (record { event = e; with = with }) ≡ Some t
  pub asked : IsAskedOf net c a e with
  pub past : length after.past ≡ length net.past + 1
  pub owed : (k : ℕ) → after.owed k ≡ (if c == k then drop 1 (net.owed k) ++ duties w net.actors a (length net.past) (record { event = e; with = with }) t else net.owed k)
  pub actors : (b : ActorName) → after.actors b ≡ actors_after net.actors a t.state b

module _ (w : World) (net after : Net) (c : ℕ) (a : ActorName) (e : Event) (with : With) (t : Step Actor) (r : Recorded w net after c a e with t) where
  abbrev new : List Duty
  new = duties w net.actors a (length net.past) (record { event = e; with = with }) t

  kind_or : IsKind w a e with ⊎ ((with ≡ given.Nothing) × (bears e ≡ false))
  kind_or = by (net.owed c) refl
    where
      by : (ds : List Duty) → net.owed c ≡ ds → IsKind w a e with ⊎ ((with ≡ given.Nothing) × (bears e ≡ false))
      by [] is = inr (r.asked.own is)
      by (d ∷ ds) is =
          let same = r.asked.duty d ds is in
          let kind : OfKind w d = each_in (OfKind w) (net.owed c) d (r.steady.kinds c) (subst (In d) (sym is) (inl refl)) in
          inl (subst (λ (v : With). IsKind w a e v) same.2 (subst (λ (v : Event). IsKind w a v d.with) same.1 (subst (λ (b : ActorName). IsKind w b d.event d.with) same.0 kind)))

  keep_actors : IsActorOf w a t.state → (b : ActorName) → IsActorOf w b (after.actors b)
  keep_actors of b = subst (IsActorOf w b) (sym (r.actors b)) (by (same_actor a b) refl)
    where
      by : (x : Bool) → same_actor a b ≡ x → IsActorOf w b (if x then t.state else net.actors b)
      by true same = subst (λ (n : ActorName). IsActorOf w n t.state) (same_actor_is a b same) of
      by false apart = r.steady.actors b

  -- births come about at conversations alone
  silent : (d : Duty) → IsPlainDuty w (length net.past) d → bears d.event ≡ false
  silent d is = by (bears d.event) refl
    where
      by : (b : Bool) → bears d.event ≡ b → b ≡ false
      by true at = absurd (no_birth w d.actor d.event d.with is.not is.kind at)
      by false at = refl

  all_silent : (ds : List Duty) → Each (IsPlainDuty w (length net.past)) ds → Each (λ (d : Duty). bears d.event ≡ false) ds
  all_silent ds all = each_weaker (IsPlainDuty w (length net.past)) (λ (d : Duty). bears d.event ≡ false) silent ds all

  -- an entry that changes no generation, at an actor that isn't a conversation, and adds no birth
  quiet : NotConv a → IsActorOf w a t.state → ((h : ℕ) (p : Proto) (n : ℕ) → given_last after h p n ≡ given_last net h p n) → ((h : ℕ) (p : Proto) (n : ℕ) → reached after h p n ≡ reached net h p n)
      → Each (IsNew w net after) new → Each (λ (d : Duty). bears d.event ≡ false) new → Changes w net after c new
  quiet not of given same fine none = record {
    known = r.known;
    past = r.past;
    owed = r.owed;
    actors = keep_actors of;
    fine = fine;
    apart = none_bears new none;
    rise = λ h p n. omega (arith, given h p n);
    borne = λ h p n. inl (same h p n);
    done = λ d ds h p n is bear at. absurd (subst NotConv (sym (r.asked.duty d ds is).0 ∙ at) not);
    gained = λ h p n. inl (given h p n);
  }

-- The clock and the desks.

clock_changes : (w : World) (net after : Net) (c : ℕ) (e : Event) (with : With) (t : Step Actor) (r : Recorded w net after c name.Clock e with t)
    → Changes w net after c (duties w net.actors name.Clock (length net.past) (record { event = e; with = with }) t)
clock_changes w net after c e with t r =
    let given : (h : ℕ) (p : Proto) (n : ℕ) → given_last after h p n ≡ given_last net h p n = λ h p n. ap (λ (s : Actor). generation_at s n) (r.actors (name.Dir h p)) in
    let same : (h : ℕ) (p : Proto) (n : ℕ) → reached after h p n ≡ reached net h p n = λ h p n. ap conv_generation (r.actors (name.Conv h p n)) in
    let both = ticks_new w net after e (λ h p n. omega (arith, r.steady.behind h p n, given h p n)) in
    quiet w net after c name.Clock e with t r tt tt given same
    (each_append (IsNew w net after) _ [] (each_weaker _ (IsNew w net after) (λ d is. is.0) _ both) tt)
    (each_append (λ (d : Duty). bears d.event ≡ false) _ [] (each_weaker _ (λ (d : Duty). bears d.event ≡ false) (λ d is. is.1) _ both) tt)

desk_changes : (w : World) (net after : Net) (c i : ℕ) (e : Event) (with : With) (t : Step Actor) (r : Recorded w net after c (name.Desk i) e with t)
    → Changes w net after c (duties w net.actors (name.Desk i) (length net.past) (record { event = e; with = with }) t)
desk_changes w net after c i e with t r =
    quiet w net after c (name.Desk i) e with t r tt tt
    (λ h p n. ap (λ (s : Actor). generation_at s n) (r.actors (name.Dir h p))) (λ h p n. ap conv_generation (r.actors (name.Conv h p n))) tt tt

-- Media.

medium_step_of : (w : World) (m : ℕ) (s : Medium) (e : Event) (with : With) (now : ℕ) (b : Bool) (o : Option MediumSpec) (t : Step Actor) → AreCopies w s.queue → AreCopies w s.held → IsMediumKind w e with ⊎ (with ≡ given.Nothing)
    → when b (option_and_then (λ (spec : MediumSpec). option_map (λ (x : Step Medium). record { state = IsMedium x.state; outcome = x.outcome }) (medium_step spec w.seed e with s)) o) ≡ Some t
    → (u : Step Medium) × (t ≡ record { state = IsMedium u.state; outcome = u.outcome }) × IsMediumStep w u
medium_step_of w m s e with now b None t queue held kind is = absurd (none b is)
  where
    none : (b : Bool) → when b None ≡ Some t → ⊥
    none true is = none-some t is
    none false is = none-some t is
medium_step_of w m s e with now b (Some spec) t queue held kind is =
    let u = step_of_kind b IsMedium (medium_step spec w.seed e with s) t is in
    (u.0, u.2, subst (MediumStepIf w) u.1 (medium_keeps w spec w.seed e with s queue held kind))

medium_changes : (w : World) (net after : Net) (c m : ℕ) (e : Event) (with : With) (t : Step Actor) (s : Actor) (r : Recorded w net after c (name.Medium m) e with t) → net.actors (name.Medium m) ≡ s
    → Changes w net after c (duties w net.actors (name.Medium m) (length net.past) (record { event = e; with = with }) t)
medium_changes w net after c m e with t (IsMedium s) r is =
    let of : AreCopies w s.queue × AreCopies w s.held = subst (IsActorOf w (name.Medium m)) is (r.steady.actors (name.Medium m)) in
    let kind : IsMediumKind w e with ⊎ (with ≡ given.Nothing) = elim (kind_or w net after c (name.Medium m) e with t r) [ inl k ↦ inl k.1 | inr n ↦ inr n.0 ] in
    let u = medium_step_of w m s e with net.moment _ (slice_get w.media m) t of.0 of.1 kind (subst (λ (x : Actor). actor_step w (name.Medium m) x net.moment (record { event = e; with = with }) ≡ Some t) is r.step) in
    let plain = courier_each w m (length net.past) t.outcome.taken r.world (subst (λ (x : Step Actor). AreCopies w (option_to_list x.outcome.taken)) (sym u.1) u.2.taken) in
    let all : Each (IsPlainDuty w (length net.past)) (duties w net.actors (name.Medium m) (length net.past) (record { event = e; with = with }) t) =
    each_append (IsPlainDuty w (length net.past)) _ [] (each_append (IsPlainDuty w (length net.past)) _ [] plain tt) tt in
    quiet w net after c (name.Medium m) e with t r tt (subst (λ (x : Step Actor). IsActorOf w (name.Medium m) x.state) (sym u.1) (u.2.queue, u.2.held))
    (λ h p n. ap (λ (a : Actor). generation_at a n) (r.actors (name.Dir h p))) (λ h p n. ap conv_generation (r.actors (name.Conv h p n)))
    (each_weaker (IsPlainDuty w (length net.past)) (IsNew w net after) (plain_new w net after) _ all)
    (all_silent w net after c (name.Medium m) e with t r _ all)
medium_changes w net after c m e with t (IsDir d) r is = absurd (subst (IsActorOf w (name.Medium m)) is (r.steady.actors (name.Medium m)))
medium_changes w net after c m e with t (IsConv v) r is = absurd (subst (IsActorOf w (name.Medium m)) is (r.steady.actors (name.Medium m)))
medium_changes w net after c m e with t (IsDesk d) r is = absurd (subst (IsActorOf w (name.Medium m)) is (r.steady.actors (name.Medium m)))
medium_changes w net after c m e with t IsPlain r is = absurd (subst (IsActorOf w (name.Medium m)) is (r.steady.actors (name.Medium m)))

-- Conversations.

conv_changes : (w : World) (net after : Net) (c h : ℕ) (p : Proto) (n : ℕ) (e : Event) (with : With) (t : Step Actor) (s : Actor) (r : Recorded w net after c (name.Conv h p n) e with t) → net.actors (name.Conv h p n) ≡ s
    → Changes w net after c (duties w net.actors (name.Conv h p n) (length net.past) (record { event = e; with = with }) t)
conv_changes w net after c h p n e with t (IsDir d) r is = absurd (subst (IsActorOf w (name.Conv h p n)) is (r.steady.actors (name.Conv h p n)))
conv_changes w net after c h p n e with t (IsMedium m) r is = absurd (subst (IsActorOf w (name.Conv h p n)) is (r.steady.actors (name.Conv h p n)))
conv_changes w net after c h p n e with t (IsDesk d) r is = absurd (subst (IsActorOf w (name.Conv h p n)) is (r.steady.actors (name.Conv h p n)))
conv_changes w net after c h p n e with t IsPlain r is = absurd (subst (IsActorOf w (name.Conv h p n)) is (r.steady.actors (name.Conv h p n)))
conv_changes w net after c h p n e with t (IsConv v) r is = record {
  known = r.known;
  past = r.past;
  owed = r.owed;
  actors = keep_actors w net after c me e with t r (subst (λ (x : Step Actor). IsActorOf w me x.state) (sym u.2) kept.0);
  fine = each_weaker (IsPlainDuty w (length net.past)) (IsNew w net after) (plain_new w net after) _ all;
  apart = none_bears _ (all_silent w net after c me e with t r _ all);
  rise = λ i q m. omega (arith, given i q m);
  borne = λ i q m. by_same i q m (same_actor me (name.Conv i q m)) refl;
  done = λ d ds i q m owed bear at. comes d ds i q m owed bear at;
  gained = λ i q m. inl (given i q m);
}
  where
    me : ActorName
    me = name.Conv h p n

    core : same_core p v.core
    core = subst (IsActorOf w (name.Conv h p n)) is (r.steady.actors (name.Conv h p n))

    u : (u : Step Conv) × (conv_step n e with net.moment v ≡ Some u) × (t ≡ record { state = IsConv u.state; outcome = u.outcome }) × ((nat_lt h (length w.hosts) && nat_lt n slot_count) ≡ true)
    u = step_of_kind (nat_lt h (length w.hosts) && nat_lt n slot_count) IsConv (conv_step n e with net.moment v) t
        (subst (λ (x : Actor). actor_step w (name.Conv h p n) x net.moment (record { event = e; with = with }) ≡ Some t) is r.step)

    host : h < length w.hosts
    host = ltb-true h (length w.hosts) (and_parts (nat_lt h (length w.hosts)) (nat_lt n slot_count) u.3).0

    slot : n < slot_count
    slot = ltb-true n slot_count (and_parts (nat_lt h (length w.hosts)) (nat_lt n slot_count) u.3).1

    kept : Kept p e v u.0
    kept = subst (KeptIf p e v) u.1 (conv_kept n e with net.moment p v core)

    given : (i : ℕ) (q : Proto) (m : ℕ) → given_last after i q m ≡ given_last net i q m
    given i q m = ap (λ (a : Actor). generation_at a m) (r.actors (name.Dir i q))

    all : Each (IsPlainDuty w (length net.past)) (duties w net.actors (name.Conv h p n) (length net.past) (record { event = e; with = with }) t)
    all =
        each_append (IsPlainDuty w (length net.past)) _ _ (each_append (IsPlainDuty w (length net.past)) _ [] (each_append (IsPlainDuty w (length net.past)) _ [] (each_append (IsPlainDuty w (length net.past)) _ _
        (emitted_each w (name.Conv h p n) (length net.past) t.outcome.emit r.world)
        (left_each w h p n (length net.past) e with t.outcome.reply host slot)) tt) tt)
        (release_each w h p n (length net.past) t.state t.outcome.ended host slot)

    -- where the conversation is this one
    here : (i : ℕ) (q : Proto) (m : ℕ) → same_actor (name.Conv h p n) (name.Conv i q m) ≡ true → (reached after i q m ≡ u.0.state.generation) × (reached net i q m ≡ v.generation) × (name.Conv h p n ≡ name.Conv i q m)
    here i q m same =
        let eq : name.Conv h p n ≡ name.Conv i q m = same_actor_is (name.Conv h p n) (name.Conv i q m) same in
        let state : after.actors (name.Conv i q m) ≡ t.state = r.actors (name.Conv i q m) ∙ rw same refl in
        let now : after.actors (name.Conv i q m) ≡ IsConv u.0.state = state ∙ ap (λ (x : Step Actor). x.state) u.2 in
        let was : net.actors (name.Conv i q m) ≡ IsConv v = ap (λ (b : ActorName). net.actors b) (sym eq) ∙ is in
        (ap conv_generation now, ap conv_generation was, eq)

    duty_bears : (d : Duty) (ds : List Duty) → net.owed c ≡ d ∷ ds → bears e ≡ true → (bears d.event ≡ true) × (named d.event ≡ named e)
    duty_bears d ds owed bear =
        let same = r.asked.duty d ds owed in
        (ap bears same.1 ∙ bear, ap named same.1)

    borne_by : (i : ℕ) (q : Proto) (m : ℕ) → (reached after i q m ≡ u.0.state.generation) × (reached net i q m ≡ v.generation) × (name.Conv h p n ≡ name.Conv i q m)
        → bears e ≡ true → named e ≡ v.generation + 1 → u.0.state.generation ≡ v.generation + 1 → (ds : List Duty) → net.owed c ≡ ds → IsBorne net after c i q m
    borne_by i q m at bear names next [] owed = absurd (true≢false (sym bear ∙ (r.asked.own owed).1))
    borne_by i q m at bear names next (d ∷ ds) owed =
        let both = duty_bears d ds owed bear in
        record {
          next = omega (arith, at.0, at.1, next);
          duty = d;
          rest = ds;
          owed = owed;
          actor = (r.asked.duty d ds owed).0 ∙ at.2;
          birth = (both.0, omega (arith, both.1, names, at.0, next));
        }

    by_same : (i : ℕ) (q : Proto) (m : ℕ) (b : Bool) → same_actor (name.Conv h p n) (name.Conv i q m) ≡ b → (reached after i q m ≡ reached net i q m) ⊎ IsBorne net after c i q m
    by_same i q m false apart =
        let still : after.actors (name.Conv i q m) ≡ net.actors (name.Conv i q m) = r.actors (name.Conv i q m) ∙ rw apart refl in
        inl (ap conv_generation still)
    by_same i q m true same =
        let at = here i q m same in
        elim kept.1 [
          | inl still ↦ inl (omega (arith, at.0, at.1, still))
          | inr more ↦ inr (borne_by i q m at more.0 more.1 more.2 (net.owed c) refl)
        ]

    comes : (d : Duty) (ds : List Duty) (i : ℕ) (q : Proto) (m : ℕ) → net.owed c ≡ d ∷ ds → bears d.event ≡ true → d.actor ≡ name.Conv i q m → reached after i q m ≡ named d.event
    comes d ds i q m owed bear at =
        let asks = r.asked.duty d ds owed in
        let eq : name.Conv h p n ≡ name.Conv i q m = sym asks.0 ∙ at in
        let same : same_actor (name.Conv h p n) (name.Conv i q m) ≡ true = subst (λ (b : ActorName). same_actor (name.Conv h p n) b ≡ true) eq (same_itself (name.Conv h p n)) in
        let there = here i q m same in
        let unborn : reached net i q m < named d.event = r.steady.unborn c d i q m (subst (In d) (sym owed) (inl refl)) at bear in
        let names : named d.event ≡ named e = ap named asks.1 in
        let born : u.0.state.generation ≡ named e = birth_done n e with net.moment v u.0 (ap bears (sym asks.1) ∙ bear) (omega (arith, unborn, names, there.1)) u.1 in
        omega (arith, there.0, born, names)

-- Directories.

-- the conversation of a slot of a directory
abbrev conv_of : ℕ → ActorName → ActorName
conv_of m (name.Dir h p) = name.Conv h p m
conv_of m a = a

-- a conversation's generation is at most what the directory gave, or beyond it
abbrev IsBelowAt : Net → ℕ → ActorName → Type 0
IsBelowAt after g (name.Conv i q m) = g ≤ given_last after i q m
IsBelowAt after g _ = Unit {0}

abbrev IsBeyondAt : Net → ℕ → ActorName → Type 0
IsBeyondAt net g (name.Conv i q m) = given_last net i q m < g
IsBeyondAt net g _ = Unit {0}

dir_changes : (w : World) (net after : Net) (c h : ℕ) (p : Proto) (e : Event) (with : With) (t : Step Actor) (s : Actor) (r : Recorded w net after c (name.Dir h p) e with t) → net.actors (name.Dir h p) ≡ s
    → Changes w net after c (duties w net.actors (name.Dir h p) (length net.past) (record { event = e; with = with }) t)
dir_changes w net after c h p e with t (IsConv v) r is = absurd (subst (IsActorOf w (name.Dir h p)) is (r.steady.actors (name.Dir h p)))
dir_changes w net after c h p e with t (IsMedium m) r is = absurd (subst (IsActorOf w (name.Dir h p)) is (r.steady.actors (name.Dir h p)))
dir_changes w net after c h p e with t (IsDesk d) r is = absurd (subst (IsActorOf w (name.Dir h p)) is (r.steady.actors (name.Dir h p)))
dir_changes w net after c h p e with t IsPlain r is = absurd (subst (IsActorOf w (name.Dir h p)) is (r.steady.actors (name.Dir h p)))
dir_changes w net after c h p e with t (IsDir d) r is = record {
  known = r.known;
  past = r.past;
  owed = r.owed;
  actors = keep_actors w net after c (name.Dir h p) e with t r (subst (λ (x : Step Actor). IsActorOf w (name.Dir h p) x.state) (sym u.2) moved.are);
  fine = each_append (IsNew w net after) _ [] (each_append (IsNew w net after) _ [] (each_append (IsNew w net after) _ [] (each_append (IsNew w net after) emitted follow (each_weaker (IsPlainDuty w (length net.past)) (IsNew w net after) (plain_new w net after) emitted put) (each_of (IsNew w net after) follow follow_new)) tt) tt) tt;
  apart = subst (Later Apart) (sym all_is) (later_append Apart emitted follow (none_bears emitted silent_put) (follow_apart h p (length net.past) e with t.outcome.reply)
      (λ x y there other one two same names. true≢false (sym one ∙ each_in (λ (z : Duty). bears z.event ≡ false) emitted x silent_put there)));
  rise = λ i q m. risen i q m (same_actor (name.Dir h p) (name.Dir i q)) refl;
  borne = λ i q m. inl (ap conv_generation (r.actors (name.Conv i q m)));
  done = λ x xs i q m owed bear at. absurd (subst NotConv (sym (r.asked.duty x xs owed).0 ∙ at) tt);
  gained = λ i q m. gained_by i q m (same_actor (name.Dir h p) (name.Dir i q)) refl;
}
  where
    are : AreSlots d.slots
    are = subst (IsActorOf w (name.Dir h p)) is (r.steady.actors (name.Dir h p))

    u : (u : Step Dir) × (dir_step w h p e with d ≡ Some u) × (t ≡ record { state = IsDir u.state; outcome = u.outcome }) × (nat_lt h (length w.hosts) ≡ true)
    u = step_of_kind (nat_lt h (length w.hosts)) IsDir (dir_step w h p e with d) t
        (subst (λ (x : Actor). actor_step w (name.Dir h p) x net.moment (record { event = e; with = with }) ≡ Some t) is r.step)

    host : h < length w.hosts
    host = ltb-true h (length w.hosts) u.3

    emitted : List Duty
    emitted = emitted_put w (name.Dir h p) (length net.past) t.outcome.emit

    follow : List Duty
    follow = follow_up (name.Dir h p) (length net.past) e with t.outcome.reply

    moved : Moved h p d.slots u.0.state.slots (λ k. follow_up (name.Dir h p) k e with t.outcome.reply)
    moved = subst (λ (x : Step Actor). Moved h p d.slots u.0.state.slots (λ k. follow_up (name.Dir h p) k e with x.outcome.reply)) (sym u.2) (subst (MovesIf h p e with d) u.1 (dir_moves w h p e with d (may_give w h p d r.world) are))

    put : Each (IsPlainDuty w (length net.past)) emitted
    put = emitted_each w (name.Dir h p) (length net.past) t.outcome.emit r.world

    silent_put : Each (λ (x : Duty). bears x.event ≡ false) emitted
    silent_put = all_silent w net after c (name.Dir h p) e with t r emitted put

    all_is : duties w net.actors (name.Dir h p) (length net.past) (record { event = e; with = with }) t ≡ emitted ++ follow
    all_is = append-nil (emitted ++ follow ++ [] ++ []) ∙ append-nil (emitted ++ follow ++ []) ∙ append-nil (emitted ++ follow)

    -- where the directory is this one
    here : (i : ℕ) (q : Proto) (m : ℕ) → same_actor (name.Dir h p) (name.Dir i q) ≡ true → (given_last after i q m ≡ generation_in u.0.state.slots m) × (given_last net i q m ≡ generation_in d.slots m) × (name.Dir h p ≡ name.Dir i q)
    here i q m same =
        let eq : name.Dir h p ≡ name.Dir i q = same_actor_is (name.Dir h p) (name.Dir i q) same in
        let now : after.actors (name.Dir i q) ≡ IsDir u.0.state = r.actors (name.Dir i q) ∙ rw same (ap (λ (x : Step Actor). x.state) u.2) in
        let was : net.actors (name.Dir i q) ≡ IsDir d = ap (λ (b : ActorName). net.actors b) (sym eq) ∙ is in
        (ap (λ (a : Actor). generation_at a m) now, ap (λ (a : Actor). generation_at a m) was, eq)

    away : (i : ℕ) (q : Proto) (m : ℕ) → same_actor (name.Dir h p) (name.Dir i q) ≡ false → given_last after i q m ≡ given_last net i q m
    away i q m apart =
        let still : after.actors (name.Dir i q) ≡ net.actors (name.Dir i q) = r.actors (name.Dir i q) ∙ rw apart refl in
        ap (λ (a : Actor). generation_at a m) still

    risen : (i : ℕ) (q : Proto) (m : ℕ) (b : Bool) → same_actor (name.Dir h p) (name.Dir i q) ≡ b → given_last net i q m ≤ given_last after i q m
    risen i q m true same =
        let at = here i q m same in
        omega (arith, at.0, at.1, moved.rise m)
    risen i q m false apart = omega (arith, away i q m apart)

    mine : (m : ℕ) → (given_last after h p m ≡ generation_in u.0.state.slots m) × (given_last net h p m ≡ generation_in d.slots m) × (name.Dir h p ≡ name.Dir h p)
    mine m = here h p m (same_itself (name.Dir h p))

    cites : (x : Duty) → In x follow → x.cites ≡ length net.past
    cites x there =
        each_in (λ (y : Duty). y.cites ≡ length net.past) _ x
        (duties_each (λ (y : Duty). y.cites ≡ length net.past) (length net.past) (λ a v g other. refl) w net.actors (name.Dir h p) (record { event = e; with = with }) t)
        (subst (In x) (sym all_is) (in_back x emitted follow there))

    follow_new : (x : Duty) → In x follow → IsNew w net after x
    follow_new x there =
        let f = each_in (FollowsAt h p d.slots u.0.state.slots) follow x (moved.fine (length net.past)) there in
        let at = mine f.0 in
        let below : named x.event ≤ given_last after h p f.0 = omega (arith, at.0, f.2.below) in
        record {
          kind = subst (λ (b : ActorName). IsKind w b x.event x.with) (sym f.1) (host, f.2.within, f.2.kind);
          cites = cites x there;
          below = λ i q m is. subst (IsBelowAt after (named x.event)) (sym f.1 ∙ is) below;
          unborn = λ i q m is bear. subst (IsBeyondAt net (named x.event)) (sym f.1 ∙ is) (omega (arith, at.1, f.2.unborn bear));
        }

    gained_by : (i : ℕ) (q : Proto) (m : ℕ) (b : Bool) → same_actor (name.Dir h p) (name.Dir i q) ≡ b
        → (given_last after i q m ≡ given_last net i q m) ⊎ IsGained net after (duties w net.actors (name.Dir h p) (length net.past) (record { event = e; with = with }) t) i q m
    gained_by i q m false apart = inl (away i q m apart)
    gained_by i q m true same =
        let at = here i q m same in
        elim (moved.raised m) [
          | inl still ↦ inl (omega (arith, at.0, at.1, still))
          | inr more ↦
              let one = more.1 (length net.past) in
              let names : name.Conv h p m ≡ name.Conv i q m = ap (conv_of m) at.2 in
              let birth : IsBirth (given_last after i q m) one.0.event = (one.3.0, omega (arith, one.3.1, at.0)) in
              inr record {
                next = omega (arith, at.0, at.1, more.0);
                duty = one.0;
                there = subst (In one.0) (sym all_is) (in_back one.0 emitted follow (subst (In one.0) (sym one.1) (inl refl)));
                actor = one.2 ∙ names;
                birth = birth;
                alone = λ x there is. elim (in_parts x emitted follow (subst (In x) all_is there)) [
                  | inl put_one ↦ absurd (subst NotConv is (each_in (IsPlainDuty w (length net.past)) emitted x put put_one).not)
                  | inr follows ↦ elim (subst (In x) one.1 follows) [
                    | inl first ↦ subst (λ (y : Duty). IsBirth (given_last after i q m) y.event) (sym first) birth
                    | inr none ↦ absurd none
                  ]
                ];
              }
        ]

-- The law.

pub changes : (w : World) (net after : Net) (c : ℕ) (a : ActorName) (e : Event) (with : With) (t : Step Actor) → Recorded w net after c a e with t
    → Changes w net after c (duties w net.actors a (length net.past) (record { event = e; with = with }) t)
changes w net after c (name.Desk i) e with t r = desk_changes w net after c i e with t r
changes w net after c (name.Dir h p) e with t r = dir_changes w net after c h p e with t (net.actors (name.Dir h p)) r refl
changes w net after c (name.Conv h p n) e with t r = conv_changes w net after c h p n e with t (net.actors (name.Conv h p n)) r refl
changes w net after c (name.Medium m) e with t r = medium_changes w net after c m e with t (net.actors (name.Medium m)) r refl
changes w net after c name.Clock e with t r = clock_changes w net after c e with t r
