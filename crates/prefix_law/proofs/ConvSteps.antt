-- Each move of a conversation with an IL end keeps what holds of all pairs.
use Rattle.std.proofs.Common.{◌≡◌, ℕ, ◌+◌, ◌^◌, ◌<◌, true, false, List, [], ◌∷◌, Option, None, ◌⊎◌, inl, inr, refl, sym, ap, subst, ◌∙◌, arith}
use Rattle.std.specs.Option.{option_map}
use Rattle.net_base.specs.declared.address.Pair.{Pair}
use Rattle.net_base.specs.declared.event.Event.{Event}
use Rattle.net_base.specs.declared.event.Event.TheVariants as event
use Rattle.net_base.specs.declared.il.IlKind.TheVariants.{Close}
use Rattle.net_base.specs.declared.il.IlMsg.{IlMsg}
use Rattle.net_base.specs.declared.packet.Body.{Body}
use Rattle.net_base.specs.declared.packet.Body.TheVariants as body
use Rattle.net_base.specs.declared.packet.Packet.{Packet}
use Rattle.net_base.specs.declared.history.With.{With}
use Rattle.net_base.specs.declared.history.With.TheVariants as given
use Rattle.net_base.specs.declared.timer.Timers.{Timers}
use Rattle.net_base.specs.declared.timer.Timers.TheVariants.{Fixed}
use Rattle.net_base.specs.IlEnd.{End, Turn, fresh_end, silent}
use Rattle.net_base.specs.IlTable.{connects, is_born, announced}
use Rattle.prefix_law.proofs.Pairs.{Side, is_sync}
use Rattle.net_base.specs.Mirror.{mirror}
use Rattle.net_base.specs.ActorStep.{Step}
use Rattle.net_base.specs.Conversation.{Core, Il, Stage, Unused, Listening, Connected, Conv, packet_of}
use Rattle.prefix_law.proofs.Trace.{Trace, empty_side, conv_trace}
use Rattle.prefix_law.proofs.Talking.{Sound, Link, Knows, Good}
use Rattle.prefix_law.proofs.Rows.{Few}
use Rattle.prefix_law.proofs.Deeds.{both_ways, EachSound, good_connects, good_is_born, sync_id}
use Rattle.prefix_law.proofs.Acts.{Refusal, Told, Idle, Quiet, good_act, idle_act, fresh_act, fresh_again}
use Rattle.prefix_law.proofs.ConvMoves.{is_connected}
use Rattle.prefix_law.proofs.ConvMoves.{Act, Emits, Stays, Begins, Joins, Comes, Opens, Move, Stay, Begin, Join, Come, Listen, of_end}
use Rattle.prefix_law.proofs.Marks.{CloseComes, act_marked}
use Rattle.prefix_law.proofs.Touch.{owner_of, HeardClose, Owned, IsIn, EmittedAs, Emitted, EmittedIf, HasEnd, NotYet, ConvFine, ConvStep, touched, said_is, touches}

-- what a work gives to a conversation is its own
abbrev pub GiftFine : Trace → ℕ → ℕ → Event → With → Type 0
GiftFine t h n (event.Connect g) (given.Grant p start limit) = t.owner p ≡ owner_of h n g
GiftFine t h n (event.Born g) (given.Birth q start limit) = (t.owner (record { local = q.dst; remote = q.src }) ≡ owner_of h n g) × Emitted t q
GiftFine t h n (event.ArriveAt g) (given.Packet q) = (t.owner (record { local = q.dst; remote = q.src }) ≡ owner_of h n g) × Emitted t q
GiftFine t h n _ _ = Unit {0}

sound_in : (e : End) (m : IlMsg) (ms : List IlMsg) → EachSound e ms → IsIn m ms → (e.fresh ≡ false) × Sound e m
sound_in e m [] all there = absurd there
sound_in e m (x ∷ ms) all (inl is) = subst (λ (y : IlMsg). (e.fresh ≡ false) × Sound e y) is all.0
sound_in e m (x ∷ ms) all (inr there) = sound_in e m ms all.1 there

-- what an emitted packet tells
told : (k : ℕ) (t : Trace) (p : Pair) (b : Body) (m : IlMsg) → Owned k t → b ≡ body.Il m → EmittedAs t (mirror p) b → Told (t.side (mirror p)).end m
told k t p (body.Udp text) m w is e = absurd (cc is)
told k t p (body.Il x) m w is e = go x (cc is) e
  where
    go : (y : IlMsg) → y ≡ m → (IsIn y (t.side (mirror p)).out ⊎ Refusal y) → Told (t.side (mirror p)).end m
    go y same (inl there) = subst (λ (z : IlMsg). Told (t.side (mirror p)).end z) same (inl (sound_in (t.side (mirror p)).end y (t.side (mirror p)).out (w.talk (mirror p)).out there))
    go y same (inr refusal) = subst (λ (z : IlMsg). Told (t.side (mirror p)).end z) same (inr refusal)

-- a close with spec 0 that comes was said by the other end, since a refusal has spec 1
close_said : (t : Trace) (p : Pair) (b : Body) (m : IlMsg) → b ≡ body.Il m → EmittedAs t (mirror p) b → m.kind ≡ Close → m.spec ≡ 0 → HeardClose t p
close_said t p (body.Udp text) m is e kind spec = absurd (cc is)
close_said t p (body.Il x) m is e kind spec = go x (cc is) e
  where
    go : (y : IlMsg) → y ≡ m → (IsIn y (t.side (mirror p)).out ⊎ Refusal y) → HeardClose t p
    go y same (inl there) = record { m = m; there = subst (λ (z : IlMsg). IsIn z (t.side (mirror p)).out) same there; kind_is = kind; spec_is = spec }
    go y same (inr refusal) = absurd (omega (arith, sym (ap (λ (z : IlMsg). z.spec) same) ∙ refusal.1, spec))

pub owned_more : (k : ℕ) (t : Trace) → Owned k t → Owned (k + 1) t
owned_more k t w = record { talk = w.talk; untouched = w.untouched; unique = w.unique; apart = w.apart; few = λ p. omega (arith, w.few p) }

pub quiet_trace : (s : Stage) (core : Core) (c : Conv) (emit : Option Packet) (t : Trace) → is_connected s ≡ false → conv_trace s core c emit t ≡ t
quiet_trace Unused core c emit t not = refl
quiet_trace Listening core c emit t not = refl
quiet_trace Connected core c emit t not = absurd (both_ways refl not)

-- a step that says nothing and isn't connected
keeps : (k h n : ℕ) (t : Trace) (s : Step Conv) → Owned k t → ConvFine t h n s.state → is_connected s.state.stage ≡ false → s.outcome.emit ≡ None
    → ConvStep k h n t (conv_trace s.state.stage s.state.core s.state s.outcome.emit t) s
keeps k h n t s w fine not none =
    subst (λ (u : Trace). ConvStep k h n t u s) (sym (quiet_trace s.state.stage s.state.core s.state s.outcome.emit t not)) (record {
      owned = owned_more k t w;
      own = fine;
      others = λ h' n' a apart f. f;
      later = record { owner_stays = λ p o is. is; out_stays = λ p m there. there };
      emitted = subst (λ (x : Option Packet). EmittedIf t x) (sym none) tt;
      still = λ q o owns other. refl;
      closed_by_peer = λ q is. inl is;
      says = λ q m there. inl there;
    })

none_emits : (p : Pair) (emit : Option Packet) (m : Option IlMsg) → Emits p emit m → m ≡ None → emit ≡ None
none_emits p emit m e is = e.emit_is ∙ ap (option_map (λ (x : IlMsg). packet_of e.by (body.Il x))) is

-- a connected one takes a turn
pub trace_touched : (t : Trace) (p : Pair) (turn : Turn) (s : Step Conv) → s.state.stage ≡ Connected → s.state.core ≡ Il turn.end → s.state.pair ≡ p → Emits p s.outcome.emit turn.emits
    → touched t p turn ≡ conv_trace s.state.stage s.state.core s.state s.outcome.emit t
trace_touched t p turn s stage_is core_is pair_is emits =
    rw (stage_is, core_is) (rw (pair_is, said_is p s.outcome.emit turn.emits emits) refl)

-- NotYet where generation and stage stay
not_yet_stays : (t : Trace) (h n : ℕ) (c d : Conv) → d.generation ≡ c.generation → is_connected c.stage ≡ false → NotYet t h n c → NotYet t h n d
not_yet_stays t h n c d same not f p g owner le _ = f p g owner (omega (arith, same)) (λ _. not)

-- a turn that is good for a fresh end is so whatever its timers are
good_of : (kind kind' : Timers) (e' : End) (turn : Turn) → Good (fresh_end kind) e' turn → Good (fresh_end kind') e' turn
good_of kind kind' e' turn g = record { link = g.link; knows = g.knows; grows = g.grows; says = g.says }

module _ (k h n : ℕ) (t : Trace) (few : k < 2 ^ 31) (w : Owned k t) (now : ℕ) (c : Conv) (e : End) (ev : Event) (gift : With) (s : Step Conv) where
  -- the two ends of a pair have written little
  few_at : (p : Pair) → Few (t.side p).end (t.side (mirror p)).end
  few_at p = (omega (arith, w.few p), omega (arith, w.few (mirror p)))

  stay : (stage : Stage) → c.stage ≡ stage → HasEnd t h n (of_end c e) stage (Il e) → NotYet t h n c → GiftFine t h n ev gift → (turn : Turn) → Act now c e ev gift turn → Stays c e ev turn s
      → ConvStep k h n t (conv_trace s.state.stage s.state.core s.state s.outcome.emit t) s
  stay Connected is has not_yet gift_fine turn act st =
      let p = c.pair in
      let e' = (t.side (mirror p)).end in
      let holds = w.talk p in
      let good : Good (t.side p).end e' turn =
      good_act now c (t.side p).end e' ev gift turn (subst (λ (x : End). Act now c x ev gift turn) (sym has.1) act) (few_at p) holds.link (w.talk (mirror p)).link holds.knows from in
      let stage_is : s.state.stage ≡ Connected = st.stage_is ∙ is in
      let pair_is : s.state.pair ≡ p = st.pair_is (ap is_connected is) in
      subst (λ (u : Trace). ConvStep k h n t u s) (trace_touched t p turn s stage_is st.core_is pair_is st.emits)
      (touches t p turn k h n c.generation c s has.0 (omega arith) not_yet w good st.generation_is pair_is stage_is st.core_is st.emits
      (λ is_marked. heard (act_marked now c (t.side p).end ev gift turn (subst (λ (x : End). Act now c x ev gift turn) (sym has.1) act) is_marked)))
    where
      -- the other end said the close that comes
      heard : ((t.side c.pair).end.closed_by_peer ≡ true) ⊎ CloseComes c ev gift → ((t.side c.pair).end.closed_by_peer ≡ true) ⊎ HeardClose t c.pair
      heard (inl old) = inl old
      heard (inr x) =
          let fine : GiftFine t h n (event.ArriveAt c.generation) (given.Packet x.packet) = subst (λ (g : With). GiftFine t h n (event.ArriveAt c.generation) g) x.given_is (subst (λ (y : Event). GiftFine t h n y gift) x.event_is gift_fine) in
          let same : ◌≡◌ {A = Pair} (record { local = x.packet.dst; remote = x.packet.src }) c.pair = w.unique _ _ _ fine.0 has.0 in
          inr (close_said t c.pair x.packet.body x.message x.body_is (subst (λ (r : Pair). EmittedAs t (mirror r) x.packet.body) same fine.1) x.kind_is x.spec_is)

      from : (q : Packet) (m : IlMsg) → ev ≡ event.ArriveAt c.generation → gift ≡ given.Packet q → q.body ≡ body.Il m → Told (t.side (mirror c.pair)).end m
      from q m ev_is gift_is body_is =
          let fine : GiftFine t h n (event.ArriveAt c.generation) (given.Packet q) = subst (λ (g : With). GiftFine t h n (event.ArriveAt c.generation) g) gift_is (subst (λ (x : Event). GiftFine t h n x gift) ev_is gift_fine) in
          let same : ◌≡◌ {A = Pair} (record { local = q.dst; remote = q.src }) c.pair = w.unique _ _ _ fine.0 has.0 in
          told k t c.pair q.body m w body_is (subst (λ (r : Pair). EmittedAs t (mirror r) q.body) same fine.1)
  stay Unused is has not_yet gift_fine turn act st =
      let not : is_connected c.stage ≡ false = ap is_connected is in
      let turn_is : turn ≡ silent (fresh_end e.timer.timers) = fresh_act e.timer.timers now c ev gift turn (subst (λ (x : End). Act now c x ev gift turn) has act) not in
      let stage_is : s.state.stage ≡ Unused = st.stage_is ∙ is in
      let end_is : turn.end ≡ fresh_end turn.end.timer.timers = fresh_again turn.end e.timer.timers (ap (λ (u : Turn). u.end) turn_is) in
      keeps k h n t s w (rw (stage_is, st.core_is) end_is, not_yet_stays t h n c s.state st.generation_is not not_yet) (ap is_connected stage_is)
      (none_emits c.pair s.outcome.emit turn.emits st.emits (ap (λ (u : Turn). u.emits) turn_is))
  stay Listening is has not_yet gift_fine turn act st =
      let not : is_connected c.stage ≡ false = ap is_connected is in
      let quiet : Quiet turn = idle_act now c e ev gift turn act not has in
      let stage_is : s.state.stage ≡ Listening = st.stage_is ∙ is in
      keeps k h n t s w (rw (stage_is, st.core_is) quiet.idle, not_yet_stays t h n c s.state st.generation_is not not_yet) (ap is_connected stage_is)
      (none_emits c.pair s.outcome.emit turn.emits st.emits quiet.emits_none)

  begin : NotYet t h n c → Begins c e ev s → ConvStep k h n t (conv_trace s.state.stage s.state.core s.state s.outcome.emit t) s
  begin not_yet b =
      keeps k h n t s w (rw (b.stage_is, b.core_is) refl, λ p g owner le _. not_yet p g owner (omega (arith, b.generation_is)) (λ is. absurd (omega (arith, b.generation_is))))
      (ap is_connected b.stage_is) b.emits_none

  listen : HasEnd t h n (of_end c e) c.stage (Il e) → NotYet t h n c → Opens c e ev s → ConvStep k h n t (conv_trace s.state.stage s.state.core s.state s.outcome.emit t) s
  listen has not_yet o =
      let end_is : e ≡ fresh_end e.timer.timers = rw o.was at has in
      keeps k h n t s w (rw (o.stage_is, o.core_is) (subst (λ (x : End). Idle (announced x)) (sym end_is) (tt, refl, refl, refl, refl, refl)), not_yet_stays t h n c s.state o.generation_is (ap is_connected o.was) not_yet)
      (ap is_connected o.stage_is) o.emits_none

  -- a pair that was never used begins
  join : HasEnd t h n (of_end c e) c.stage (Il e) → NotYet t h n c → GiftFine t h n ev gift → Joins now c e ev gift s → ConvStep k h n t (conv_trace s.state.stage s.state.core s.state s.outcome.emit t) s
  join has not_yet gift_fine j =
      let p = j.pair in
      let owner : t.owner p ≡ owner_of h n c.generation = subst (λ (g : With). GiftFine t h n (event.Connect c.generation) g) j.given_is (subst (λ (x : Event). GiftFine t h n x gift) j.event_is gift_fine) in
      let kind = e.timer.timers in
      let end_is : e ≡ fresh_end kind = rw j.was at has in
      let empty : t.side p ≡ empty_side = not_yet p c.generation owner (omega arith) (λ _. ap is_connected j.was) in
      let bare : (t.side p).end ≡ fresh_end Fixed = ap (λ (x : Side). x.end) empty in
      let e' = (t.side (mirror p)).end in
      let link : Link (fresh_end kind) e' = subst (λ (x : End). Link x e') bare (w.talk p).link in
      let knows : Knows (fresh_end kind) = subst (λ (x : End). Knows x) bare (w.talk p).knows in
      let good : Good (t.side p).end e' (connects now j.start e) =
      subst (λ (x : End). Good (t.side p).end e' (connects now j.start x)) (sym end_is)
      (subst (λ (x : End). Good x e' (connects now j.start (fresh_end kind))) (sym bare)
      (good_of kind Fixed e' (connects now j.start (fresh_end kind)) (good_connects now j.start (fresh_end kind) e' refl refl link knows))) in
      subst (λ (u : Trace). ConvStep k h n t u s) (trace_touched t p (connects now j.start e) s j.stage_is j.core_is j.pair_is j.emits)
      (touches t p (connects now j.start e) k h n c.generation c s owner (omega arith) not_yet w good j.generation_is j.pair_is j.stage_is j.core_is j.emits
      (λ is_marked. absurd (both_ways is_marked (ap (λ (x : End). x.closed_by_peer) end_is))))

  come : NotYet t h n c → GiftFine t h n ev gift → Comes now c e ev gift s → ConvStep k h n t (conv_trace s.state.stage s.state.core s.state s.outcome.emit t) s
  come not_yet gift_fine x =
      let p : Pair = record { local = x.packet.dst; remote = x.packet.src } in
      let g = c.generation + 1 in
      let kind = e.timer.timers in
      let turn = is_born now x.start x.message.id (fresh_end kind) in
      let fine : GiftFine t h n (event.Born g) (given.Birth x.packet x.start x.limit) = subst (λ (y : With). GiftFine t h n (event.Born g) y) x.given_is (subst (λ (y : Event). GiftFine t h n y gift) x.event_is gift_fine) in
      let empty : t.side p ≡ empty_side = not_yet p g fine.0 (omega arith) (λ is. absurd (omega arith)) in
      let bare : (t.side p).end ≡ fresh_end Fixed = ap (λ (y : Side). y.end) empty in
      let e' = (t.side (mirror p)).end in
      let link : Link (fresh_end kind) e' = subst (λ (y : End). Link y e') bare (w.talk p).link in
      let knows : Knows (fresh_end kind) = subst (λ (y : End). Knows y) bare (w.talk p).knows in
      let from : Told e' x.message = told k t p x.packet.body x.message w x.body_is fine.1 in
      let good : Good (t.side p).end e' turn = subst (λ (y : End). Good y e' turn) (sym bare) (good_of kind Fixed e' turn (born (fresh_end kind) e' link knows refl refl from)) in
      subst (λ (u : Trace). ConvStep k h n t u s) (trace_touched t p turn s x.stage_is x.core_is x.pair_is x.emits)
      (touches t p turn k h n g c s fine.0 (omega arith) not_yet w good x.generation_is x.pair_is x.stage_is x.core_is x.emits (λ is_marked. absurd (both_ways is_marked refl)))
    where
      born : (a b : End) → Link a b → Knows a → a.fresh ≡ true → a.cause ≡ None → Told b x.message → Good a b (is_born now x.start x.message.id a)
      born a b l knows fresh none (inl from) = good_is_born now x.start x.message.id a b fresh none from.0 (sync_id x.message.kind b x.message x.is_sync from.1) l knows
      born a b l knows fresh none (inr refusal) = absurd (both_ways x.is_sync (ap is_sync refusal.0))

  pub conv_steps : ConvFine t h n (of_end c e) → GiftFine t h n ev gift → Move now c e ev gift s → ConvStep k h n t (conv_trace s.state.stage s.state.core s.state s.outcome.emit t) s
  conv_steps fine gift_fine (Stay turn act st) = stay c.stage refl fine.0 fine.1 gift_fine turn act st
  conv_steps fine gift_fine (Begin b) = begin fine.1 b
  conv_steps fine gift_fine (Join j) = join fine.0 fine.1 gift_fine j
  conv_steps fine gift_fine (Come x) = come fine.1 gift_fine x
  conv_steps fine gift_fine (Listen o) = listen fine.0 fine.1 o
