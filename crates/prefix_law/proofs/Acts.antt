-- What the turns of an end do, linked or not.
use Rattle.std.proofs.Common.{◌≡◌, ℕ, ◌==◌, ◌&&◌, Bool, true, false, not, cond, [], length, Option, Some, None, ◌⊎◌, inl, inr, refl, sym, ap, subst, ◌∙◌, arith}
use Rattle.std.proofs.lemmas.Bool.{and_parts, eqb-true, eq-eqb, not-true}
use Rattle.std.proofs.lemmas.Option.{none-some}
use Rattle.net_base.specs.declared.event.Event.{Event}
use Rattle.net_base.specs.declared.event.Event.TheVariants as event
use Rattle.net_base.specs.declared.il.IlKind.{IlKind}
use Rattle.net_base.specs.declared.il.IlKind.TheVariants.{Close}
use Rattle.net_base.specs.declared.il.Cause.{Cause}
use Rattle.net_base.specs.declared.il.Cause.TheVariants as cause
use Rattle.net_base.specs.declared.il.IlMsg.{IlMsg}
use Rattle.net_base.specs.declared.il.IlState.{IlState}
use Rattle.net_base.specs.declared.il.IlState.TheVariants as state
use Rattle.net_base.specs.declared.packet.Body.TheVariants as body
use Rattle.net_base.specs.declared.packet.Packet.{Packet}
use Rattle.net_base.specs.declared.history.With.{With}
use Rattle.net_base.specs.declared.history.With.TheVariants as given
use Rattle.net_base.specs.IlEnd.{End, Turn, fresh_end, silent}
use Rattle.net_base.specs.IlTable.{is_sized, at_closed, row, arrives, hangs_up_at, ticks_to}
use Rattle.net_base.specs.declared.timer.Timers.{Timers}
use Rattle.net_base.specs.Timer as timer
use Rattle.net_base.specs.Timer.{ticks_at}
use Rattle.net_base.specs.Conversation.{Conv, Stage, Connected}
use Rattle.prefix_law.proofs.Talking.{Sound, Link, Knows, KnowsAs, Met, Good, good_if, good_same}
use Rattle.prefix_law.proofs.Rows.{Few, gets_cause, good_arrives}
use Rattle.prefix_law.proofs.Deeds.{both_ways, good_writes, good_reads, good_hangs_up_at, good_ticks}
use Rattle.prefix_law.proofs.ConvMoves.{is_connected, Act, Rest, Arrival, Writing, Reading, Hanging, Ticking}

-- a close that refuses a sync
abbrev pub Refusal : IlMsg → Type 0
Refusal m = (m.kind ≡ Close) × (m.spec ≡ 1)

-- a message that the other end said, or a refusal
abbrev pub Told : End → IlMsg → Type 0
Told e' m = ((e'.fresh ≡ false) × Sound e' m) ⊎ Refusal m

not_zero : (n : ℕ) → n ≡ 1 → (n == 0) ≡ true → ⊥
not_zero n is none = let e = eqb-true n 0 none in absurd (omega arith)

refusal_row : (s : IlState) (now : ℕ) (m : IlMsg) (e e' : End) → m.spec ≡ 1 → Link e e' → Knows e → Good e e' (row s Close now m e)
refusal_row state.Syncer now m e e' one l knows =
    good_if ((m.spec == 1) && (m.ack == e.start)) _ _
    (λ _. record { link = l; knows = (tt, λ h. ((knows.1 h).0, (cause.Refused, refl)), knows.2); grows = gets_cause e cause.Refused; says = tt })
    (λ _. good_same e e' l knows)
refusal_row state.Syncee now m e e' one l knows =
    good_if (not (m.spec == 1) && (m.ack == e.start)) _ _
    (λ may. absurd (both_ways (eq-eqb m.spec 1 one) (not-true (m.spec == 1) (and_parts (not (m.spec == 1)) (m.ack == e.start) may).0)))
    (λ _. good_same e e' l knows)
refusal_row state.Established now m e e' one l knows =
    good_if (m.spec == 0) _ _ (λ is. absurd (not_zero m.spec one is)) (λ _. good_same e e' l knows)
refusal_row state.Closing now m e e' one l knows =
    good_if (m.spec == 0) _ _ (λ is. absurd (not_zero m.spec one is)) (λ _. good_same e e' l knows)
refusal_row state.Closed now m e e' one l knows =
    good_if (e.closed_by_peer && (m.spec == 0)) _ _ (λ is. absurd (not_zero m.spec one (and_parts e.closed_by_peer (m.spec == 0) is).1)) (λ _. good_same e e' l knows)
refusal_row state.Listening now m e e' one l knows = good_same e e' l knows

good_refusal : (now : ℕ) (m : IlMsg) (e e' : End) → Refusal m → Link e e' → Knows e → Good e e' (arrives now m e)
good_refusal now m e e' refusal l knows =
    subst (λ (k : IlKind). Good e e' (cond (is_sized k (length m.text)) (row e.state k now m e) (silent e))) (sym refusal.0) (refusal_row e.state now m e e' refusal.1 l knows)

good_told : (now : ℕ) (m : IlMsg) (e e' : End) → Told e' m → Few e e' → Link e e' → Link e' e → Knows e → Good e e' (arrives now m e)
good_told now m e e' (inl from) few l back knows = good_arrives now m e e' few l back knows from.0 from.1
good_told now m e e' (inr refusal) few l back knows = good_refusal now m e e' refusal l knows

writer_met : (s : IlState) (rstart : Option ℕ) (fresh : Bool) (why : Option Cause) → s ≡ state.Established → KnowsAs s rstart fresh why → Met rstart fresh × (why ≡ None)
writer_met s rstart fresh why is knows = subst (λ (t : IlState). KnowsAs t rstart fresh why) is knows

-- a turn of a linked end keeps what holds
pub good_act : (now : ℕ) (c : Conv) (e e' : End) (ev : Event) (gift : With) (t : Turn) → Act now c e ev gift t → Few e e' → Link e e' → Link e' e → Knows e
    → ((p : Packet) (m : IlMsg) → ev ≡ event.ArriveAt c.generation → gift ≡ given.Packet p → p.body ≡ body.Il m → Told e' m) → Good e e' t
good_act now c e e' ev gift t (Rest is) few l back knows told = subst (λ (u : Turn). Good e e' u) (sym is) (good_same e e' l knows)
good_act now c e e' ev gift t (Arrival p m event_is gift_is body_is is) few l back knows told =
    subst (λ (u : Turn). Good e e' u) (sym is) (good_told now m e e' (told p m event_is gift_is body_is) few l back knows)
good_act now c e e' ev gift t (Writing text stage state_is is) few l back knows told =
    subst (λ (u : Turn). Good e e' u) (sym is) (let met = writer_met e.state e.rstart e.fresh e.cause state_is knows.0 in good_writes now text e e' met.0 met.1 l knows)
good_act now c e e' ev gift t (Reading count stage is) few l back knows told = subst (λ (u : Turn). Good e e' u) (sym is) (good_reads count e e' l knows)
good_act now c e e' ev gift t (Hanging is) few l back knows told = subst (λ (u : Turn). Good e e' u) (sym is) (good_hangs_up_at e.state now e e' l knows knows.0)
good_act now c e e' ev gift t (Ticking is) few l back knows told = subst (λ (u : Turn). Good e e' u) (sym is) (good_ticks (timer.timer_ticks now e.timer).says (timer.timer_ticks now e.timer).timer e e' l knows)

-- Ends that are not linked.

abbrev pub IdleAs : IlState → Type 0
IdleAs state.Closed = Unit {0}
IdleAs state.Listening = Unit {0}
IdleAs _ = ⊥

-- an end that never connected
abbrev pub Idle : End → Type 0
Idle e = IdleAs e.state × (e.closed_by_peer ≡ false) × (e.timer.due ≡ None) × (e.sent ≡ []) × (e.got ≡ []) × (e.acked ≡ 0)

idle_closed : (kind : IlKind) (now : ℕ) (m : IlMsg) (e : End) → e.closed_by_peer ≡ false → at_closed kind now m e ≡ silent e
idle_closed Close now m e unmarked = rw unmarked refl
idle_closed _ now m e unmarked = refl

idle_row : (s : IlState) (kind : IlKind) (now : ℕ) (m : IlMsg) (e : End) → IdleAs s → e.closed_by_peer ≡ false → row s kind now m e ≡ silent e
idle_row state.Closed kind now m e idle unmarked = idle_closed kind now m e unmarked
idle_row state.Listening _ now m e idle unmarked = refl
idle_row _ _ now m e idle unmarked = absurd idle

cond_same : {A : Type 0} (b : Bool) (x y z : A) → x ≡ z → y ≡ z → cond b x y ≡ z
cond_same true x y z f g = f
cond_same false x y z f g = g

idle_arrives : (now : ℕ) (m : IlMsg) (e : End) → Idle e → arrives now m e ≡ silent e
idle_arrives now m e idle = cond_same (is_sized m.kind (length m.text)) _ _ _ (idle_row e.state m.kind now m e idle.0 idle.1) refl

-- what an unlinked end does
pub record Quiet (t : Turn) : Type 0 where
  pub idle : Idle t.end
  pub emits_none : t.emits ≡ None

idle_hangs : (s : IlState) (now : ℕ) (e : End) → IdleAs s → Idle e → Quiet (hangs_up_at s now e)
idle_hangs state.Closed now e as_s idle = record { idle = idle; emits_none = refl }
idle_hangs state.Listening now e as_s idle = record { idle = (tt, idle.1, refl, idle.3, idle.4, idle.5); emits_none = refl }
idle_hangs _ now e as_s idle = absurd as_s

idle_ticks : (due : Option ℕ) (now : ℕ) (e : End) → due ≡ None → Idle e → Quiet (ticks_to (timer.ticks_at due now e.timer).says (timer.ticks_at due now e.timer).timer e)
idle_ticks None now e is idle = record { idle = idle; emits_none = refl }
idle_ticks (Some due) now e is idle = absurd (none-some due (sym is))

connected_stage : (s : Stage) → is_connected s ≡ false → s ≡ Connected → ⊥
connected_stage s not is = both_ways (ap is_connected is) not

pub idle_act : (now : ℕ) (c : Conv) (e : End) (ev : Event) (gift : With) (t : Turn) → Act now c e ev gift t → is_connected c.stage ≡ false → Idle e → Quiet t
idle_act now c e ev gift t (Rest is) not idle = subst (λ (u : Turn). Quiet u) (sym is) (record { idle = idle; emits_none = refl })
idle_act now c e ev gift t (Arrival p m event_is gift_is body_is is) not idle =
    subst (λ (u : Turn). Quiet u) (sym (is ∙ idle_arrives now m e idle)) (record { idle = idle; emits_none = refl })
idle_act now c e ev gift t (Writing text stage state_is is) not idle = absurd (connected_stage c.stage not stage)
idle_act now c e ev gift t (Reading count stage is) not idle = absurd (connected_stage c.stage not stage)
idle_act now c e ev gift t (Hanging is) not idle = subst (λ (u : Turn). Quiet u) (sym is) (idle_hangs e.state now e idle.0 idle)
idle_act now c e ev gift t (Ticking is) not idle = subst (λ (u : Turn). Quiet u) (sym is) (idle_ticks e.timer.due now e idle.2 idle)

pub fresh_idle : (k : Timers) → Idle (fresh_end k)
fresh_idle k = (tt, refl, refl, refl, refl, refl)

-- an end that is fresh with some timers is so with its own
pub fresh_again : (e : End) (k : Timers) → e ≡ fresh_end k → e ≡ fresh_end e.timer.timers
fresh_again e k is = is ∙ ap (λ (x : Timers). fresh_end x) (sym (ap (λ (x : End). x.timer.timers) is))

-- a fresh end stays fresh
pub fresh_act : (k : Timers) (now : ℕ) (c : Conv) (ev : Event) (gift : With) (t : Turn) → Act now c (fresh_end k) ev gift t → is_connected c.stage ≡ false → t ≡ silent (fresh_end k)
fresh_act k now c ev gift t (Rest is) not = is
fresh_act k now c ev gift t (Arrival p m event_is gift_is body_is is) not = is ∙ idle_arrives now m (fresh_end k) (fresh_idle k)
fresh_act k now c ev gift t (Writing text stage state_is is) not = absurd (connected_stage c.stage not stage)
fresh_act k now c ev gift t (Reading count stage is) not = absurd (connected_stage c.stage not stage)
fresh_act k now c ev gift t (Hanging is) not = is
fresh_act k now c ev gift t (Ticking is) not = is
