-- An end is closed_by_peer by a close with spec 0 alone.
use Rattle.std.proofs.Common.{◌≡◌, ℕ, zero, suc, ◌+◌, ◌==◌, ◌&&◌, ◌||◌, nat_lt, nat_le, Bool, true, false, not, cond, List, length, Option, Some, None, is_some, ◌⊎◌, inl, inr, refl, sym, ap, ◌∙◌}
use Rattle.std.proofs.lemmas.Bool.{cond_both, eqb-true}
use Rattle.net_base.specs.declared.event.Event.{Event}
use Rattle.net_base.specs.declared.event.Event.TheVariants as event
use Rattle.net_base.specs.declared.history.With.{With}
use Rattle.net_base.specs.declared.history.With.TheVariants as given
use Rattle.net_base.specs.declared.il.IlKind.{IlKind}
use Rattle.net_base.specs.declared.il.IlKind.TheVariants.{Sync, Data, DataQuery, Ack, Query, State, Close}
use Rattle.net_base.specs.declared.il.IlMsg.{IlMsg}
use Rattle.net_base.specs.declared.il.IlState.{IlState}
use Rattle.net_base.specs.declared.il.IlState.TheVariants as state
use Rattle.net_base.specs.declared.packet.Body.TheVariants as body
use Rattle.net_base.specs.declared.packet.Packet.{Packet}
use Rattle.net_base.specs.declared.timer.Tick.{Tick}
use Rattle.net_base.specs.declared.timer.Tick.TheVariants as tick
use Rattle.net_base.specs.Conversation.{Conv}
use Rattle.net_base.specs.IlEnd.{End, Turn, rstart_of, has_unacked, backlog, silent, emitting, hears, establishes, acked_to, hears_ack, early_at, becomes_early, comes_in_turn, come_in_turn, accepts, starts, closes}
use Rattle.net_base.specs.IlTable.{is_sized, refuses, at_syncer, at_syncee, at_established, at_closing, at_closed, row, arrives, sends, writes, reads, first_unread, hangs_up_at, asks_again, ticks_to}
use Rattle.net_base.specs.Number.{number}
use Rattle.net_base.specs.Timer as timer
use Rattle.net_base.specs.Timer.{Timer}
use Rattle.prefix_law.proofs.ConvMoves.{Act, Rest, Arrival, Writing, Reading, Hanging, Ticking}

pub record MarkedAs (kind : IlKind) (spec : ℕ) (e : End) (t : Turn) : Type 0 where
  pub back : t.end.closed_by_peer ≡ true → (e.closed_by_peer ≡ true) ⊎ ((kind ≡ Close) × (spec ≡ 0))

same_marked : (kind : IlKind) (spec : ℕ) (e : End) (t : Turn) → t.end.closed_by_peer ≡ e.closed_by_peer → MarkedAs kind spec e t
same_marked kind spec e t is = record { back = λ h. inl (sym is ∙ h) }

marked_if : (kind : IlKind) (spec : ℕ) (e : End) (b : Bool) (x y : Turn) → (b ≡ true → MarkedAs kind spec e x) → (b ≡ false → MarkedAs kind spec e y) → MarkedAs kind spec e (cond b x y)
marked_if kind spec e b x y f g = cond_both b x y (λ (t : Turn). MarkedAs kind spec e t) f g

-- Parts of steps.

acked_marked : (now : ℕ) (found : Option ℕ) (e : End) → (acked_to now found e).closed_by_peer ≡ e.closed_by_peer
acked_marked now None e = refl
acked_marked now (Some k) e = cond_both (nat_le k (length e.sent)) _ _ (λ (x : End). x.closed_by_peer ≡ e.closed_by_peer) (λ _. refl) (λ _. refl)

ack_marked : (now : ℕ) (m : IlMsg) (e : End) → (hears_ack now m e).closed_by_peer ≡ e.closed_by_peer
ack_marked now m e = acked_marked now (number e.start m.ack e.acked) (hears now e)

early_marked : (found : Option ℕ) (text : List ℕ) (e : End) → (becomes_early found text e).closed_by_peer ≡ e.closed_by_peer
early_marked None text e = refl
early_marked (Some k) text e = cond_both (is_some (early_at k e.early) || nat_le 64 (backlog e)) _ _ (λ (x : End). x.closed_by_peer ≡ e.closed_by_peer) (λ _. refl) (λ _. refl)

turn_marked : (found : Option (List ℕ)) (e : End) → (comes_in_turn found e).closed_by_peer ≡ e.closed_by_peer
turn_marked None e = refl
turn_marked (Some text) e = refl

turns_marked : (n : ℕ) (e : End) → (come_in_turn n e).closed_by_peer ≡ e.closed_by_peer
turns_marked zero e = refl
turns_marked (suc n) e =
    turns_marked n (comes_in_turn (early_at (length e.got + 1) e.early) e) ∙ turn_marked (early_at (length e.got + 1) e.early) e

accepts_marked : (m : IlMsg) (e : End) → (accepts m e).closed_by_peer ≡ e.closed_by_peer
accepts_marked m e =
    let with_it = becomes_early (number (rstart_of e) m.id (length e.got)) m.text e in
    turns_marked (length with_it.early) with_it ∙ early_marked (number (rstart_of e) m.id (length e.got)) m.text e

-- Rows.

established_marked : (kind : IlKind) (now : ℕ) (m : IlMsg) (e : End) → MarkedAs kind m.spec e (at_established kind now m e)
established_marked Sync now m e =
    marked_if Sync m.spec e (m.id == rstart_of e) _ _ (λ _. same_marked Sync m.spec e (emitting Ack (hears now e)) refl) (λ _. same_marked Sync m.spec e (silent e) refl)
established_marked Data now m e = same_marked Data m.spec e (emitting Ack (accepts m (hears_ack now m e))) (accepts_marked m (hears_ack now m e) ∙ ack_marked now m e)
established_marked DataQuery now m e =
    let after = accepts m (hears_ack now m e) in
    let same : after.closed_by_peer ≡ e.closed_by_peer = accepts_marked m (hears_ack now m e) ∙ ack_marked now m e in
    marked_if DataQuery m.spec e (is_some (number (rstart_of e) m.id (length after.got))) _ _ (λ _. same_marked DataQuery m.spec e (emitting Ack after) same) (λ _. same_marked DataQuery m.spec e (emitting State after) same)
established_marked Ack now m e = same_marked Ack m.spec e (silent (hears_ack now m e)) (ack_marked now m e)
established_marked Query now m e = same_marked Query m.spec e (emitting State (hears_ack now m e)) (ack_marked now m e)
established_marked State now m e =
    marked_if State m.spec e (has_unacked (hears_ack now m e)) _ _ (λ _. record { back = λ h. inl (sym (ack_marked now m e) ∙ h) }) (λ _. same_marked State m.spec e (silent (hears_ack now m e)) (ack_marked now m e))
established_marked Close now m e =
    marked_if Close m.spec e (m.spec == 0) _ _ (λ is. record { back = λ _. inr (refl, eqb-true m.spec 0 is) }) (λ _. same_marked Close m.spec e (silent e) refl)

closing_marked : (kind : IlKind) (now : ℕ) (m : IlMsg) (e : End) → MarkedAs kind m.spec e (at_closing kind now m e)
closing_marked Sync now m e = same_marked Sync m.spec e (emitting Close (hears now e)) refl
closing_marked Data now m e = same_marked Data m.spec e (emitting Close (hears_ack now m e)) (ack_marked now m e)
closing_marked DataQuery now m e = same_marked DataQuery m.spec e (emitting Close (hears_ack now m e)) (ack_marked now m e)
closing_marked Query now m e = same_marked Query m.spec e (emitting Close (hears_ack now m e)) (ack_marked now m e)
closing_marked Ack now m e = same_marked Ack m.spec e (silent (hears_ack now m e)) (ack_marked now m e)
closing_marked State now m e =
    marked_if State m.spec e (has_unacked (hears_ack now m e)) _ _ (λ _. record { back = λ h. inl (sym (ack_marked now m e) ∙ h) }) (λ _. same_marked State m.spec e (emitting Close (hears_ack now m e)) (ack_marked now m e))
closing_marked Close now m e =
    marked_if Close m.spec e (m.spec == 0) _ _ (λ _. same_marked Close m.spec e (silent (closes e.cause (hears_ack now m e))) (ack_marked now m e)) (λ _. same_marked Close m.spec e (silent e) refl)

syncer_marked : (kind : IlKind) (now : ℕ) (m : IlMsg) (e : End) → MarkedAs kind m.spec e (at_syncer kind now m e)
syncer_marked Sync now m e = marked_if Sync m.spec e (m.ack == e.start) _ _ (λ _. record { back = λ h. inl h }) (λ _. record { back = λ h. inl h })
syncer_marked Close now m e = marked_if Close m.spec e ((m.spec == 1) && (m.ack == e.start)) _ _ (λ _. record { back = λ h. inl h }) (λ _. record { back = λ h. inl h })
syncer_marked kind now m e = record { back = λ h. inl h }

joins_marked : (kind : IlKind) (now : ℕ) (m : IlMsg) (e : End) → MarkedAs kind m.spec e (cond (not (refuses kind m.spec) && (m.ack == e.start)) (at_established kind now m (establishes (hears now e))) (silent e))
joins_marked kind now m e =
    marked_if kind m.spec e (not (refuses kind m.spec) && (m.ack == e.start)) (at_established kind now m (establishes (hears now e))) (silent e)
    (λ _. record { back = (established_marked kind now m (establishes (hears now e))).back }) (λ _. record { back = λ h. inl h })

syncee_marked : (kind : IlKind) (now : ℕ) (m : IlMsg) (e : End) → MarkedAs kind m.spec e (at_syncee kind now m e)
syncee_marked Sync now m e = marked_if Sync m.spec e (m.id == rstart_of e) _ _ (λ _. record { back = λ h. inl h }) (λ _. record { back = λ h. inl h })
syncee_marked kind now m e = joins_marked kind now m e

closed_marked : (kind : IlKind) (now : ℕ) (m : IlMsg) (e : End) → MarkedAs kind m.spec e (at_closed kind now m e)
closed_marked Close now m e = marked_if Close m.spec e (e.closed_by_peer && (m.spec == 0)) _ _ (λ _. record { back = λ h. inl h }) (λ _. record { back = λ h. inl h })
closed_marked kind now m e = record { back = λ h. inl h }

row_marked : (s : IlState) (kind : IlKind) (now : ℕ) (m : IlMsg) (e : End) → MarkedAs kind m.spec e (row s kind now m e)
row_marked state.Syncer kind now m e = syncer_marked kind now m e
row_marked state.Syncee kind now m e = syncee_marked kind now m e
row_marked state.Established kind now m e = established_marked kind now m e
row_marked state.Closing kind now m e = closing_marked kind now m e
row_marked state.Closed kind now m e = closed_marked kind now m e
row_marked state.Listening kind now m e = record { back = λ h. inl h }

arrives_marked : (now : ℕ) (m : IlMsg) (e : End) → MarkedAs m.kind m.spec e (arrives now m e)
arrives_marked now m e = marked_if m.kind m.spec e (is_sized m.kind (length m.text)) _ _ (λ _. row_marked e.state m.kind now m e) (λ _. record { back = λ h. inl h })

-- Other turns.

hangs_marked : (s : IlState) (now : ℕ) (e : End) → (hangs_up_at s now e).end.closed_by_peer ≡ e.closed_by_peer
hangs_marked state.Syncer now e = refl
hangs_marked state.Syncee now e = refl
hangs_marked state.Established now e = refl
hangs_marked state.Listening now e = refl
hangs_marked _ now e = refl

asks_marked : (s : IlState) (e : End) → (asks_again s e).end.closed_by_peer ≡ e.closed_by_peer
asks_marked state.Syncer e = refl
asks_marked state.Syncee e = refl
asks_marked state.Established e = refl
asks_marked state.Closing e = refl
asks_marked _ e = refl

ticks_marked : (emitting : Tick) (left : Timer) (e : End) → (ticks_to emitting left e).end.closed_by_peer ≡ e.closed_by_peer
ticks_marked tick.NotDue left e = refl
ticks_marked tick.TimedOut left e = refl
ticks_marked tick.Again left e = asks_marked e.state (record e { timer = left })

writes_marked : (now : ℕ) (text : List ℕ) (e : End) → (writes now text e).end.closed_by_peer ≡ e.closed_by_peer
writes_marked now text e = cond_both (has_unacked e) (sends now text e) (sends now text (starts now e)) (λ (t : Turn). t.end.closed_by_peer ≡ e.closed_by_peer) (λ _. refl) (λ _. refl)

reads_marked : (count : ℕ) (e : End) → (reads count e).closed_by_peer ≡ e.closed_by_peer
reads_marked count e = cond_both (nat_lt count (length (first_unread e))) _ _ (λ (x : End). x.closed_by_peer ≡ e.closed_by_peer) (λ _. refl) (λ _. refl)

-- a close with spec 0 comes to the conversation
pub record CloseComes (c : Conv) (ev : Event) (gift : With) : Type 0 where
  pub packet : Packet
  pub message : IlMsg
  pub event_is : ev ≡ event.ArriveAt c.generation
  pub given_is : gift ≡ given.Packet packet
  pub body_is : packet.body ≡ body.Il message
  pub kind_is : message.kind ≡ Close
  pub spec_is : message.spec ≡ 0

turned_marked : (c : Conv) (e : End) (ev : Event) (gift : With) (t u : Turn) → t ≡ u → u.end.closed_by_peer ≡ e.closed_by_peer → t.end.closed_by_peer ≡ true → (e.closed_by_peer ≡ true) ⊎ CloseComes c ev gift
turned_marked c e ev gift t u is same h = inl (sym same ∙ (sym (ap (λ (x : Turn). x.end.closed_by_peer) is) ∙ h))

pub act_marked : (now : ℕ) (c : Conv) (e : End) (ev : Event) (gift : With) (t : Turn) → Act now c e ev gift t → t.end.closed_by_peer ≡ true → (e.closed_by_peer ≡ true) ⊎ CloseComes c ev gift
act_marked now c e ev gift t (Rest is) h = turned_marked c e ev gift t (silent e) is refl h
act_marked now c e ev gift t (Arrival p m event_is gift_is body_is is) h =
    elim ((arrives_marked now m e).back (sym (ap (λ (x : Turn). x.end.closed_by_peer) is) ∙ h)) [
      | inl old ↦ inl old
      | inr close ↦ inr (record { packet = p; message = m; event_is = event_is; given_is = gift_is; body_is = body_is; kind_is = close.0; spec_is = close.1 })
    ]
act_marked now c e ev gift t (Writing text stage state_is is) h = turned_marked c e ev gift t (writes now text e) is (writes_marked now text e) h
act_marked now c e ev gift t (Reading count stage is) h = turned_marked c e ev gift t (silent (reads count e)) is (reads_marked count e) h
act_marked now c e ev gift t (Hanging is) h = turned_marked c e ev gift t (hangs_up_at e.state now e) is (hangs_marked e.state now e) h
act_marked now c e ev gift t (Ticking is) h =
    turned_marked c e ev gift t (ticks_to (timer.timer_ticks now e.timer).says (timer.timer_ticks now e.timer).timer e) is (ticks_marked (timer.timer_ticks now e.timer).says (timer.timer_ticks now e.timer).timer e) h
