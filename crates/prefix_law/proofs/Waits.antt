-- What a step leaves of the moment at which an IL end is due: as it was, or beyond now.
use Rattle.std.proofs.Common.{◌≡◌, ℕ, zero, suc, ◌+◌, ◌*◌, ◌<◌, ◌==◌, ◌&&◌, ◌||◌, nat_lt, nat_le, min, Bool, true, false, not, cond, List, length, Option, Some, None, is_some, ◌⊎◌, inl, inr, refl, sym, subst, ◌∙◌, arith}
use Rattle.std.proofs.lemmas.Bool.{cond_both, ltb-true}
use Rattle.std.proofs.lemmas.Bool.Decides.{nat_tests}
use Rattle.net_base.specs.declared.il.IlKind.{IlKind}
use Rattle.net_base.specs.declared.il.IlKind.TheVariants.{Sync, Data, DataQuery, Ack, Query, State, Close}
use Rattle.net_base.specs.declared.il.IlMsg.{IlMsg}
use Rattle.net_base.specs.declared.il.IlState.{IlState}
use Rattle.net_base.specs.declared.il.IlState.TheVariants.{Closed, Syncer, Syncee, Established, Listening, Closing}
use Rattle.net_base.specs.declared.timer.Probe.{Probe}
use Rattle.net_base.specs.declared.timer.Timers.{Timers}
use Rattle.net_base.specs.declared.timer.Timers.TheVariants.{Fixed, Measured}
use Rattle.net_base.specs.Number.{number}
use Rattle.net_base.specs.IlEnd.{End, Turn, rstart_of, recvd, has_unacked, backlog, silent, hears, establishes, acked_to, hears_ack, early_at, becomes_early, comes_in_turn, come_in_turn, accepts, is_closing}
use Rattle.net_base.specs.IlTable.{is_sized, refuses, at_established, at_syncer, at_syncee, at_closing, at_closed, row, arrives, hangs_up_at, hangs_up, asks_again, ticks_to, ticks, writes, reads, first_unread}
use Rattle.net_base.specs.Timer as timer
use Rattle.net_base.specs.Timer.{Timer, Ticked}

-- beyond a moment, or never
abbrev pub Beyond : ℕ → Option ℕ → Type 0
Beyond now None = Unit {0}
Beyond now (Some due) = now < due

-- what is due has waited for a while
abbrev pub Runs : Option ℕ → ℕ → Type 0
Runs None interval = Unit {0}
Runs (Some due) interval = 0 < interval

-- a timer that a step at this moment leaves
pub record Later (now : ℕ) (t u : Timer) : Type 0 where
  pub runs : Runs t.due t.interval → Runs u.due u.interval
  pub due : (u.due ≡ t.due) ⊎ Beyond now u.due

pub kept : (now : ℕ) (t u : Timer) → u.due ≡ t.due → u.interval ≡ t.interval → Later now t u
kept now t u due interval = record {
  runs = λ r. subst (λ (o : Option ℕ). Runs o u.interval) (sym due) (subst (λ (n : ℕ). Runs t.due n) (sym interval) r);
  due = inl due;
}

halts : (now : ℕ) (t u : Timer) → u.due ≡ None → Later now t u
halts now t u none = record {
  runs = λ r. subst (λ (o : Option ℕ). Runs o u.interval) (sym none) tt;
  due = inr (subst (λ (o : Option ℕ). Beyond now o) (sym none) tt);
}

-- an end waits for a while, whatever round trips were measured
pub some_base : (kind : Timers) (measured : Bool) (mean dev : ℕ) → 0 < timer.base_by kind measured mean dev
some_base Fixed measured mean dev = omega arith
some_base Measured false mean dev = omega arith
some_base Measured true mean dev = omega arith

pub restarts : (now : ℕ) (t u : Timer) → 0 < u.interval → u.due ≡ Some (now + u.interval) → Later now t u
restarts now t u some due = record {
  runs = λ r. subst (λ (o : Option ℕ). Runs o u.interval) (sym due) some;
  due = inr (subst (λ (o : Option ℕ). Beyond now o) (sym due) (omega (arith, some)));
}

both_later : (now : ℕ) (t u v : Timer) → Later now t u → Later now u v → Later now t v
both_later now t u v one two = record {
  runs = λ r. two.runs (one.runs r);
  due = elim two.due [
    | inr beyond ↦ inr beyond
    | inl same ↦ elim one.due [
      | inl before ↦ inl (same ∙ before)
      | inr beyond ↦ inr (subst (λ (o : Option ℕ). Beyond now o) (sym same) beyond)
    ]
  ];
}

-- Ends.

abbrev pub EndLater : ℕ → End → End → Type 0
EndLater now e f = Later now e.timer f.timer

pub end_kept : (now : ℕ) (e : End) → EndLater now e e
end_kept now e = kept now e.timer e.timer refl refl

turn_if : (now : ℕ) (e : End) (b : Bool) (x y : Turn) → EndLater now e x.end → EndLater now e y.end → EndLater now e (cond b x y).end
turn_if now e b x y f g = cond_both b x y (λ (t : Turn). EndLater now e t.end) (λ _. f) (λ _. g)

starts_later : (now : ℕ) (t : Timer) → Later now t (timer.timer_starts now t)
starts_later now t = restarts now t (timer.timer_starts now t) (some_base t.timers t.measured t.mean t.dev) refl

-- a message is sent, and the timer starts before
sent_later : (now k : ℕ) (t : Timer) → Later now t (timer.timer_sends now k (timer.timer_starts now t))
sent_later now k t = restarts now t _ (some_base t.timers t.measured t.mean t.dev) refl

moves_later : (now : ℕ) (b : Bool) (t : Timer) → Later now t (timer.timer_moves now b t)
moves_later now true t = restarts now t (timer.timer_moves now true t) (some_base t.timers t.measured t.mean t.dev) refl
moves_later now false t = halts now t (timer.timer_moves now false t) refl

-- a round trip that is measured changes nothing of what is due
measured_later : (now s : ℕ) (b : Bool) (t : Timer) → Later now t (timer.measures s (record t { measured = b }))
measured_later now s true t = kept now t _ refl refl
measured_later now s false t = kept now t _ refl refl

acks_later : (now k : ℕ) (probe : Option Probe) (t : Timer) → Later now t (timer.acks_probe probe now k t)
acks_later now k None t = kept now t t refl refl
acks_later now k (Some probe) t =
    cond_both (nat_le probe.k k) _ _ (λ (u : Timer). Later now t u) (λ _. measured_later now (timer.round_trip now probe.at) t.measured t) (λ _. kept now t t refl refl)

acked_later : (now : ℕ) (found : Option ℕ) (e f : End) → EndLater now e f → EndLater now e (acked_to now found f)
acked_later now None e f l = l
acked_later now (Some k) e f l =
    cond_both (nat_le k (length f.sent)) _ _ (λ (x : End). EndLater now e x)
    (λ _. both_later now e.timer f.timer _ l
    (both_later now f.timer (timer.timer_acks now k f.timer) _ (acks_later now k f.timer.probe f.timer)
    (moves_later now (has_unacked (record f { acked = k }) || is_closing f.state) (timer.timer_acks now k f.timer))))
    (λ _. l)

heard : (now : ℕ) (m : IlMsg) (e : End) → EndLater now e (hears_ack now m e)
heard now m e = acked_later now (number e.start m.ack e.acked) e (hears now e) (kept now e.timer (hears now e).timer refl refl)

early_timer : (found : Option ℕ) (text : List ℕ) (e : End) → (becomes_early found text e).timer ≡ e.timer
early_timer None text e = refl
early_timer (Some k) text e =
    cond_both (is_some (early_at k e.early) || nat_le 64 (backlog e)) _ _ (λ (x : End). x.timer ≡ e.timer) (λ _. refl) (λ _. refl)

turn_timer : (found : Option (List ℕ)) (e : End) → (comes_in_turn found e).timer ≡ e.timer
turn_timer None e = refl
turn_timer (Some text) e = refl

turns_timer : (n : ℕ) (e : End) → (come_in_turn n e).timer ≡ e.timer
turns_timer zero e = refl
turns_timer (suc n) e =
    let found = early_at (length e.got + 1) e.early in
    turns_timer n (comes_in_turn found e) ∙ turn_timer found e

accepts_timer : (m : IlMsg) (e : End) → (accepts m e).timer ≡ e.timer
accepts_timer m e =
    let found = number (rstart_of e) m.id (length e.got) in
    let with_it = becomes_early found m.text e in
    turns_timer (length with_it.early) with_it ∙ early_timer found m.text e

accepted : (now : ℕ) (m : IlMsg) (e : End) → EndLater now e (accepts m (hears_ack now m e))
accepted now m e = subst (λ (t : Timer). Later now e.timer t) (sym (accepts_timer m (hears_ack now m e))) (heard now m e)

established_later : (kind : IlKind) (now : ℕ) (m : IlMsg) (e : End) → EndLater now e (at_established kind now m e).end
established_later Sync now m e = turn_if now e (m.id == rstart_of e) _ _ (kept now e.timer (hears now e).timer refl refl) (end_kept now e)
established_later Data now m e = accepted now m e
established_later DataQuery now m e =
    let after = accepts m (hears_ack now m e) in
    turn_if now e (is_some (number (rstart_of e) m.id (length after.got))) _ _ (accepted now m e) (accepted now m e)
established_later Ack now m e = heard now m e
established_later Query now m e = heard now m e
established_later State now m e =
    turn_if now e (has_unacked (hears_ack now m e)) _ _ (heard now m e) (heard now m e)
established_later Close now m e =
    turn_if now e (m.spec == 0) _ _
    (turn_if now e (m.id == recvd e) _ _ (halts now e.timer _ refl) (heard now m e))
    (end_kept now e)

syncer_later : (kind : IlKind) (now : ℕ) (m : IlMsg) (e : End) → EndLater now e (at_syncer kind now m e).end
syncer_later Sync now m e = turn_if now e (m.ack == e.start) _ _ (halts now e.timer _ refl) (end_kept now e)
syncer_later Close now m e = turn_if now e ((m.spec == 1) && (m.ack == e.start)) _ _ (halts now e.timer _ refl) (end_kept now e)
syncer_later _ now m e = end_kept now e

met_later : (kind : IlKind) (now : ℕ) (m : IlMsg) (e : End) → EndLater now e (cond (not (refuses kind m.spec) && (m.ack == e.start)) (at_established kind now m (establishes (hears now e))) (silent e)).end
met_later kind now m e =
    turn_if now e (not (refuses kind m.spec) && (m.ack == e.start)) _ _
    (both_later now e.timer (establishes (hears now e)).timer _ (halts now e.timer _ refl) (established_later kind now m (establishes (hears now e))))
    (end_kept now e)

syncee_later : (kind : IlKind) (now : ℕ) (m : IlMsg) (e : End) → EndLater now e (at_syncee kind now m e).end
syncee_later Sync now m e = turn_if now e (m.id == rstart_of e) _ _ (kept now e.timer (hears now e).timer refl refl) (end_kept now e)
syncee_later Data now m e = met_later Data now m e
syncee_later DataQuery now m e = met_later DataQuery now m e
syncee_later Ack now m e = met_later Ack now m e
syncee_later Query now m e = met_later Query now m e
syncee_later State now m e = met_later State now m e
syncee_later Close now m e = met_later Close now m e

closing_later : (kind : IlKind) (now : ℕ) (m : IlMsg) (e : End) → EndLater now e (at_closing kind now m e).end
closing_later Sync now m e = kept now e.timer (hears now e).timer refl refl
closing_later Data now m e = heard now m e
closing_later DataQuery now m e = heard now m e
closing_later Query now m e = heard now m e
closing_later Ack now m e = heard now m e
closing_later State now m e = turn_if now e (has_unacked (hears_ack now m e)) _ _ (heard now m e) (heard now m e)
closing_later Close now m e = turn_if now e (m.spec == 0) _ _ (halts now e.timer _ refl) (end_kept now e)

closed_later : (kind : IlKind) (now : ℕ) (m : IlMsg) (e : End) → EndLater now e (at_closed kind now m e).end
closed_later Close now m e = turn_if now e (e.closed_by_peer && (m.spec == 0)) _ _ (kept now e.timer (hears now e).timer refl refl) (end_kept now e)
closed_later _ now m e = end_kept now e

row_later : (s : IlState) (kind : IlKind) (now : ℕ) (m : IlMsg) (e : End) → EndLater now e (row s kind now m e).end
row_later Syncer kind now m e = syncer_later kind now m e
row_later Syncee kind now m e = syncee_later kind now m e
row_later Established kind now m e = established_later kind now m e
row_later Closing kind now m e = closing_later kind now m e
row_later Closed kind now m e = closed_later kind now m e
row_later Listening kind now m e = end_kept now e

pub arrives_later : (now : ℕ) (m : IlMsg) (e : End) → EndLater now e (arrives now m e).end
arrives_later now m e = turn_if now e (is_sized m.kind (length m.text)) _ _ (row_later e.state m.kind now m e) (end_kept now e)

hangs_later : (s : IlState) (now : ℕ) (e : End) → EndLater now e (hangs_up_at s now e).end
hangs_later Syncer now e = halts now e.timer _ refl
hangs_later Syncee now e = starts_later now e.timer
hangs_later Established now e = starts_later now e.timer
hangs_later Listening now e = halts now e.timer _ refl
hangs_later _ now e = end_kept now e

pub hangs_up_later : (now : ℕ) (e : End) → EndLater now e (hangs_up now e).end
hangs_up_later now e = hangs_later e.state now e

pub writes_later : (now : ℕ) (text : List ℕ) (e : End) → EndLater now e (writes now text e).end
writes_later now text e = turn_if now e (has_unacked e) _ _ (kept now e.timer _ refl refl) (sent_later now (length e.sent + 1) e.timer)

pub reads_later : (now count : ℕ) (e : End) → EndLater now e (reads count e)
reads_later now count e = cond_both (nat_lt count (length (first_unread e))) _ _ (λ (x : End). EndLater now e x) (λ _. end_kept now e) (λ _. end_kept now e)

-- Ticks: where a tick came, the end isn't due any longer.

abbrev pub Waits : ℕ → Timer → Type 0
Waits now t = Runs t.due t.interval × Beyond now t.due

pub waits_later : (now : ℕ) (t u : Timer) → Waits now u → Later now t u
waits_later now t u waits = record { runs = λ r. waits.0; due = inr waits.1 }

below_min : (n a b : ℕ) → n < a → n < b → n < min a b
below_min n a b one two = grind (arith)

asked_end : (s : IlState) (e : End) → (asks_again s e).end ≡ e
asked_end Syncer e = refl
asked_end Syncee e = refl
asked_end Established e = refl
asked_end Closing e = refl
asked_end Closed e = refl
asked_end Listening e = refl

doubled : (now : ℕ) (t : Timer) → 0 < t.interval → now < timer.gives_up_at t → Waits now (timer.doubles now t)
doubled now t runs before =
    let more : 0 < min (2 * t.interval) 8000 = below_min 0 (2 * t.interval) 8000 (omega (arith, runs)) (omega arith) in
    (more, below_min now (now + min (2 * t.interval) 8000) (timer.gives_up_at t) (omega (arith, more)) before)

ticked : (now : ℕ) (e : End) (due : Option ℕ) → e.timer.due ≡ due → Runs due e.timer.interval → Waits now (ticks_to (timer.ticks_at due now e.timer).says (timer.ticks_at due now e.timer).timer e).end.timer
ticked now e None is runs =
    (subst (λ (o : Option ℕ). Runs o e.timer.interval) (sym is) tt, subst (λ (o : Option ℕ). Beyond now o) (sym is) tt)
ticked now e (Some due) is runs =
    cond_both (nat_lt now due) _ _ (λ (x : Ticked). Waits now (ticks_to x.says x.timer e).end.timer)
    (λ before. (subst (λ (o : Option ℕ). Runs o e.timer.interval) (sym is) runs, subst (λ (o : Option ℕ). Beyond now o) (sym is) (ltb-true now due before)))
    (λ come. cond_both (nat_le (timer.gives_up_at e.timer) now) _ _ (λ (x : Ticked). Waits now (ticks_to x.says x.timer e).end.timer)
    (λ late. (tt, tt))
    (λ early. subst (λ (f : End). Waits now f.timer) (sym (asked_end e.state (record e { timer = timer.doubles now e.timer })))
    (doubled now e.timer runs (grind (arith, nat_tests)))))

pub ticks_wait : (now : ℕ) (e : End) → Runs e.timer.due e.timer.interval → Waits now (ticks now e).end.timer
ticks_wait now e runs = ticked now e e.timer.due refl runs
