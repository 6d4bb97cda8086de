-- What comes in, a hangup and the timer leave what was written and read as it was.
use Rattle.std.proofs.Common.{◌≡◌, ℕ, zero, suc, ◌+◌, ◌==◌, ◌&&◌, ◌||◌, nat_le, Bool, true, not, cond, List, [], ◌∷◌, length, Option, Some, None, is_some, refl}
use Rattle.std.proofs.lemmas.Bool.{cond_both}
use Rattle.net_base.specs.declared.il.IlKind.{IlKind}
use Rattle.net_base.specs.declared.il.IlKind.TheVariants.{Sync, Data, DataQuery, Ack, Query, State, Close}
use Rattle.net_base.specs.declared.il.IlMsg.{IlMsg}
use Rattle.net_base.specs.declared.il.IlState.{IlState}
use Rattle.net_base.specs.declared.il.IlState.TheVariants.{Closed, Syncer, Syncee, Established, Listening, Closing}
use Rattle.net_base.specs.declared.il.Cause.TheVariants as cause
use Rattle.net_base.specs.Number.{number}
use Rattle.net_base.specs.IlEnd.{End, Turn, rstart_of, recvd, has_unacked, backlog, silent, emitting, hears, establishes, closes, acked_to, hears_ack, early_at, becomes_early, comes_in_turn, come_in_turn, accepts}
use Rattle.net_base.specs.IlTable.{is_sized, refuses, at_established, at_syncer, at_syncee, at_closing, at_closed, row, arrives, hangs_up_at, asks_again, ticks_to}
use Rattle.net_base.specs.declared.timer.Tick.{Tick}
use Rattle.net_base.specs.declared.timer.Tick.TheVariants as tick
use Rattle.net_base.specs.Timer.{Timer}
use Rattle.prefix_law.proofs.Begins.{Begins, begins_itself, begins_more}

pub record Left (sent sent' got got' : List (List ℕ)) (taken taken' cut cut' : ℕ) (closed_by_peer closed_by_peer' : Bool) : Type 0 where
  pub sent_is : sent' ≡ sent
  pub taken_is : taken' ≡ taken
  pub cut_is : cut' ≡ cut
  pub got_more : Begins got got'
  pub marked_stays : closed_by_peer ≡ true → closed_by_peer' ≡ true

abbrev pub Leaves : End → End → Type 0
Leaves e e' = Left e.sent e'.sent e.got e'.got e.read_count e'.read_count e.read_offset e'.read_offset e.closed_by_peer e'.closed_by_peer

pub leaves_itself : (e : End) → Leaves e e
leaves_itself e = record { sent_is = refl; taken_is = refl; cut_is = refl; got_more = begins_itself e.got; marked_stays = λ h. h }

pub record LeavesAt (e : End) (t : Turn) : Type 0 where
  pub leaves : Leaves e t.end

leaves_if : (e : End) (b : Bool) (x y : Turn) → LeavesAt e x → LeavesAt e y → LeavesAt e (cond b x y)
leaves_if e b x y f g = cond_both b x y (λ (t : Turn). LeavesAt e t) (λ _. f) (λ _. g)

acked_leaves : (now : ℕ) (found : Option ℕ) (e0 e : End) → Leaves e0 e → Leaves e0 (acked_to now found e)
acked_leaves now None e0 e l = l
acked_leaves now (Some k) e0 e l = cond_both (nat_le k (length e.sent)) _ _ (λ (x : End). Leaves e0 x) (λ _. l) (λ _. l)

pub ack_leaves : (now : ℕ) (m : IlMsg) (e0 e : End) → Leaves e0 e → Leaves e0 (hears_ack now m e)
ack_leaves now m e0 e l = acked_leaves now (number e.start m.ack e.acked) e0 (hears now e) l

early_leaves : (found : Option ℕ) (text : List ℕ) (e0 e : End) → Leaves e0 e → Leaves e0 (becomes_early found text e)
early_leaves None text e0 e l = l
early_leaves (Some k) text e0 e l = cond_both (is_some (early_at k e.early) || nat_le 64 (backlog e)) _ _ (λ (x : End). Leaves e0 x) (λ _. l) (λ _. l)

turn_leaves : (found : Option (List ℕ)) (e0 e : End) → Leaves e0 e → Leaves e0 (comes_in_turn found e)
turn_leaves None e0 e l = l
turn_leaves (Some text) e0 e l = record { sent_is = l.sent_is; taken_is = l.taken_is; cut_is = l.cut_is; got_more = λ k u h. begins_more e.got (text ∷ []) k u (l.got_more k u h); marked_stays = l.marked_stays }

turns_leave : (n : ℕ) (e0 e : End) → Leaves e0 e → Leaves e0 (come_in_turn n e)
turns_leave zero e0 e l = l
turns_leave (suc n) e0 e l = turns_leave n e0 (comes_in_turn (early_at (length e.got + 1) e.early) e) (turn_leaves (early_at (length e.got + 1) e.early) e0 e l)

accepts_leaves : (m : IlMsg) (e0 e : End) → Leaves e0 e → Leaves e0 (accepts m e)
accepts_leaves m e0 e l =
    let with_it = becomes_early (number (rstart_of e) m.id (length e.got)) m.text e in
    turns_leave (length with_it.early) e0 with_it (early_leaves (number (rstart_of e) m.id (length e.got)) m.text e0 e l)

at_leaves : (e0 : End) (t : Turn) → Leaves e0 t.end → LeavesAt e0 t
at_leaves e0 t l = record { leaves = l }

established_leaves : (kind : IlKind) (now : ℕ) (m : IlMsg) (e0 e : End) → Leaves e0 e → LeavesAt e0 (at_established kind now m e)
established_leaves Sync now m e0 e l = leaves_if e0 (m.id == rstart_of e) _ _ (at_leaves e0 (emitting Ack (hears now e)) l) (at_leaves e0 (silent e) l)
established_leaves Data now m e0 e l = at_leaves e0 (emitting Ack (accepts m (hears_ack now m e))) (accepts_leaves m e0 (hears_ack now m e) (ack_leaves now m e0 e l))
established_leaves DataQuery now m e0 e l =
    let after = accepts m (hears_ack now m e) in
    let x = accepts_leaves m e0 (hears_ack now m e) (ack_leaves now m e0 e l) in
    leaves_if e0 (is_some (number (rstart_of e) m.id (length after.got))) _ _ (at_leaves e0 (emitting Ack after) x) (at_leaves e0 (emitting State after) x)
established_leaves Ack now m e0 e l = at_leaves e0 (silent (hears_ack now m e)) (ack_leaves now m e0 e l)
established_leaves Query now m e0 e l = at_leaves e0 (emitting State (hears_ack now m e)) (ack_leaves now m e0 e l)
established_leaves State now m e0 e l =
    let x = ack_leaves now m e0 e l in
    leaves_if e0 (has_unacked (hears_ack now m e)) _ _ (record { leaves = x }) (at_leaves e0 (silent (hears_ack now m e)) x)
established_leaves Close now m e0 e l =
    let x = ack_leaves now m e0 e l in
    leaves_if e0 (m.spec == 0) _ _
    (leaves_if e0 (m.id == recvd e) _ _ (at_leaves e0 (emitting Close (closes (Some cause.ByPeer) (record (hears_ack now m e) { closed_by_peer = true }))) (record { sent_is = x.sent_is; taken_is = x.taken_is; cut_is = x.cut_is; got_more = x.got_more; marked_stays = λ _. refl })) (at_leaves e0 (emitting State (hears_ack now m e)) x))
    (at_leaves e0 (silent e) l)

closing_leaves : (kind : IlKind) (now : ℕ) (m : IlMsg) (e : End) → LeavesAt e (at_closing kind now m e)
closing_leaves Sync now m e = record { leaves = leaves_itself e }
closing_leaves Ack now m e = at_leaves e (silent (hears_ack now m e)) (ack_leaves now m e e (leaves_itself e))
closing_leaves State now m e =
    let x = ack_leaves now m e e (leaves_itself e) in
    leaves_if e (has_unacked (hears_ack now m e)) _ _ (record { leaves = x }) (at_leaves e (emitting Close (hears_ack now m e)) x)
closing_leaves Close now m e =
    leaves_if e (m.spec == 0) _ _ (at_leaves e (silent (closes e.cause (hears_ack now m e))) (ack_leaves now m e e (leaves_itself e))) (at_leaves e (silent e) (leaves_itself e))
closing_leaves _ now m e = at_leaves e (emitting Close (hears_ack now m e)) (ack_leaves now m e e (leaves_itself e))

syncer_leaves : (kind : IlKind) (now : ℕ) (m : IlMsg) (e : End) → LeavesAt e (at_syncer kind now m e)
syncer_leaves Sync now m e = leaves_if e (m.ack == e.start) _ _ (record { leaves = leaves_itself e }) (record { leaves = leaves_itself e })
syncer_leaves Close now m e = leaves_if e ((m.spec == 1) && (m.ack == e.start)) _ _ (record { leaves = leaves_itself e }) (record { leaves = leaves_itself e })
syncer_leaves _ now m e = record { leaves = leaves_itself e }

joins_leaves : (kind : IlKind) (now : ℕ) (m : IlMsg) (e : End) → LeavesAt e (cond (not (refuses kind m.spec) && (m.ack == e.start)) (at_established kind now m (establishes (hears now e))) (silent e))
joins_leaves kind now m e =
    leaves_if e (not (refuses kind m.spec) && (m.ack == e.start)) (at_established kind now m (establishes (hears now e))) (silent e)
    (established_leaves kind now m e (establishes (hears now e)) (leaves_itself e)) (record { leaves = leaves_itself e })

syncee_leaves : (kind : IlKind) (now : ℕ) (m : IlMsg) (e : End) → LeavesAt e (at_syncee kind now m e)
syncee_leaves Sync now m e = leaves_if e (m.id == rstart_of e) _ _ (record { leaves = leaves_itself e }) (record { leaves = leaves_itself e })
syncee_leaves kind now m e = joins_leaves kind now m e

closed_leaves : (kind : IlKind) (now : ℕ) (m : IlMsg) (e : End) → LeavesAt e (at_closed kind now m e)
closed_leaves Close now m e = leaves_if e (e.closed_by_peer && (m.spec == 0)) _ _ (record { leaves = leaves_itself e }) (record { leaves = leaves_itself e })
closed_leaves _ now m e = record { leaves = leaves_itself e }

row_leaves : (s : IlState) (kind : IlKind) (now : ℕ) (m : IlMsg) (e : End) → LeavesAt e (row s kind now m e)
row_leaves Syncer kind now m e = syncer_leaves kind now m e
row_leaves Syncee kind now m e = syncee_leaves kind now m e
row_leaves Established kind now m e = established_leaves kind now m e e (leaves_itself e)
row_leaves Closing kind now m e = closing_leaves kind now m e
row_leaves Closed kind now m e = closed_leaves kind now m e
row_leaves Listening kind now m e = record { leaves = leaves_itself e }

pub arrives_leaves : (now : ℕ) (m : IlMsg) (e : End) → LeavesAt e (arrives now m e)
arrives_leaves now m e = leaves_if e (is_sized m.kind (length m.text)) _ _ (row_leaves e.state m.kind now m e) (record { leaves = leaves_itself e })

pub hangs_leaves : (s : IlState) (now : ℕ) (e : End) → LeavesAt e (hangs_up_at s now e)
hangs_leaves Syncer now e = record { leaves = leaves_itself e }
hangs_leaves Listening now e = record { leaves = leaves_itself e }
hangs_leaves Syncee now e = record { leaves = leaves_itself e }
hangs_leaves Established now e = record { leaves = leaves_itself e }
hangs_leaves _ now e = record { leaves = leaves_itself e }

asks_leaves : (s : IlState) (e0 e : End) → Leaves e0 e → LeavesAt e0 (asks_again s e)
asks_leaves Syncer e0 e l = record { leaves = l }
asks_leaves Syncee e0 e l = record { leaves = l }
asks_leaves Established e0 e l = record { leaves = l }
asks_leaves Closing e0 e l = record { leaves = l }
asks_leaves _ e0 e l = record { leaves = l }

pub ticks_leaves : (emitting : Tick) (left : Timer) (e : End) → LeavesAt e (ticks_to emitting left e)
ticks_leaves tick.NotDue left e = record { leaves = leaves_itself e }
ticks_leaves tick.TimedOut left e = record { leaves = leaves_itself e }
ticks_leaves tick.Again left e = asks_leaves e.state e (record e { timer = left }) (leaves_itself e)
