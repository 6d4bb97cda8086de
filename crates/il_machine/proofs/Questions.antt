-- What a question with data is answered by.
use Rattle.std.proofs.Common.{◌≡◌, ℕ, Bool, true, false, length, subst, Option, Some, None, refl, ap, sym, ◌∙◌, nat_le, if◌then◌else◌, is_some}
use Rattle.net_base.specs.declared.il.IlKind.{IlKind}
use Rattle.net_base.specs.declared.il.IlKind.TheVariants.{Sync, Data, DataQuery, Ack, Query, State, Close}
use Rattle.net_base.specs.declared.il.IlMsg.{IlMsg}
use Rattle.net_base.specs.Number.{number}
use Rattle.net_base.specs.IlEnd.{End, Turn, rstart_of, emitting, accepts, acked_to, establishes, has_unacked, hears, hears_ack, waits_anew, acks}
use Rattle.net_base.specs.IlTable.{at_established}
use Rattle.il_machine.specs.Windows.{Windows, own_message, rstart_kept, windows_of}
use Rattle.il_machine.specs.Stands.{established_takes, is_new}
use Rattle.il_machine.proofs.Accepting.{accepts_both}

-- taking in a message leaves the other end's start
rstart_kept_by : (now : ℕ) (m : IlMsg) (e : End) → rstart_of (accepts m (hears_ack now m e)) ≡ rstart_of e
rstart_kept_by now m e = ap rstart_of (accepts_both m (hears_ack now m e)) ∙ kept_of (number e.start m.ack e.acked) (hears now e)
  where
    kept_if : (k : ℕ) (e' : End) (b : Bool) → rstart_of (if b then waits_anew now (acks now k e') else e') ≡ rstart_of e'
    kept_if k e' true = refl
    kept_if k e' false = refl

    kept_of : (o : Option ℕ) (e' : End) → rstart_of (acked_to now o e') ≡ rstart_of e'
    kept_of None e' = refl
    kept_of (Some k) e' = kept_if k e' (nat_le k (length e'.sent))

-- the kind of the answer
abbrev pub answer_kind : Bool → IlKind
answer_kind true = Ack
answer_kind false = State

abbrev pub answers : Bool → End → Turn
answers missing after = if missing then emitting Ack after else emitting State after

-- what is kept stands for the end after this turn, and says what it emits
abbrev pub Says : Windows → IlKind → Turn → Type 0
Says kept kind turn = (kept ≡ windows_of turn.end) × (Some (own_message kind kept) ≡ turn.emits)

answered_if : (after : End) (kept : Windows) (b : Bool) → kept ≡ windows_of after → Says kept (answer_kind b) (answers b after)
answered_if after kept true is = (is, ap (λ (w : Windows). Some (own_message Ack w)) is)
answered_if after kept false is = (is, ap (λ (w : Windows). Some (own_message State w)) is)

-- an ack where the message is still missing afterwards, else a state
pub question_answered : (now : ℕ) (m : IlMsg) (e : End) (kept : Windows) (kind : IlKind) (b : Bool) → kind ≡ DataQuery → kept ≡ windows_of (accepts m (hears_ack now m e))
    → b ≡ is_some (number (rstart_kept kept) m.id kept.got) → Says kept (answer_kind b) (at_established kind now m e)
question_answered now m e kept kind b is_question is missing =
    subst (λ (k : IlKind). Says kept (answer_kind b) (at_established k now m e)) (sym is_question)
    (subst (λ (t : Bool). Says kept (answer_kind b) (answers t taken)) same (answered_if taken kept b is))
  where
    taken : End
    taken = accepts m (hears_ack now m e)

    same : b ≡ is_some (number (rstart_of e) m.id (length (accepts m (hears_ack now m e)).got))
    same =
        missing
        ∙ ap (λ (w : Windows). is_some (number (rstart_kept w) m.id w.got)) is
        ∙ ap (λ r. is_some (number r m.id (length (accepts m (hears_ack now m e)).got))) (rstart_kept_by now m e)

-- Completing the handshake.

-- what is acknowledged doesn't hang on the state
acked_if : (now k : ℕ) (e after : End) (b : Bool) → after.acked ≡ e.acked → (if b then waits_anew now (acks now k after) else after).acked ≡ (if b then waits_anew now (acks now k e) else e).acked
acked_if now k e after true same = refl
acked_if now k e after false same = same

acked_alike : (now : ℕ) (o : Option ℕ) (e : End) → (acked_to now o (hears now (establishes (hears now e)))).acked ≡ (acked_to now o (hears now e)).acked
acked_alike now None e = refl
acked_alike now (Some k) e = acked_if now k (hears now e) (hears now (establishes (hears now e))) (nat_le k (length e.sent)) refl

kept_alike : (now : ℕ) (o : Option ℕ) (e : End) → is_new o (establishes (hears now e)) ≡ is_new o e
kept_alike now None e = refl
kept_alike now (Some k) e = refl

-- an end that becomes Established takes memory for what it took it for before
pub takes_alike : (kind : IlKind) (now : ℕ) (m : IlMsg) (e : End) → established_takes kind now m (establishes (hears now e)) ≡ established_takes kind now m e
takes_alike Sync now m e = refl
takes_alike Data now m e = kept_alike now (number (rstart_of e) m.id (length e.got)) e
takes_alike DataQuery now m e = kept_alike now (number (rstart_of e) m.id (length e.got)) e
takes_alike Ack now m e = refl
takes_alike Query now m e = refl
takes_alike State now m e = ap (λ k. has_unacked (record e { acked = k })) (acked_alike now (number e.start m.ack e.acked) e)
takes_alike Close now m e = refl
