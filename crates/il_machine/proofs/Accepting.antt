-- What accepting a message changes, and what it doesn't.
use Rattle.std.proofs.Common.{arith, subst, ◌≡◌, ℕ, zero, suc, ◌+◌, Bool, true, false, List, [], ◌∷◌, ◌++◌, length, Option, Some, None, refl, ap, sym, ◌∙◌, nat_le, if◌then◌else◌, ◌||◌, is_some}
use Rattle.net_base.specs.declared.il.IlMsg.{IlMsg}
use Rattle.net_base.specs.Number.{number}
use Rattle.net_base.specs.Timer.{Timer}
use Rattle.net_base.specs.IlEnd.{End, rstart_of, backlog, early_at, without_early, becomes_early, comes_in_turn, come_in_turn, accepts, acked_to, hears, hears_ack, waits_anew, acks}
use Rattle.il_machine.specs.InTurn.{in_turn, with_turned}
use Rattle.il_machine.specs.Windows.{AreWithin, Windows, rstart_kept, windows_of}
use Rattle.il_machine.proofs.InTurn.{moves_in_turn, none_moves}
use Rattle.il_machine.proofs.Near.{none_below}

-- only got and early change
abbrev pub ChangesBoth : End → End → Type 0
ChangesBoth e after = after ≡ record e { got = after.got; early = after.early }

both_if : (n : ℕ) (e : End) (o : Option (List ℕ)) → ((e' : End) → ChangesBoth e' (come_in_turn n e')) → ChangesBoth e (come_in_turn n (comes_in_turn o e))
both_if n e None rest = rest e
both_if n e (Some text) rest = rest (record e { got = e.got ++ text ∷ []; early = without_early (length e.got + 1) e.early })

both_in_turn : (n : ℕ) (e : End) → ChangesBoth e (come_in_turn n e)
both_in_turn zero e = refl
both_in_turn (suc n) e = both_if n e (early_at (length e.got + 1) e.early) (both_in_turn n)

-- the end with this many acknowledged, and this timer
abbrev pub stamped : ℕ → Timer → End → End
stamped acked t e = record e { acked = acked; timer = t }

stamped_if : (n acked : ℕ) (t : Timer) (e : End) (o : Option (List ℕ)) → ((e' : End) → come_in_turn n (stamped acked t e') ≡ stamped acked t (come_in_turn n e'))
    → come_in_turn n (comes_in_turn o (stamped acked t e)) ≡ stamped acked t (come_in_turn n (comes_in_turn o e))
stamped_if n acked t e None rest = rest e
stamped_if n acked t e (Some text) rest = rest (record e { got = e.got ++ text ∷ []; early = without_early (length e.got + 1) e.early })

stamped_in_turn : (n acked : ℕ) (t : Timer) (e : End) → come_in_turn n (stamped acked t e) ≡ stamped acked t (come_in_turn n e)
stamped_in_turn zero acked t e = refl
stamped_in_turn (suc n) acked t e = stamped_if n acked t e (early_at (length e.got + 1) e.early) (stamped_in_turn n acked t)

-- a message that becomes early changes early alone
both_then : (e e' : End) → e' ≡ record e { early = e'.early } → ChangesBoth e (come_in_turn (length e'.early) e')
both_then e e' early =
    both_in_turn (length e'.early) e'
    ∙ ap (λ (f : End). record f { got = (come_in_turn (length e'.early) e').got; early = (come_in_turn (length e'.early) e').early }) early

both_room : (k : ℕ) (text : List ℕ) (e : End) (b : Bool) → (if b then e else record e { early = record { number = k; text = text } ∷ e.early }) ≡ record e { early = (if b then e else record e { early = record { number = k; text = text } ∷ e.early }).early }
both_room k text e true = refl
both_room k text e false = refl

both_of : (o : Option ℕ) (text : List ℕ) (e : End) → ChangesBoth e (come_in_turn (length (becomes_early o text e).early) (becomes_early o text e))
both_of None text e = both_then e e refl
both_of (Some k) text e = both_then e (becomes_early (Some k) text e) (both_room k text e (is_some (early_at k e.early) || nat_le 64 (backlog e)))

stamped_room : (k : ℕ) (text : List ℕ) (acked : ℕ) (t : Timer) (e : End) (b : Bool)
    → (if b then stamped acked t e else record (stamped acked t e) { early = record { number = k; text = text } ∷ e.early })
    ≡ stamped acked t (if b then e else record e { early = record { number = k; text = text } ∷ e.early })
stamped_room k text acked t e true = refl
stamped_room k text acked t e false = refl

stamped_early : (o : Option ℕ) (text : List ℕ) (acked : ℕ) (t : Timer) (e : End) → becomes_early o text (stamped acked t e) ≡ stamped acked t (becomes_early o text e)
stamped_early None text acked t e = refl
stamped_early (Some k) text acked t e = stamped_room k text acked t e (is_some (early_at k e.early) || nat_le 64 (backlog e))

stamped_of : (o : Option ℕ) (text : List ℕ) (acked : ℕ) (t : Timer) (e : End)
    → come_in_turn (length (becomes_early o text (stamped acked t e)).early) (becomes_early o text (stamped acked t e))
    ≡ stamped acked t (come_in_turn (length (becomes_early o text e).early) (becomes_early o text e))
stamped_of o text acked t e =
    ap (λ (f : End). come_in_turn (length f.early) f) (stamped_early o text acked t e)
    ∙ stamped_in_turn (length (becomes_early o text e).early) acked t (becomes_early o text e)

-- accepting changes got and early alone
pub accepts_both : (m : IlMsg) (e : End) → ChangesBoth e (accepts m e)
accepts_both m e = both_of (number (rstart_of e) m.id (length e.got)) m.text e

-- and is the same with other stamps
pub accepts_stamped : (m : IlMsg) (acked : ℕ) (t : Timer) (e : End) → accepts m (stamped acked t e) ≡ stamped acked t (accepts m e)
accepts_stamped m acked t e = stamped_of (number (rstart_of e) m.id (length e.got)) m.text acked t e

-- Taking the ack before or after is the same.

acked_if : (now k : ℕ) (m : IlMsg) (e : End) (b : Bool)
    → accepts m (if b then waits_anew now (acks now k e) else e) ≡ (if b then waits_anew now (acks now k (accepts m e)) else accepts m e)
acked_if now k m e false = refl
acked_if now k m e true =
    accepts_stamped m k (waits_anew now (acks now k e)).timer e
    ∙ ap (λ (e' : End). stamped k (waits_anew now (acks now k e)).timer e') (accepts_both m e)
    ∙ sym (ap (λ (e' : End). waits_anew now (acks now k e')) (accepts_both m e))

accepts_acked : (now : ℕ) (o : Option ℕ) (m : IlMsg) (e : End) → accepts m (acked_to now o e) ≡ acked_to now o (accepts m e)
accepts_acked now None m e = refl
accepts_acked now (Some k) m e =
    acked_if now k m e (nat_le k (length e.sent))
    ∙ ap (λ (sent : List (List ℕ)). if nat_le k (length sent) then waits_anew now (acks now k (accepts m e)) else accepts m e) (sym (ap (λ (e' : End). e'.sent) (accepts_both m e)))

pub accepts_hears_ack : (now : ℕ) (m : IlMsg) (e : End) → accepts m (hears_ack now m e) ≡ hears_ack now m (accepts m e)
accepts_hears_ack now m e =
    accepts_acked now (number e.start m.ack e.acked) m (hears now e)
    ∙ ap (acked_to now (number e.start m.ack e.acked)) (accepts_stamped m e.acked (hears now e).timer e ∙ heard)
    ∙ same_number
  where
    heard : stamped e.acked (hears now e).timer (accepts m e) ≡ hears now (accepts m e)
    heard = ap (stamped e.acked (hears now e).timer) (accepts_both m e) ∙ sym (ap (hears now) (accepts_both m e))

    same_number : acked_to now (number e.start m.ack e.acked) (hears now (accepts m e)) ≡ hears_ack now m (accepts m e)
    same_number = ap (λ (e' : End). acked_to now (number e'.start m.ack e'.acked) (hears now (accepts m e))) (sym (accepts_both m e))

-- Nothing is accepted.

-- the message has no number
pub no_number : (m : IlMsg) (e : End) → early_at (length e.got + 1) e.early ≡ None → number (rstart_of e) m.id (length e.got) ≡ None → e ≡ accepts m e
no_number m e next none = rw none (sym (none_moves (length e.early) e next))

-- it is early already
pub early_already : (m : IlMsg) (e : End) (k : ℕ) → early_at (length e.got + 1) e.early ≡ None → number (rstart_of e) m.id (length e.got) ≡ Some k
    → is_some (early_at k e.early) ≡ true → e ≡ accepts m e
early_already m e k next some early = rw (some, early) (sym (none_moves (length e.early) e next))

-- there is no room
pub no_room : (m : IlMsg) (e : End) (k : ℕ) → early_at (length e.got + 1) e.early ≡ None → number (rstart_of e) m.id (length e.got) ≡ Some k
    → nat_le 64 (backlog e) ≡ true → e ≡ accepts m e
no_room m e k next some full = full_if (is_some (early_at k e.early)) refl
  where
    full_if : (b : Bool) → is_some (early_at k e.early) ≡ b → e ≡ accepts m e
    full_if true early = early_already m e k next some early
    full_if false early = rw (some, early, full) (sym (none_moves (length e.early) e next))

-- it becomes early, and what is next in sequence is got
pub accepts_in_turn : (m : IlMsg) (e : End) (k : ℕ) → number (rstart_of e) m.id (length e.got) ≡ Some k → is_some (early_at k e.early) ≡ false → nat_le 64 (backlog e) ≡ false
    → with_turned e (in_turn (suc (length e.early)) (length e.got) (record { number = k; text = m.text } ∷ e.early)) ≡ accepts m e
accepts_in_turn m e k some new room =
    sym (rw (some, new, room) (moves_in_turn (suc (length e.early)) (record e { early = record { number = k; text = m.text } ∷ e.early })))

-- What is kept of an end that accepts nothing.

next_is_not_early : (e : End) → AreWithin (length e.got + 1) (length e.got + 20) e.early → early_at (length e.got + 1) e.early ≡ None
next_is_not_early e near = none_below (length e.got + 1) (length e.got + 1) (length e.got + 20) e.early (omega arith) near

-- the numbers of a message and of what is early, as they are kept
pub record Hears (w : Windows) (m : IlMsg) (told : Option ℕ) : Type 0 where
  pub near : AreWithin (w.got + 1) (w.got + 20) w.early
  pub number : number (rstart_kept w) m.id w.got ≡ told

pub kept_no_number : (w : Windows) (m : IlMsg) (e : End) → w ≡ windows_of e → Hears w m None → w ≡ windows_of (accepts m e)
kept_no_number w m e is h = is ∙ ap windows_of (no_number m e (next_is_not_early e at.near) at.number)
  where
    at : Hears (windows_of e) m None
    at = subst (λ (x : Windows). Hears x m None) is h

pub kept_early_already : (w : Windows) (m : IlMsg) (e : End) (k : ℕ) → w ≡ windows_of e → Hears w m (Some k) → is_some (early_at k w.early) ≡ true → w ≡ windows_of (accepts m e)
kept_early_already w m e k is h early = is ∙ ap windows_of (early_already m e k (next_is_not_early e at.near) at.number (subst (λ (x : Windows). is_some (early_at k x.early) ≡ true) is early))
  where
    at : Hears (windows_of e) m (Some k)
    at = subst (λ (x : Windows). Hears x m (Some k)) is h

pub kept_no_room : (w : Windows) (m : IlMsg) (e : End) (k : ℕ) → w ≡ windows_of e → Hears w m (Some k) → nat_le 64 (backlog e) ≡ true → w ≡ windows_of (accepts m e)
kept_no_room w m e k is h full = is ∙ ap windows_of (no_room m e k (next_is_not_early e at.near) at.number full)
  where
    at : Hears (windows_of e) m (Some k)
    at = subst (λ (x : Windows). Hears x m (Some k)) is h
