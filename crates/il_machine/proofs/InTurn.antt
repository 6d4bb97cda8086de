-- What is early moves in turn.
use Rattle.std.proofs.Common.{◌≡◌, ℕ, zero, suc, ◌+◌, List, [], ◌∷◌, ◌++◌, length, Option, Some, None, refl, arith, ap, sym, ◌∙◌, append_assoc, append-nil, length-append}
use Rattle.net_base.specs.IlEnd.{End, Early, early_at, without_early, comes_in_turn, come_in_turn}
use Rattle.il_machine.specs.InTurn.{TurnedMessages, in_turn, next_in_turn, with_turned}
use Rattle.il_machine.proofs.Near.{one_less}

-- nothing is next in sequence
pub none_next : (n got : ℕ) (early : List Early) → early_at (got + 1) early ≡ None → in_turn n got early ≡ record { texts = []; early = early }
none_next zero got early none = refl
none_next (suc n) got early none = rw none refl

-- nothing moves where the next message isn't early
pub none_moves : (n : ℕ) (e : End) → early_at (length e.got + 1) e.early ≡ None → come_in_turn n e ≡ e
none_moves zero e none = refl
none_moves (suc n) e none = rw none (none_moves n e none)

with_none : (e : End) → e ≡ with_turned e (record { texts = []; early = e.early })
with_none e = rw append-nil refl

-- with one message, and then others
with_more : (e : End) (text : List ℕ) (left : List Early) (t : TurnedMessages)
    → with_turned (record e { got = e.got ++ text ∷ []; early = left }) t ≡ with_turned e (record t { texts = text ∷ t.texts })
with_more e text left t = rw append_assoc refl

step_in_turn : (n : ℕ) (e : End) (o : Option (List ℕ)) → early_at (length e.got + 1) e.early ≡ o
    → ((e' : End) → come_in_turn n e' ≡ with_turned e' (in_turn n (length e'.got) e'.early))
    → come_in_turn n (comes_in_turn o e) ≡ with_turned e (next_in_turn o e.early (in_turn n (length e.got + 1) (without_early (length e.got + 1) e.early)))
step_in_turn n e None none others = none_moves n e none ∙ with_none e
step_in_turn n e (Some text) there others =
    others after
    ∙ ap (λ (k : ℕ). with_turned after (in_turn n k left)) one_more
    ∙ with_more e text left (in_turn n (length e.got + 1) left)
  where
    left : List Early
    left = without_early (length e.got + 1) e.early

    after : End
    after = record e { got = e.got ++ text ∷ []; early = left }

    one_more : length after.got ≡ length e.got + 1
    one_more = omega (arith, length-append e.got (text ∷ []))

-- the early messages that follow in sequence are got, and nothing else changes
pub moves_in_turn : (n : ℕ) (e : End) → come_in_turn n e ≡ with_turned e (in_turn n (length e.got) e.early)
moves_in_turn zero e = with_none e
moves_in_turn (suc n) e = step_in_turn n e (early_at (length e.got + 1) e.early) refl (moves_in_turn n)

-- one message moves, and what follows in sequence is what followed before
pub record Steps (last : ℕ) (text : List ℕ) (early left : List Early) : Type 0 where
  pub less : length left + 1 ≡ length early
  pub texts : (before : List (List ℕ)) → (before ++ text ∷ []) ++ (in_turn (length left) (last + 1) left).texts ≡ before ++ (in_turn (length early) last early).texts
  pub early_left : (in_turn (length left) (last + 1) left).early ≡ (in_turn (length early) last early).early
  pub got : last + 1 + length (in_turn (length left) (last + 1) left).texts ≡ last + length (in_turn (length early) last early).texts

one_in_turn : (m n got : ℕ) (text : List ℕ) (early : List Early) → n + 1 ≡ m → early_at (got + 1) early ≡ Some text
    → in_turn m got early ≡ (let t : TurnedMessages = in_turn n (got + 1) (without_early (got + 1) early) in record t { texts = text ∷ t.texts })
one_in_turn zero n got text early more there = absurd (omega (arith, more))
one_in_turn (suc m) n got text early more there =
    let same : m ≡ n = omega (arith, more) in
    rw (there, same) refl

pub steps : (last : ℕ) (text : List ℕ) (early left : List Early) → left ≡ without_early (last + 1) early → early_at (last + 1) early ≡ Some text → Steps last text early left
steps last text early left is there =
    record {
      less = less;
      texts = λ before. append_assoc before (text ∷ []) _ ∙ ap (λ (t : TurnedMessages). before ++ t.texts) (sym one);
      early_left = ap (λ (t : TurnedMessages). t.early) (sym one);
      got = omega (arith, ap (λ (t : TurnedMessages). length t.texts) one);
    }
  where
    less : length left + 1 ≡ length early
    less = rw is (one_less (last + 1) text early there)

    one : in_turn (length early) last early ≡ (let t : TurnedMessages = in_turn (length left) (last + 1) left in record t { texts = text ∷ t.texts })
    one = one_in_turn (length early) (length left) last text early less there ∙ ap (λ (l : List Early). let t : TurnedMessages = in_turn (length left) (last + 1) l in record t { texts = text ∷ t.texts }) (sym is)
