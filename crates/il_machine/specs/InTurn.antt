-- The early messages whose turn has come.
use Rattle.std.specs.Prelude.{ℕ, zero, suc, ◌+◌, List, [], ◌∷◌, ◌++◌, Option, Some, None}
use Rattle.net_base.specs.IlEnd.{End, Early, early_at, without_early}

-- messages in sequence, and the early ones that are left
pub record TurnedMessages : Type 0 where
  pub texts : List (List ℕ)
  pub early : List Early

-- the next message, if it is early, and those that follow it
abbrev pub next_in_turn : Option (List ℕ) → List Early → TurnedMessages → TurnedMessages
next_in_turn None early others = record { texts = []; early = early }
next_in_turn (Some text) early others = record others { texts = text ∷ others.texts }

-- the early messages behind message `got`, as far as they follow in sequence; at most n of them
abbrev pub in_turn : ℕ → ℕ → List Early → TurnedMessages
in_turn zero got early = record { texts = []; early = early }
in_turn (suc n) got early = next_in_turn (early_at (got + 1) early) early (in_turn n (got + 1) (without_early (got + 1) early))

-- the end with these messages got, and the early ones that are left
abbrev pub with_turned : End → TurnedMessages → End
with_turned e t = record e { got = e.got ++ t.texts; early = t.early }
