-- The list of the ended histories of a world with at most p preemptions, in order, and the outcomes that a search reports.
use Rattle.std.specs.Prelude.{◌≡◌, ◌<◌, ◌⊎◌, ℕ, zero, suc, ◌+◌, ◌-◌, ◌==◌, Bool, false, true, List, [], ◌∷◌, ◌++◌, flat_map, nat_le, if◌then◌else◌}
use Rattle.std.specs.List.{list_any, range_with_len}
use Rattle.net_base.specs.declared.history.Entry.{Entry}
use Rattle.net_base.specs.declared.world.World.{World}
use Rattle.turn_orders.specs.Preemptions.{cost, preemptions}
use Rattle.turn_orders.specs.Results.{RunOutcome, outcome_of, same_outcome}
use Rattle.turn_orders.specs.Turns.{callers_of, comes, with_turn}

-- a history that has ended is in the list if no preemption is left
abbrev pub if_spent : ℕ → List Entry → List (List Entry)
if_spent p h = if p == 0 then h ∷ [] else []

-- the list for the preemptions that are left after a turn of this cost, if there are enough
abbrev pub if_paid : ℕ → ℕ → (ℕ → List (List Entry)) → List (List Entry)
if_paid price p go_on = if nat_le price p then go_on (p - price) else []

-- after a turn of this caller
abbrev pub branch : World → ℕ → List Entry → (List Entry → ℕ → List (List Entry)) → ℕ → List (List Entry)
branch w p h go_on c = if_paid (cost w h c) p (go_on (with_turn w h c))

-- by the callers that can continue: after a turn of each, the lowest first
abbrev pub by_comers : World → ℕ → List Entry → (List Entry → ℕ → List (List Entry)) → List ℕ → List (List Entry)
by_comers w p h go_on [] = if_spent p h
by_comers w p h go_on (c ∷ cs) = flat_map (branch w p h go_on) (c ∷ cs)

-- the ended histories that begin with this one and have exactly p further preemptions and fewer than n further entries
abbrev pub below : World → ℕ → List Entry → ℕ → List (List Entry)
below w zero h p = []
below w (suc n) h p = by_comers w p h (below w n) (comes w h)

-- more entries than any legal history of a world has
abbrev pub too_many : ℕ
too_many = 2147483648

-- the ended histories with exactly p preemptions, by their lists of callers
abbrev pub histories_with : World → ℕ → List (List Entry)
histories_with w p = below w too_many [] p

-- the ended histories with at most p preemptions: those with fewer first
abbrev pub histories : World → ℕ → List (List Entry)
histories w p = flat_map (histories_with w) (range_with_len 0 (p + 1))

-- The order.

-- where two lists first differ, the first one has the lower number
abbrev pub IsLower : List ℕ → List ℕ → Type 0
IsLower (c ∷ cs) (d ∷ ds) = (c < d) ⊎ ((c ≡ d) × IsLower cs ds)
IsLower _ _ = ⊥

-- it has fewer preemptions, or the same number and the lower list of callers
abbrev pub ComesBefore : World → List Entry → List Entry → Type 0
ComesBefore w h k = (preemptions w h < preemptions w k) ⊎ ((preemptions w h ≡ preemptions w k) × IsLower (callers_of h) (callers_of k))

-- Refusals.

-- a turn of this caller needs a preemption more than is left, or a later turn does
abbrev pub refused_at : World → ℕ → List Entry → (List Entry → ℕ → Bool) → ℕ → Bool
refused_at w p h go_on c = if nat_le (cost w h c) p then go_on (with_turn w h c) (p - cost w h c) else true

-- some turn after this history needs a preemption more than is left, if p are left
abbrev pub refuses : World → ℕ → List Entry → ℕ → Bool
refuses w zero h p = false
refuses w (suc n) h p = list_any (refused_at w p h (refuses w n)) (comes w h)

-- among all turns of a search for histories with exactly p preemptions
abbrev pub refuses_with : World → ℕ → Bool
refuses_with w p = refuses w too_many [] p

-- The outcomes that a search reports.

-- an outcome with the first history that has it
pub record Told : Type 0 where
  pub outcome : RunOutcome
  pub preemptions : ℕ
  pub witness : List Entry

abbrev pub told_of : World → List Entry → Told
told_of w h = record { outcome = outcome_of w h; preemptions = preemptions w h; witness = h }

abbrev pub is_told : List Told → RunOutcome → Bool
is_told ts o = list_any (λ (t : Told). same_outcome t.outcome o) ts

-- the list with the outcome of this history, if that is a new outcome
abbrev pub told_with : World → List Told → List Entry → List Told
told_with w ts h = if is_told ts (outcome_of w h) then ts else ts ++ told_of w h ∷ []

abbrev pub told_onto : World → List Told → List (List Entry) → List Told
told_onto w ts [] = ts
told_onto w ts (h ∷ hs) = told_onto w (told_with w ts h) hs

-- the outcomes of these histories in the order in which they first come
abbrev pub first_told : World → List (List Entry) → List Told
first_told w hs = told_onto w [] hs
