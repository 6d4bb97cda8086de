-- A depth-first search: the part of the list of histories that a path has not passed. A path is the list of the callers of a beginning.
use Rattle.std.specs.Prelude.{ℕ, zero, suc, ◌-◌, ◌+◌, ◌≤◌, ◌<◌, ◌||◌, Bool, false, List, [], ◌∷◌, ◌++◌, filter, flat_map, length, nat_le}
use Rattle.std.specs.List.{list_any}
use Rattle.net_base.specs.declared.history.Entry.{Entry}
use Rattle.net_base.specs.declared.world.World.{World}
use Rattle.net_base.specs.Stamped.{In}
use Rattle.turn_orders.specs.Orders.{below, branch, refused_at, refuses, too_many}
use Rattle.turn_orders.specs.Preemptions.{cost}
use Rattle.turn_orders.specs.Turns.{comes, with_turn, with_turns}

-- the callers from a number on
abbrev pub from_on : ℕ → List ℕ → List ℕ
from_on k cs = filter (nat_le k) cs

-- the number of preemptions that are left after the turns of these callers, out of p
abbrev pub left_of : World → List Entry → ℕ → List ℕ → ℕ
left_of w h p [] = p
left_of w h p (c ∷ cs) = left_of w (with_turn w h c) (p - cost w h c) cs

-- the histories in which the next entry is one of a caller from a number on
abbrev pub branches : World → ℕ → List Entry → ℕ → ℕ → List (List Entry)
branches w n h p k = flat_map (branch w p h (below w n)) (from_on k (comes w h))

-- the histories after all those that begin with a path: at each of its entries, those with a higher caller
abbrev pub ahead_from : World → ℕ → List Entry → ℕ → List ℕ → List (List Entry)
ahead_from w n h p [] = []
ahead_from w zero h p (c ∷ cs) = []
ahead_from w (suc n) h p (c ∷ cs) = ahead_from w n (with_turn w h c) (p - cost w h c) cs ++ branches w n h p (c + 1)

-- among the histories with exactly p preemptions
abbrev pub ahead : World → ℕ → List ℕ → List (List Entry)
ahead w p path = ahead_from w too_many [] p path

-- the beginning of a path
abbrev pub beginning : World → List ℕ → List Entry
beginning w path = with_turns w [] path

-- the preemptions that are left after a path
abbrev pub left : World → ℕ → List ℕ → ℕ
left w p path = left_of w [] p path

-- the histories that begin with a path, and those after them
abbrev pub to_come : World → ℕ → List ℕ → List (List Entry)
to_come w p path = below w (too_many - length path) (beginning w path) (left w p path) ++ ahead w p path

-- Refusals.

-- among the turns in which the next entry is one of a caller from a number on
abbrev pub refused_from : World → ℕ → List Entry → ℕ → ℕ → Bool
refused_from w n h p k = list_any (refused_at w p h (refuses w n)) (from_on k (comes w h))

-- after all turns that begin with a path
abbrev pub refused_ahead_from : World → ℕ → List Entry → ℕ → List ℕ → Bool
refused_ahead_from w n h p [] = false
refused_ahead_from w zero h p (c ∷ cs) = false
refused_ahead_from w (suc n) h p (c ∷ cs) =
    refused_ahead_from w n (with_turn w h c) (p - cost w h c) cs || refused_from w n h p (c + 1)

abbrev pub refused_ahead : World → ℕ → List ℕ → Bool
refused_ahead w p path = refused_ahead_from w too_many [] p path

-- among the turns that begin with a path, and those after them
abbrev pub refused_to_come : World → ℕ → List ℕ → Bool
refused_to_come w p path = refuses w (too_many - length path) (beginning w path) (left w p path) || refused_ahead w p path

-- Choices.

-- the lowest caller from k on that can continue and for which enough preemptions are left
pub record IsFirst (w : World) (h : List Entry) (p k c : ℕ) : Type 0 where
  pub there : In c (comes w h)
  pub from : k ≤ c
  pub paid : cost w h c ≤ p
  pub lower : (d : ℕ) → In d (comes w h) → k ≤ d → d < c → p < cost w h d

-- the lowest caller from k on that can continue, if enough preemptions are left for it
pub record IsLowest (w : World) (h : List Entry) (p k c : ℕ) : Type 0 where
  pub there : In c (comes w h)
  pub from : k ≤ c
  pub paid : cost w h c ≤ p
  pub lowest : (d : ℕ) → In d (comes w h) → k ≤ d → c ≤ d

-- for no caller from k on that can continue enough preemptions are left
pub record IsNone (w : World) (h : List Entry) (p k : ℕ) : Type 0 where
  pub none : (d : ℕ) → In d (comes w h) → k ≤ d → p < cost w h d
