-- Preemptions: the entries of a caller that come although the caller of the entry before could continue.
use Rattle.std.specs.Prelude.{ℕ, ◌+◌, ◌≤◌, ◌==◌, ◌&&◌, Bool, false, not, List, [], ◌∷◌, Option, Some, None, if◌then◌else◌}
use Rattle.net_base.specs.declared.history.Entry.{Entry}
use Rattle.net_base.specs.declared.world.World.{World}
use Rattle.net_base.specs.Legal.{IsLegal, IsTimed}
use Rattle.net_base.specs.Net.{Net, after, next_net, opening_net}
use Rattle.turn_orders.specs.Turns.{IsEnded, goes}

-- a turn of this caller preempts the caller of the last entry
abbrev pub leaves_early : World → Net → Option ℕ → ℕ → Bool
leaves_early w net None c = false
leaves_early w net (Some last) c = not (last == c) && goes w net last

abbrev pub cost_in : World → Net → Option ℕ → ℕ → ℕ
cost_in w net last c = if leaves_early w net last c then 1 else 0

-- the preemptions among entries, by the net and the caller before them
abbrev pub preemptions_from : World → Net → Option ℕ → List Entry → ℕ
preemptions_from w net last [] = 0
preemptions_from w net last (x ∷ xs) = cost_in w net last x.caller + preemptions_from w (next_net w net x) (Some x.caller) xs

-- the preemptions of a history
abbrev pub preemptions : World → List Entry → ℕ
preemptions w h = preemptions_from w (opening_net w) None h

-- the caller of the last entry
abbrev pub last_from : Option ℕ → List Entry → Option ℕ
last_from last [] = last
last_from last (x ∷ xs) = last_from (Some x.caller) xs

abbrev pub last_caller : List Entry → Option ℕ
last_caller h = last_from None h

-- the number of preemptions that a turn of this caller adds to a history
abbrev pub cost : World → List Entry → ℕ → ℕ
cost w h c = cost_in w (after w h) (last_caller h) c

-- a legal and timed history that has ended, with at most p preemptions
pub record IsWithin (w : World) (p : ℕ) (h : List Entry) : Type 0 where
  pub legal : IsLegal w h
  pub timed : IsTimed w h
  pub bounded : preemptions w h ≤ p
  pub ended : IsEnded w h
