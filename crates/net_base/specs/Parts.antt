-- Lists that stand one behind the other in one list, each known by where it ends.
use Rattle.std.specs.Prelude.{ℕ, zero, suc, ◌≤◌, ◌-◌, List, [], ◌∷◌, map, slice_range}

-- where the last of these lists ends, the first of which begins here
abbrev pub last_end : ℕ → List ℕ → ℕ
last_end start [] = start
last_end start (end ∷ ends) = last_end end ends

-- where the list with this number begins
abbrev pub start_at : ℕ → List ℕ → ℕ → ℕ
start_at start ends zero = start
start_at start [] (suc i) = start
start_at start (end ∷ ends) (suc i) = start_at end ends i

-- the lists that end here, the first of which begins at the start
abbrev pub parts : {X : Type 0} → ℕ → List ℕ → List X → List (List X)
parts start [] items = []
parts start (end ∷ ends) items = slice_range items start end ∷ parts end ends items

-- each list ends where it begins or behind that, and the last one within so many items
abbrev pub Rise : ℕ → List ℕ → ℕ → Type 0
Rise start [] count = start ≤ count
Rise start (end ∷ ends) count = (start ≤ end) × Rise end ends count

-- the ends where so many elements in front are gone
abbrev pub ends_lowered : ℕ → List ℕ → List ℕ
ends_lowered count ends = map (λ end. end - count) ends
