-- A walk, name by name.
use Rattle.std.proofs.Common.{◌≡◌, ℕ, ◌+◌, ◌<◌, ◌≤◌, List, ◌∷◌, drop, length, get_or, Option, Some, None, sym, ap, ◌∙◌}
use Rattle.std.specs.Option.{option_and_then}
use Rattle.std.proofs.lemmas.List.{at_drop_more, drop_all}
use Rattle.net_base.specs.declared.names.Node.{Node}
use Rattle.net_base.specs.SessionFiles.{reached, step_to}

-- the next name, and those behind it
pub next_name : (names : List (List ℕ)) (i : ℕ) (name : List ℕ) → i < length names → name ≡ get_or names i name → drop i names ≡ name ∷ drop (i + 1) names
next_name names i name lt is =
    at_drop_more (λ (xs : List (List ℕ)). xs) names i name lt
    ∙ ap (λ (x : List ℕ). x ∷ drop (i + 1) names) (sym is)

stepped : (at : Node) (names : List (List ℕ)) (i : ℕ) (name : List ℕ) → i < length names → name ≡ get_or names i name
    → reached at (drop i names) ≡ option_and_then (λ (next : Node). reached next (drop (i + 1) names)) (step_to at name)
stepped at names i name lt is = ap (reached at) (next_name names i name lt is)

pub walks_on : (at next : Node) (names : List (List ℕ)) (i : ℕ) (name : List ℕ) (end : Option Node) → i < length names → name ≡ get_or names i name
    → step_to at name ≡ Some next → reached at (drop i names) ≡ end → reached next (drop (i + 1) names) ≡ end
walks_on at next names i name end lt is step so_far =
    sym (stepped at names i name lt is ∙ ap (option_and_then (λ (n : Node). reached n (drop (i + 1) names))) step) ∙ so_far

pub walk_stops : (at : Node) (names : List (List ℕ)) (i : ℕ) (name : List ℕ) (end : Option Node) → i < length names → name ≡ get_or names i name
    → step_to at name ≡ None → reached at (drop i names) ≡ end → end ≡ None
walk_stops at names i name end lt is step so_far =
    sym so_far ∙ stepped at names i name lt is ∙ ap (option_and_then (λ (n : Node). reached n (drop (i + 1) names))) step

pub walk_ends : (at : Node) (names : List (List ℕ)) (i : ℕ) (end : Option Node) → length names ≤ i → reached at (drop i names) ≡ end → end ≡ Some at
walk_ends at names i end le so_far = sym so_far ∙ ap (reached at) (drop_all i names le)
