-- What a walk passes, name by name.
use Rattle.std.proofs.Common.{◌≡◌, ℕ, ◌+◌, ◌<◌, ◌≤◌, List, [], ◌∷◌, ◌++◌, drop, length, map, get_or, Option, Some, None, sym, ap, ◌∙◌, append_assoc, append-nil}
use Rattle.std.specs.Option.{option_map_or}
use Rattle.std.proofs.lemmas.List.{drop_all}
use Rattle.net_base.specs.declared.names.Node.{Node}
use Rattle.net_base.specs.declared.ninep.Qid.{Qid}
use Rattle.net_base.specs.SessionFiles.{qid_of, step_to, walked}
use Rattle.session_script.proofs.Shared.{next_name}

-- the qids so far, and those of what is left
abbrev pub passed : List Qid → Node → List (List ℕ) → List Qid
passed qids at names = qids ++ map qid_of (walked at names)

passes : (qids : List Qid) (at : Node) (names : List (List ℕ)) (i : ℕ) (name : List ℕ) (o : Option Node) → i < length names → name ≡ get_or names i name
    → step_to at name ≡ o → passed qids at (drop i names) ≡ qids ++ map qid_of (option_map_or (λ (next : Node). next ∷ walked next (drop (i + 1) names)) o [])
passes qids at names i name o lt is step =
    ap (passed qids at) (next_name names i name lt is)
    ∙ ap (λ (x : Option Node). qids ++ map qid_of (option_map_or (λ (next : Node). next ∷ walked next (drop (i + 1) names)) x [])) step

pub passes_on : (qids now all : List Qid) (at next : Node) (q : Qid) (names : List (List ℕ)) (i : ℕ) (name : List ℕ) → i < length names → name ≡ get_or names i name
    → step_to at name ≡ Some next → q ≡ qid_of next → now ≡ qids ++ q ∷ [] → passed qids at (drop i names) ≡ all → passed now next (drop (i + 1) names) ≡ all
passes_on qids now all at next q names i name lt is step qid more so_far =
    ap (λ (xs : List Qid). xs ++ map qid_of (walked next (drop (i + 1) names))) (more ∙ ap (λ (x : Qid). qids ++ x ∷ []) qid)
    ∙ append_assoc qids (qid_of next ∷ []) (map qid_of (walked next (drop (i + 1) names)))
    ∙ sym (passes qids at names i name (Some next) lt is step)
    ∙ so_far

pub walk_stops : (qids all : List Qid) (at : Node) (names : List (List ℕ)) (i : ℕ) (name : List ℕ) → i < length names → name ≡ get_or names i name
    → step_to at name ≡ None → passed qids at (drop i names) ≡ all → qids ≡ all
walk_stops qids all at names i name lt is step so_far =
    sym (append-nil qids) ∙ sym (passes qids at names i name None lt is step) ∙ so_far

pub walk_ends : (qids all : List Qid) (at : Node) (names : List (List ℕ)) (i : ℕ) → length names ≤ i → passed qids at (drop i names) ≡ all → qids ≡ all
walk_ends qids all at names i le so_far = sym (append-nil qids) ∙ sym (ap (passed qids at) (drop_all i names le)) ∙ so_far
