-- What stands behind what was found so far, a place, a line or a pair at a time.
use Rattle.std.proofs.Common.{◌≡◌, ℕ, ◌+◌, ◌<◌, List, [], ◌∷◌, ◌++◌, length, map, take, get_or, sym, ap, ◌∙◌, append-nil}
use Rattle.std.specs.Prelude.{flat_map}
use Rattle.std.proofs.lemmas.List.{map-append, take_more}
use Rattle.std.proofs.lemmas.List.Concat.{flat_map-append}
use Rattle.net_base.specs.Ndb.{NdbPair}
use Rattle.ndb_index.specs.Near.{tuples_at}

abbrev pub Db : Type 0
Db = List (List (List NdbPair))

-- with one more of the tuples at places
tuples_more : (db : Db) (places : List ℕ) (i d : ℕ) → i < length places
    → tuples_at db (take (i + 1) places) ≡ tuples_at db (take i places) ++ get_or db (get_or places i d) [] ∷ []
tuples_more db places i d within =
    ap (tuples_at db) (take_more places i d within) ∙ map-append (λ (place : ℕ). get_or db place []) (take i places) (get_or places i d ∷ [])

-- with the line of one more
pub lines_more : (text : List (List NdbPair) → List ℕ) (db : Db) (places : List ℕ) (i d : ℕ) (tuple : List (List NdbPair)) (line : List ℕ) (before after : List (List ℕ)) → i < length places
    → tuple ≡ get_or db (get_or places i d) [] → before ≡ map text (tuples_at db (take i places)) → line ≡ text tuple → after ≡ before ++ line ∷ []
    → after ≡ map text (tuples_at db (take (i + 1) places))
lines_more text db places i d tuple line before after within there so_far is put =
    let front = map text (tuples_at db (take i places)) in
    put
    ∙ ap (λ (ls : List (List ℕ)). ls ++ line ∷ []) so_far
    ∙ ap (λ (l : List ℕ). front ++ l ∷ []) (is ∙ ap text there)
    ∙ sym (ap (map text) (tuples_more db places i d within) ∙ map-append text (tuples_at db (take i places)) (get_or db (get_or places i d) [] ∷ []))

-- with the values of one more
pub values_more : (f : List (List NdbPair) → List (List ℕ)) (db : Db) (places : List ℕ) (i d : ℕ) (values before after : List (List ℕ)) → i < length places
    → values ≡ f (get_or db (get_or places i d) []) → before ≡ flat_map f (tuples_at db (take i places)) → after ≡ before ++ values
    → after ≡ flat_map f (tuples_at db (take (i + 1) places))
values_more f db places i d values before after within is so_far put =
    let front = flat_map f (tuples_at db (take i places)) in
    let tuple = get_or db (get_or places i d) [] in
    put
    ∙ ap (λ (vs : List (List ℕ)). vs ++ values) so_far
    ∙ ap (λ (vs : List (List ℕ)). front ++ vs) (is ∙ sym (append-nil (f tuple)))
    ∙ sym (ap (flat_map f) (tuples_more db places i d within) ∙ flat_map-append f (tuples_at db (take i places)) (tuple ∷ []))
