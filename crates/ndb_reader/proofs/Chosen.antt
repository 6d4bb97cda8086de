-- The names that a tuple gives, a line and a pair at a time, and the tuple that chooses.
use Rattle.std.proofs.Common.{◌≡◌, ℕ, ◌+◌, ◌<◌, Bool, true, false, cond, ◌||◌, bytes_eq, List, [], ◌∷◌, ◌++◌, map, drop, get_or, length, Vec, vec_items, refl, sym, ap, ◌∙◌}
use Rattle.std.specs.Prelude.{codes, filter}
use Rattle.std.specs.List.{list_any}
use Rattle.std.proofs.lemmas.List.{map-append, at_drop_more, nil_from_length}
use Rattle.net_base.specs.Ndb.{NdbPair}
use Rattle.net_base.specs.Search.{has_attr, values_on, values_in}
use Rattle.net_base.specs.NdbBundle.{each_once}
use Rattle.ndb_reader.specs.Names.{with_one_name, with_names, names_seen}
use Rattle.ndb_reader.proofs.Once.{turned, once_all, names_append}

abbrev pub Names : Type 0
Names = List (List ℕ)

module _ {Z : Type 0} where
  pub no_names : (keys : List (Vec ℕ Z)) → length keys ≡ 0 → names_seen keys ≡ []
  no_names keys none = ap (λ (ks : List (Vec ℕ Z)). names_seen ks) (nil_from_length keys none)

  abbrev pub same : Vec ℕ Z → Vec ℕ Z → Bool
  same x y = bytes_eq (vec_items x) (vec_items y)

  -- the name is one of these
  any_seen : (key : Vec ℕ Z) (name : List ℕ) → vec_items key ≡ name → (keys : List (Vec ℕ Z)) → list_any (λ other. bytes_eq other name) (names_seen keys) ≡ list_any (same key) keys
  any_seen key name is [] = refl
  any_seen key name is (k ∷ ks) =
      ap (λ b. b || list_any (λ other. bytes_eq other name) (names_seen ks)) (turned (vec_items k) name ∙ ap (λ (n : List ℕ). bytes_eq n (vec_items k)) (sym is))
      ∙ ap (λ b. same key k || b) (any_seen key name is ks)

  -- a name that is put among keys
  pub name_put : (keys after : List (Vec ℕ Z)) (key : Vec ℕ Z) (name : List ℕ) → vec_items key ≡ name → after ≡ cond (list_any (same key) keys) keys (keys ++ key ∷ []) → names_seen after ≡ with_one_name (names_seen keys) name
  name_put keys after key name is put =
      ap (λ (ks : List (Vec ℕ Z)). names_seen ks) put
      ∙ by (list_any (same key) keys)
      ∙ ap (λ b. cond b (names_seen keys) (names_seen keys ++ name ∷ [])) (sym (any_seen key name is keys))
    where
      by : (b : Bool) → names_seen (cond b keys (keys ++ key ∷ [])) ≡ cond b (names_seen keys) (names_seen keys ++ name ∷ [])
      by true = refl
      by false = map-append vec_items keys (key ∷ []) ∙ ap (λ (n : List ℕ). names_seen keys ++ n ∷ []) is

-- The names on a line.

abbrev pub files_on : List NdbPair → Names
files_on line = values_on (codes "file") line

-- the names with those of what is left of a line are the names with those of all of it
abbrev pub OnLine : Names → List NdbPair → ℕ → Names → Type 0
OnLine first line n names = with_names first (files_on line) ≡ with_names names (files_on (drop n line))

front-on : (pair : NdbPair) (rest : List NdbPair) → files_on (pair ∷ rest) ≡ files_on (pair ∷ []) ++ files_on rest
front-on pair rest = by (has_attr (codes "file") pair)
  where
    by : (b : Bool) → map (λ (p : NdbPair). p.value) (cond b (pair ∷ filter (has_attr (codes "file")) rest) (filter (has_attr (codes "file")) rest)) ≡ map (λ (p : NdbPair). p.value) (cond b (pair ∷ []) []) ++ files_on rest
    by true = refl
    by false = refl

pub on-next : (first : Names) (line : List NdbPair) (n : ℕ) (pair : NdbPair) (names new : Names) → n < length line → pair ≡ get_or line n pair → new ≡ with_names names (files_on (pair ∷ [])) → OnLine first line n names → OnLine first line (n + 1) new
on-next first line n pair names new h is en so =
    so
    ∙ at_drop_more (λ (ps : List NdbPair). with_names names (files_on ps)) line n pair h
    ∙ ap (λ (p : NdbPair). with_names names (files_on (p ∷ drop (n + 1) line))) (sym is)
    ∙ ap (with_names names) (front-on pair (drop (n + 1) line))
    ∙ names_append names (files_on (pair ∷ [])) (files_on (drop (n + 1) line))
    ∙ ap (λ (ns : Names). with_names ns (files_on (drop (n + 1) line))) (sym en)

-- The names in a tuple.

abbrev pub files_in_tuple : List (List NdbPair) → Names
files_in_tuple tuple = values_in (codes "file") tuple

abbrev pub InTuple : List (List NdbPair) → ℕ → Names → Type 0
InTuple tuple n names = each_once (files_in_tuple tuple) ≡ with_names names (files_in_tuple (drop n tuple))

pub in-none : (tuple : List (List NdbPair)) (names : Names) → names ≡ [] → InTuple tuple 0 names
in-none tuple names none = sym (ap (λ (ns : Names). with_names ns (files_in_tuple tuple)) none ∙ once_all (files_in_tuple tuple))

pub in-next : (tuple : List (List NdbPair)) (n : ℕ) (line : List NdbPair) (names new : Names) → n < length tuple → line ≡ get_or tuple n [] → new ≡ with_names names (files_on line) → InTuple tuple n names → InTuple tuple (n + 1) new
in-next tuple n line names new h is en so =
    so
    ∙ at_drop_more (λ (lines : List (List NdbPair)). with_names names (files_in_tuple lines)) tuple n [] h
    ∙ ap (λ (l : List NdbPair). with_names names (files_on l ++ files_in_tuple (drop (n + 1) tuple))) (sym is)
    ∙ names_append names (files_on line) (files_in_tuple (drop (n + 1) tuple))
    ∙ ap (λ (ns : Names). with_names ns (files_in_tuple (drop (n + 1) tuple))) (sym en)
