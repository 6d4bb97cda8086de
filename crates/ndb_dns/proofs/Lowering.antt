-- Names in lower case are names.
use Rattle.std.proofs.Common.{◌≡◌, ℕ, zero, suc, ◌<◌, ◌==◌, Bool, true, false, cond, not, ◌&&◌, List, [], ◌∷◌, length, get_or, map, Some, None, refl, ap, ◌∙◌, arith, length-append}
use Rattle.std.specs.Prelude.{nat_lt, nat_le, bytes_eq, filter, filter_map}
use Rattle.std.specs.List.{list_all, onto_first, cons_option}
use Rattle.std.specs.Char.{to_ascii_lowercase}
use Rattle.std.proofs.lemmas.Bool.{and_parts, and_from}
use Rattle.std.proofs.lemmas.Bool.Decides.{nat_tests}
use Rattle.std.proofs.lemmas.List.{length-map}
use Rattle.net_base.specs.Addresses.{parts_at}
use Rattle.net_base.specs.NdbBundle.{each_once}
use Rattle.net_base.specs.DomainNames.{is_label, is_label_byte, is_domain_name, labels_bytes, labels_of, lowered, name_bytes, name_in}

lower_dot : (b : ℕ) → (to_ascii_lowercase b == 46) ≡ (b == 46)
lower_dot b = grind (arith, nat_tests)

lower_byte : (b : ℕ) → is_label_byte (to_ascii_lowercase b) ≡ is_label_byte b
lower_byte b = grind (arith, nat_tests)

lower_bytes : (label : List ℕ) → list_all is_label_byte (lowered label) ≡ list_all is_label_byte label
lower_bytes [] = refl
lower_bytes (b ∷ label) =
    ap (λ (t : Bool). t && list_all is_label_byte (lowered label)) (lower_byte b)
    ∙ ap (λ (t : Bool). is_label_byte b && t) (lower_bytes label)

lower_label : (label : List ℕ) → is_label (lowered label) ≡ is_label label
lower_label label =
    ap (λ (n : ℕ). nat_lt 0 n && nat_le n 63 && list_all is_label_byte (lowered label)) (length-map label to_ascii_lowercase)
    ∙ ap (λ (t : Bool). nat_lt 0 (length label) && nat_le (length label) 63 && t) (lower_bytes label)

lower_labels : (labels : List (List ℕ)) → list_all is_label (map lowered labels) ≡ list_all is_label labels
lower_labels [] = refl
lower_labels (label ∷ labels) =
    ap (λ (t : Bool). t && list_all is_label (map lowered labels)) (lower_label label)
    ∙ ap (λ (t : Bool). is_label label && t) (lower_labels labels)

lower_size : (labels : List (List ℕ)) → length (labels_bytes (map lowered labels)) ≡ length (labels_bytes labels)
lower_size [] = refl
lower_size (label ∷ labels) =
    omega (
      arith,
      length-append (lowered label) (labels_bytes (map lowered labels)),
      length-append label (labels_bytes labels),
      length-map label to_ascii_lowercase,
      lower_size labels,
    )

lower_name : (labels : List (List ℕ)) → is_domain_name (map lowered labels) ≡ is_domain_name labels
lower_name labels =
    let size : length (name_bytes (map lowered labels)) ≡ length (name_bytes labels) =
    omega (arith, length-append (labels_bytes (map lowered labels)) (0 ∷ []), length-append (labels_bytes labels) (0 ∷ []), lower_size labels)
    in
    ap (λ (t : Bool). t && nat_le (length (name_bytes (map lowered labels))) 255) (lower_labels labels)
    ∙ ap (λ (n : ℕ). list_all is_label labels && nat_le n 255) size

onto_lower : (b : ℕ) (dot : Bool) (parts : List (List ℕ)) → cond dot ([] ∷ map lowered parts) (onto_first (to_ascii_lowercase b) (map lowered parts)) ≡ map lowered (cond dot ([] ∷ parts) (onto_first b parts))
onto_lower b true parts = refl
onto_lower b false [] = refl
onto_lower b false (part ∷ parts) = refl

lower_parts : (value : List ℕ) → parts_at 46 (lowered value) ≡ map lowered (parts_at 46 value)
lower_parts [] = refl
lower_parts (b ∷ value) =
    ap (λ (dot : Bool). cond dot ([] ∷ parts_at 46 (lowered value)) (onto_first (to_ascii_lowercase b) (parts_at 46 (lowered value)))) (lower_dot b)
    ∙ ap (λ (parts : List (List ℕ)). cond (b == 46) ([] ∷ parts) (onto_first (to_ascii_lowercase b) parts)) (lower_parts value)
    ∙ onto_lower b (b == 46) (parts_at 46 value)

lower_labels_of : (value : List ℕ) → labels_of (lowered value) ≡ map lowered (labels_of value)
lower_labels_of [] = refl
lower_labels_of (b ∷ value) = lower_parts (b ∷ value)

-- a name as a text
abbrev pub is_valid : List ℕ → Bool
is_valid name = is_domain_name (labels_of name)

pub lower_valid : (value : List ℕ) → is_valid (lowered value) ≡ is_valid value
lower_valid value = ap is_domain_name (lower_labels_of value) ∙ lower_name (labels_of value)

named : (value : List ℕ) (names : List (List ℕ)) → list_all is_valid names ≡ true → list_all is_valid (cons_option (name_in value) names) ≡ true
named value names all = by (is_domain_name (labels_of value)) refl
  where
    by : (test : Bool) → is_domain_name (labels_of value) ≡ test → list_all is_valid (cons_option (cond test (Some (lowered value)) None) names) ≡ true
    by false is = all
    by true is = and_from (is_valid (lowered value)) (list_all is_valid names) (lower_valid value ∙ is) all

all_named : (values : List (List ℕ)) → list_all is_valid (filter_map name_in values) ≡ true
all_named [] = refl
all_named (value ∷ values) = named value (filter_map name_in values) (all_named values)

all_kept : (test : List ℕ → Bool) (names : List (List ℕ)) → list_all is_valid names ≡ true → list_all is_valid (filter test names) ≡ true
all_kept test [] all = refl
all_kept test (name ∷ names) all =
    let parts = and_parts (is_valid name) (list_all is_valid names) all in
    by (test name) parts.0 (all_kept test names parts.1)
  where
    by : (kept : Bool) → is_valid name ≡ true → list_all is_valid (filter test names) ≡ true → list_all is_valid (cond kept (name ∷ filter test names) (filter test names)) ≡ true
    by true one more = and_from (is_valid name) (list_all is_valid (filter test names)) one more
    by false one more = more

all_once : (names : List (List ℕ)) → list_all is_valid names ≡ true → list_all is_valid (each_once names) ≡ true
all_once [] all = refl
all_once (name ∷ names) all =
    let parts = and_parts (is_valid name) (list_all is_valid names) all in
    and_from (is_valid name) (list_all is_valid (filter (λ other. not (bytes_eq other name)) (each_once names))) parts.0
    (all_kept (λ other. not (bytes_eq other name)) (each_once names) (all_once names parts.1))

-- the names that values are, each once
pub names_valid : (values : List (List ℕ)) → list_all is_valid (each_once (filter_map name_in values)) ≡ true
names_valid values = all_once (filter_map name_in values) (all_named values)

pub valid_at : (names : List (List ℕ)) (i : ℕ) → i < length names → list_all is_valid names ≡ true → is_valid (get_or names i []) ≡ true
valid_at [] i within all = absurd (omega (arith, within))
valid_at (name ∷ names) zero within all = (and_parts (is_valid name) (list_all is_valid names) all).0
valid_at (name ∷ names) (suc i) within all =
    valid_at names i (omega (arith, within)) (and_parts (is_valid name) (list_all is_valid names) all).1
