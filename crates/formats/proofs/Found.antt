-- The labels that bytes begin with, found and spelled.
use Rattle.std.proofs.Common.{◌≡◌, ℕ, zero, suc, ◌*◌, ◌<◌, ◌≤◌, ◌==◌, Bool, true, false, cond, ◌&&◌, List, [], ◌∷◌, ◌++◌, length, take, drop, Option, Some, None, option_map, refl, sym, ap, ◌∙◌, arith, append_assoc, length-append}
use Rattle.std.specs.Prelude.{nat_lt, nat_le, option_and_then}
use Rattle.std.specs.List.{list_all}
use Rattle.std.proofs.lemmas.Bool.{true≢false, false≢true, and_parts, and_from, ltb-true, leb-true, eqb-true, eq-eqb, ne_eqb}
use Rattle.std.proofs.lemmas.List.{take_at, drop_at, take-append-drop}
use Rattle.std.proofs.lemmas.Option.{none-some, same_Some}
use Rattle.net_base.specs.DomainNames.{is_label, is_label_byte, is_domain_name, labels_bytes, name_bytes}
use Rattle.net_base.specs.DomainQuestions.{labels_in, name_at_front}

-- ---- labels

pub label_some : (label : List ℕ) → is_label label ≡ true → 0 < length label
label_some label valid =
    ltb-true 0 (length label)
    (and_parts (nat_lt 0 (length label)) (nat_le (length label) 63)
    (and_parts (nat_lt 0 (length label) && nat_le (length label) 63) (list_all is_label_byte label) valid).0).0

pub label_few : (label : List ℕ) → is_label label ≡ true → length label ≤ 63
label_few label valid =
    leb-true (length label) 63
    (and_parts (nat_lt 0 (length label)) (nat_le (length label) 63)
    (and_parts (nat_lt 0 (length label) && nat_le (length label) 63) (list_all is_label_byte label) valid).0).1

pub label_not_zero : (label : List ℕ) → is_label label ≡ true → (length label == 0) ≡ false
label_not_zero label valid = ne_eqb (length label) 0 (λ (e : length label ≡ 0). omega (arith, label_some label valid, e))

-- a label has two bytes at least, with its length
pub labels_fit : (labels : List (List ℕ)) → list_all is_label labels ≡ true → 2 * length labels ≤ length (labels_bytes labels)
labels_fit [] valid = omega arith
labels_fit (label ∷ labels) valid =
    let parts = and_parts (is_label label) (list_all is_label labels) valid in
    omega (arith, labels_fit labels parts.1, label_some label parts.0, length-append label (labels_bytes labels))

-- a name's first label stands before the rest of it
pub first_label : (label : List ℕ) (labels : List (List ℕ)) (rest : List ℕ) → name_bytes (label ∷ labels) ++ rest ≡ length label ∷ (label ++ (name_bytes labels ++ rest))
first_label label labels rest =
    ap (λ (xs : List ℕ). length label ∷ xs)
    (append_assoc (label ++ labels_bytes labels) (0 ∷ []) rest
    ∙ append_assoc label (labels_bytes labels) (0 ∷ rest)
    ∙ ap (λ (xs : List ℕ). label ++ xs) (sym (append_assoc (labels_bytes labels) (0 ∷ []) rest)))

-- ---- what is spelled is found

second_of : {A : Type 0} (first second : Bool) (x y z : A) → first ≡ false → second ≡ true → cond first x (cond second y z) ≡ y
second_of true second x y z e f = absurd (true≢false e)
second_of false true x y z e f = refl
second_of false false x y z e f = absurd (false≢true f)

one_found : (most : ℕ) (label behind : List ℕ) → is_label label ≡ true → labels_in (suc most) (length label ∷ (label ++ behind)) ≡ option_map (λ (labels : List (List ℕ)). label ∷ labels) (labels_in most behind)
one_found most label behind valid =
    let taken = take_at label behind (length label) refl in
    let dropped = drop_at label behind (length label) refl in
    second_of (length label == 0)
    (is_label (take (length label) (label ++ behind)) && length (take (length label) (label ++ behind)) == length label)
    (Some [])
    (option_map (λ (labels : List (List ℕ)). take (length label) (label ++ behind) ∷ labels) (labels_in most (drop (length label) (label ++ behind))))
    None
    (label_not_zero label valid)
    (ap (λ (l : List ℕ). is_label l && length l == length label) taken
    ∙ and_from (is_label label) (length label == length label) valid (eq-eqb (length label) (length label) refl))
    ∙ ap (λ (l : List ℕ). option_map (λ (labels : List (List ℕ)). l ∷ labels) (labels_in most (drop (length label) (label ++ behind)))) taken
    ∙ ap (λ (b : List ℕ). option_map (λ (labels : List (List ℕ)). label ∷ labels) (labels_in most b)) dropped

pub labels_found : (most : ℕ) (labels : List (List ℕ)) (rest : List ℕ) → list_all is_label labels ≡ true → length labels < most → labels_in most (name_bytes labels ++ rest) ≡ Some labels
labels_found zero labels rest valid few = absurd (omega (arith, few))
labels_found (suc most) [] rest valid few = refl
labels_found (suc most) (label ∷ labels) rest valid few =
    let parts = and_parts (is_label label) (list_all is_label labels) valid in
    ap (labels_in (suc most)) (first_label label labels rest)
    ∙ one_found most label (name_bytes labels ++ rest) parts.0
    ∙ ap (option_map (λ (more : List (List ℕ)). label ∷ more)) (labels_found most labels rest parts.1 (omega (arith, few)))

kept_name : (labels : List (List ℕ)) → is_domain_name labels ≡ true → cond (is_domain_name labels) (Some labels) None ≡ Some labels
kept_name labels name = ap (λ (b : Bool). cond b (Some labels) None) name

name_parts : (labels : List (List ℕ)) → is_domain_name labels ≡ true → (list_all is_label labels ≡ true) × (nat_le (length (name_bytes labels)) 255 ≡ true)
name_parts labels name = and_parts (list_all is_label labels) (nat_le (length (name_bytes labels)) 255) name

pub name_valid : (labels : List (List ℕ)) → is_domain_name labels ≡ true → list_all is_label labels ≡ true
name_valid labels name = (name_parts labels name).0

pub name_short : (labels : List (List ℕ)) → is_domain_name labels ≡ true → length (name_bytes labels) ≤ 255
name_short labels name = leb-true (length (name_bytes labels)) 255 (name_parts labels name).1

pub name_found : (labels : List (List ℕ)) (rest : List ℕ) → is_domain_name labels ≡ true → name_at_front (name_bytes labels ++ rest) ≡ Some labels
name_found labels rest name =
    let valid = name_valid labels name in
    let short = name_short labels name in
    let few : length labels < 128 = omega (arith, labels_fit labels valid, short, length-append (labels_bytes labels) (0 ∷ [])) in
    ap (option_and_then (λ (found : List (List ℕ)). cond (is_domain_name found) (Some found) None)) (labels_found 128 labels rest valid few)
    ∙ kept_name labels name

-- ---- what is found is spelled

abbrev Begins : List ℕ → List (List ℕ) → Type 0
Begins bytes labels = (rest : List ℕ) × (bytes ≡ name_bytes labels ++ rest)

begins_with : (count : ℕ) (bytes rest : List ℕ) (more labels : List (List ℕ)) → length (take count bytes) ≡ count → drop count bytes ≡ name_bytes more ++ rest → (take count bytes ∷ more) ≡ labels → (count ∷ bytes) ≡ name_bytes labels ++ rest
begins_with count bytes rest more labels size behind are =
    let label = take count bytes in
    ap (λ (xs : List ℕ). count ∷ xs) (sym (take-append-drop count bytes) ∙ ap (λ (xs : List ℕ). label ++ xs) behind)
    ∙ ap (λ (n : ℕ). n ∷ (label ++ (name_bytes more ++ rest))) (sym size)
    ∙ sym (first_label label more rest)
    ∙ ap (λ (ls : List (List ℕ)). name_bytes ls ++ rest) are

begun : (count : ℕ) (bytes : List ℕ) (labels : List (List ℕ)) (more : Option (List (List ℕ))) → ((found : List (List ℕ)) → more ≡ Some found → Begins (drop count bytes) found) → (ends : Bool) → (count == 0) ≡ ends → (taken : Bool) → (is_label (take count bytes) && length (take count bytes) == count) ≡ taken → cond ends (Some []) (cond taken (option_map (λ (ls : List (List ℕ)). take count bytes ∷ ls) more) None) ≡ Some labels → Begins (count ∷ bytes) labels
begun count bytes labels more begins true zero_is taken taken_is e =
    (bytes, ap (λ (c : ℕ). c ∷ bytes) (eqb-true count 0 zero_is) ∙ ap (λ (ls : List (List ℕ)). name_bytes ls ++ bytes) (same_Some [] labels e))
begun count bytes labels (Some found) begins false zero_is true taken_is e =
    let behind = begins found refl in
    (behind.0, begins_with count bytes behind.0 found labels (eqb-true (length (take count bytes)) count (and_parts (is_label (take count bytes)) (length (take count bytes) == count) taken_is).1) behind.1 (same_Some (take count bytes ∷ found) labels e))
begun count bytes labels None begins false zero_is true taken_is e = absurd (none-some labels e)
begun count bytes labels more begins false zero_is false taken_is e = absurd (none-some labels e)

labels_begin : (most : ℕ) (bytes : List ℕ) (labels : List (List ℕ)) → labels_in most bytes ≡ Some labels → Begins bytes labels
labels_begin zero bytes labels e = absurd (none-some labels e)
labels_begin (suc most) [] labels e = absurd (none-some labels e)
labels_begin (suc most) (count ∷ bytes) labels e =
    begun count bytes labels (labels_in most (drop count bytes)) (labels_begin most (drop count bytes)) (count == 0) refl (is_label (take count bytes) && length (take count bytes) == count) refl e

kept : (most : Option (List (List ℕ))) (labels : List (List ℕ)) → option_and_then (λ (found : List (List ℕ)). cond (is_domain_name found) (Some found) None) most ≡ Some labels → (most ≡ Some labels) × (is_domain_name labels ≡ true)
kept None labels e = absurd (none-some labels e)
kept (Some found) labels e = by (is_domain_name found) refl e
  where
    by : (test : Bool) → is_domain_name found ≡ test → cond test (Some found) None ≡ Some labels → (Some found ≡ Some labels) × (is_domain_name labels ≡ true)
    by true is e = (e, sym (ap is_domain_name (same_Some found labels e)) ∙ is)
    by false is e = absurd (none-some labels e)

-- the name that bytes begin with
pub name_begins : (bytes : List ℕ) (labels : List (List ℕ)) → name_at_front bytes ≡ Some labels → (is_domain_name labels ≡ true) × ((rest : List ℕ) × (bytes ≡ name_bytes labels ++ rest))
name_begins bytes labels e =
    let found = kept (labels_in 128 bytes) labels e in
    (found.1, labels_begin 128 bytes labels found.0)
