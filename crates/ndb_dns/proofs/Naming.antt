-- Runs of labels as they are read, and as they are spelled.
use Rattle.std.proofs.Common.{◌≡◌, ℕ, ◌+◌, ◌-◌, ◌*◌, ◌/◌, ◌%◌, ◌^◌, ◌<◌, ◌≤◌, ◌==◌, Bool, true, false, cond, ◌&&◌, List, [], ◌∷◌, ◌++◌, length, get_or, take, drop, Option, Some, None, refl, sym, ap, ◌∙◌, arith, subst, append-nil, append_assoc, length-append}
use Rattle.std.specs.Prelude.{nat_lt, nat_le, option_and_then}
use Rattle.std.specs.List.{list_all, join_with_byte}
use Rattle.std.specs.Char.{to_ascii_lowercase}
use Rattle.std.proofs.lemmas.Bool.{false≢true, and_parts, and_from, ltb-false, leb-true, le-ltb, eqb-true, eq-eqb, ne_eqb, le-leb}
use Rattle.std.proofs.lemmas.List.{take_at, drop_at, take-append-drop, length-map, map-append}
use Rattle.std.proofs.lemmas.Option.{none-some, same_Some}
use Rattle.formats.proofs.Shared.{word_again}
use Rattle.net_base.specs.DomainNames.{is_label, is_domain_name, label_bytes, labels_bytes, lowered, name_bytes, name_text, pointer_bytes}
use Rattle.formats.proofs.Shared.{label_few}
use Rattle.ndb_dns.specs.declared.name.End.{End}
use Rattle.ndb_dns.proofs.Sizes.{size_of}
use Rattle.ndb_dns.specs.Runs.{Runs, allowed, behind_label, run_end_of, label_of, may_point, pointer_behind, pointer_in, with_label, with_labels, zero_end}

-- ---- one label

-- no label is as long as that
pub none_long : (count : ℕ) (bytes : List ℕ) → 63 < count → label_of (count ∷ bytes) ≡ None
none_long count bytes long = by (is_label (take count bytes) && length (take count bytes) == count) refl
  where
    by : (fits : Bool) → (is_label (take count bytes) && length (take count bytes) == count) ≡ fits → cond fits (Some (take count bytes)) None ≡ None
    by false is = refl
    by true is =
        let parts = and_parts (is_label (take count bytes)) (length (take count bytes) == count) is in
        absurd (omega (arith, long, label_few (take count bytes) parts.0, eqb-true (length (take count bytes)) count parts.1))

pub some_label : (count : ℕ) (bytes label : List ℕ) → label ≡ take count bytes → length label ≡ count → is_label label ≡ true → label_of (count ∷ bytes) ≡ Some label
some_label count bytes label is size valid =
    ap (λ (b : Bool). cond b (Some (take count bytes)) None)
    (and_from (is_label (take count bytes)) (length (take count bytes) == count) (sym (ap is_label is) ∙ valid) (eq-eqb (length (take count bytes)) count (sym (ap (λ (xs : List ℕ). length xs) is) ∙ size)))
    ∙ ap Some (sym is)

-- a label that is read stands in front
pub record Stands (bytes label : List ℕ) : Type 0 where
  pub valid : is_label label ≡ true
  pub front : bytes ≡ label_bytes label ++ behind_label label bytes

pub label_stands : (bytes label : List ℕ) → label_of bytes ≡ Some label → Stands bytes label
label_stands [] label e = absurd (none-some label e)
label_stands (count ∷ bytes) label e = by (is_label (take count bytes) && length (take count bytes) == count) refl e
  where
    taken : length (take count bytes) ≡ count → (count ∷ bytes) ≡ label_bytes (take count bytes) ++ behind_label (take count bytes) (count ∷ bytes)
    taken size =
        ap (λ (n : ℕ). n ∷ bytes) (sym size)
        ∙ ap (λ (xs : List ℕ). length (take count bytes) ∷ xs)
        (sym (take-append-drop count bytes) ∙ ap (λ (n : ℕ). take count bytes ++ drop n bytes) (sym size))

    by : (fits : Bool) → (is_label (take count bytes) && length (take count bytes) == count) ≡ fits → cond fits (Some (take count bytes)) None ≡ Some label → Stands (count ∷ bytes) label
    by false is f = absurd (none-some label f)
    by true is f =
        let parts = and_parts (is_label (take count bytes)) (length (take count bytes) == count) is in
        subst (Stands (count ∷ bytes)) (same_Some (take count bytes) label f)
        (record { valid = parts.0; front = taken (eqb-true (length (take count bytes)) count parts.1) })

-- a label that stands in front is read
pub stands_label : (label behind : List ℕ) → is_label label ≡ true → label_of (label_bytes label ++ behind) ≡ Some label
stands_label label behind valid = some_label (length label) (label ++ behind) label (sym (take_at label behind (length label) refl)) refl valid

-- ---- labels in a row

pub record AreSpelled (bytes : List ℕ) (labels : List (List ℕ)) (rest : List ℕ) : Type 0 where
  pub valid : list_all is_label labels ≡ true
  pub front : bytes ≡ labels_bytes labels ++ rest
  pub none : label_of rest ≡ None

pub runs_spelled : (bytes : List ℕ) (labels : List (List ℕ)) (rest : List ℕ) → Runs bytes labels rest → AreSpelled bytes labels rest
runs_spelled bytes [] rest run = record { valid = refl; front = sym run.0; none = ap label_of run.0 ∙ run.1 }
runs_spelled bytes (label ∷ labels) rest run =
    let one = label_stands bytes label run.0 in
    let more = runs_spelled (behind_label label bytes) labels rest run.1 in record {
      valid = and_from (is_label label) (list_all is_label labels) one.valid more.valid;
      front =
          one.front ∙ ap (λ (xs : List ℕ). label_bytes label ++ xs) more.front
          ∙ sym (append_assoc (label_bytes label) (labels_bytes labels) rest);
      none = more.none;
    }

pub spelled_runs : (labels : List (List ℕ)) (rest : List ℕ) → list_all is_label labels ≡ true → label_of rest ≡ None → Runs (labels_bytes labels ++ rest) labels rest
spelled_runs [] rest valid none = (refl, none)
spelled_runs (label ∷ labels) rest valid none =
    let parts = and_parts (is_label label) (list_all is_label labels) valid in
    let layout = append_assoc (label_bytes label) (labels_bytes labels) rest in
    let behind : behind_label label (labels_bytes (label ∷ labels) ++ rest) ≡ labels_bytes labels ++ rest =
    ap (behind_label label) layout ∙ drop_at label (labels_bytes labels ++ rest) (length label) refl
    in (
      ap label_of layout ∙ stands_label label (labels_bytes labels ++ rest) parts.0,
      subst (λ (bytes : List ℕ). Runs bytes labels rest) (sym behind) (spelled_runs labels rest parts.1 none),
    )

-- bytes begin with labels in one way
pub runs_once : (bytes : List ℕ) (labels others : List (List ℕ)) (rest other : List ℕ) → Runs bytes labels rest → Runs bytes others other → (labels ≡ others) × (rest ≡ other)
runs_once bytes [] [] rest other run again = (refl, run.0 ∙ sym again.0)
runs_once bytes [] (label ∷ others) rest other run again = absurd (none-some label (sym run.1 ∙ again.0))
runs_once bytes (label ∷ labels) [] rest other run again = absurd (none-some label (sym again.1 ∙ run.0))
runs_once bytes (label ∷ labels) (same ∷ others) rest other run again =
    let is = same_Some label same (sym run.0 ∙ again.0) in
    let more = runs_once (behind_label label bytes) labels others rest other run.1 (subst (λ (l : List ℕ). Runs (behind_label l bytes) others other) (sym is) again.1) in
    (ap (λ (l : List ℕ). l ∷ labels) is ∙ ap (λ (ls : List (List ℕ)). same ∷ ls) more.0, more.1)

-- ---- texts

pub with_more : (text : List ℕ) (front rest : List (List ℕ)) → with_labels text (front ++ rest) ≡ with_labels (with_labels text front) rest
with_more text [] rest = refl
with_more text (label ∷ front) rest = with_more (with_label text label) front rest

label_longer : (text label : List ℕ) → length text ≤ length (with_label text label)
label_longer [] label = omega arith
label_longer (b ∷ text) label =
    omega (arith, length-append ((b ∷ text) ++ 46 ∷ []) (lowered label), length-append (b ∷ text) (46 ∷ []))

pub labels_longer : (text : List ℕ) (labels : List (List ℕ)) → length text ≤ length (with_labels text labels)
labels_longer text [] = omega arith
labels_longer text (label ∷ labels) = omega (arith, label_longer text label, labels_longer (with_label text label) labels)

-- labels with dots before them
dotted : List (List ℕ) → List ℕ
dotted [] = []
dotted (label ∷ labels) = 46 ∷ (lowered label ++ dotted labels)

behind_some : (b : ℕ) (text : List ℕ) (labels : List (List ℕ)) → with_labels (b ∷ text) labels ≡ (b ∷ text) ++ dotted labels
unfolding dotted
behind_some b text [] = sym (append-nil (b ∷ text))
behind_some b text (label ∷ labels) =
    behind_some b ((text ++ 46 ∷ []) ++ lowered label) labels
    ∙ ap (λ (xs : List ℕ). b ∷ xs)
    (append_assoc (text ++ 46 ∷ []) (lowered label) (dotted labels) ∙ append_assoc text (46 ∷ []) (lowered label ++ dotted labels))

joined : (label : List ℕ) (labels : List (List ℕ)) → name_text (label ∷ labels) ≡ lowered label ++ dotted labels
unfolding dotted
joined label [] = sym (append-nil (lowered label))
joined label (next ∷ labels) =
    map-append to_ascii_lowercase label (46 ∷ join_with_byte 46 (next ∷ labels))
    ∙ ap (λ (xs : List ℕ). lowered label ++ (46 ∷ xs)) (joined next labels)

first_text : (label : List ℕ) (labels : List (List ℕ)) → is_label label ≡ true → with_labels [] (label ∷ labels) ≡ lowered label ++ dotted labels
first_text [] labels valid = absurd (false≢true valid)
first_text (b ∷ label) labels valid = behind_some (to_ascii_lowercase b) (lowered label) labels

-- the text of labels is the name's
pub text_is : (labels : List (List ℕ)) → list_all is_label labels ≡ true → with_labels [] labels ≡ name_text labels
text_is [] valid = refl
text_is (label ∷ labels) valid =
    first_text label labels (and_parts (is_label label) (list_all is_label labels) valid).0 ∙ sym (joined label labels)

text_size : (label : List ℕ) (labels : List (List ℕ)) → list_all is_label (label ∷ labels) ≡ true → length (name_bytes (label ∷ labels)) ≡ length (with_labels [] (label ∷ labels)) + 2
text_size label labels valid =
    let text = ap (λ (xs : List ℕ). length xs) (text_is (label ∷ labels) valid) in
    let bytes = length-append (labels_bytes (label ∷ labels)) (0 ∷ []) in
    let joins = length-map (join_with_byte 46 (label ∷ labels)) to_ascii_lowercase in
    omega (arith, text, bytes, joins, size_of label labels)

-- a short text is a name's
pub short_is_name : (labels : List (List ℕ)) → list_all is_label labels ≡ true → length (with_labels [] labels) ≤ 253 → is_domain_name labels ≡ true
short_is_name [] valid short = refl
short_is_name (label ∷ labels) valid short =
    and_from (list_all is_label (label ∷ labels)) (nat_le (length (name_bytes (label ∷ labels))) 255) valid
    (le-leb (length (name_bytes (label ∷ labels))) 255 (omega (arith, short, text_size label labels valid)))

pub name_is_short : (labels : List (List ℕ)) → is_domain_name labels ≡ true → length (with_labels [] labels) ≤ 253
name_is_short [] name = omega arith
name_is_short (label ∷ labels) name =
    let parts = and_parts (list_all is_label (label ∷ labels)) (nat_le (length (name_bytes (label ∷ labels))) 255) name in
    let most = leb-true (length (name_bytes (label ∷ labels))) 255 parts.1 in
    omega (arith, most, text_size label labels parts.0)

-- ---- what ends labels

-- a pointer's bytes are read as its target
pub pointer_is_read : (target : ℕ) (tail : List ℕ) → target < 2 ^ 14 → run_end_of (pointer_bytes target ++ tail) ≡ Some (record { len = 2; target = Some target })
pointer_is_read target tail fits =
    let number = 49152 + target in
    let high : (number / 256 % 256 == 0) ≡ false = ne_eqb (number / 256 % 256) 0 (λ (e : number / 256 % 256 ≡ 0). omega (arith, e, fits)) in
    let whole : 256 * (number / 256 % 256) + number % 256 ≡ number = word_again number (omega (arith, fits)) in
    let great : nat_lt number 49152 ≡ false = le-ltb number 49152 (omega arith) in
    let less : number - 49152 ≡ target = omega arith in
    ap (λ (b : Bool). cond b (Some zero_end) (pointer_in (256 * (number / 256 % 256) + number % 256))) high
    ∙ ap pointer_in whole
    ∙ ap (λ (b : Bool). cond b None (Some (record { len = 2; target = Some (number - 49152) }))) great
    ∙ ap (λ (n : ℕ). Some (record { len = 2; target = Some n })) less

pub no_label_at_pointer : (target : ℕ) (tail : List ℕ) → target < 2 ^ 14 → label_of (pointer_bytes target ++ tail) ≡ None
no_label_at_pointer target tail fits = none_long ((49152 + target) / 256 % 256) ((49152 + target) % 256 ∷ tail) (omega (arith, fits))

-- what ends labels, by what stands there
pub data EndsBy (bytes : List ℕ) (last : End) : Type 0 where
  ByZero : (tail : List ℕ) → bytes ≡ 0 ∷ tail → last ≡ zero_end → EndsBy bytes last
  ByPointer : (target : ℕ) (tail : List ℕ) → target < 2 ^ 14 → bytes ≡ pointer_bytes target ++ tail → last ≡ record { len = 2; target = Some target } → EndsBy bytes last

pointed : (high low : ℕ) (tail : List ℕ) (last : End) → high < 256 → low < 256 → pointer_in (256 * high + low) ≡ Some last → EndsBy (high ∷ low ∷ tail) last
pointed high low tail last h l e = by (nat_lt (256 * high + low) 49152) refl e
  where
    by : (small : Bool) → nat_lt (256 * high + low) 49152 ≡ small → cond small None (Some (record { len = 2; target = Some (256 * high + low - 49152) })) ≡ Some last → EndsBy (high ∷ low ∷ tail) last
    by true is f = absurd (none-some last f)
    by false is f =
        let great = ltb-false (256 * high + low) 49152 is in
        let first : high ≡ (49152 + (256 * high + low - 49152)) / 256 % 256 = omega (arith, great, h, l) in
        let second : low ≡ (49152 + (256 * high + low - 49152)) % 256 = omega (arith, great, h, l) in
        ByPointer (256 * high + low - 49152) tail (omega (arith, great, h, l))
        (ap (λ (n : ℕ). n ∷ low ∷ tail) first ∙ ap (λ (n : ℕ). (49152 + (256 * high + low - 49152)) / 256 % 256 ∷ n ∷ tail) second)
        (sym (same_Some (record { len = 2; target = Some (256 * high + low - 49152) }) last f))

behind_high : (high : ℕ) (bytes : List ℕ) (last : End) → ((i : ℕ) → get_or (high ∷ bytes) i 0 < 256) → (ends : Bool) → (high == 0) ≡ ends → cond ends (Some zero_end) (pointer_behind high bytes) ≡ Some last → EndsBy (high ∷ bytes) last
behind_high high bytes last fits true is e = ByZero bytes (ap (λ (n : ℕ). n ∷ bytes) (eqb-true high 0 is)) (sym (same_Some zero_end last e))
behind_high high [] last fits false is e = absurd (none-some last e)
behind_high high (low ∷ tail) last fits false is e = pointed high low tail last (fits 0) (fits 1) e

-- by what stands there labels end
pub ends_by : (bytes : List ℕ) (last : End) → ((i : ℕ) → get_or bytes i 0 < 256) → run_end_of bytes ≡ Some last → EndsBy bytes last
ends_by [] last fits e = absurd (none-some last e)
ends_by (high ∷ bytes) last fits e = behind_high high bytes last fits (high == 0) refl e

-- an end that may be: its pointer may point there
pub record MayEnd (place : ℕ) (found : Option End) (last : End) : Type 0 where
  pub is : found ≡ Some last
  pub may : may_point place last.target ≡ true

pub may_end : (place : ℕ) (found : Option End) (last : End) → option_and_then (allowed place) found ≡ Some last → MayEnd place found last
may_end place None last e = absurd (none-some last e)
may_end place (Some found) last e = by (may_point place found.target) refl e
  where
    by : (may : Bool) → may_point place found.target ≡ may → cond may (Some found) None ≡ Some last → MayEnd place (Some found) last
    by false is f = absurd (none-some last f)
    by true is f = record { is = f; may = sym (ap (λ (l : End). may_point place l.target) (same_Some found last f)) ∙ is }
