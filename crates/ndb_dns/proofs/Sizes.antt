-- A name has two bytes more as bytes than as a text: the first length and the zero byte.
use Rattle.std.proofs.Common.{◌≡◌, ℕ, ◌+◌, ◌<◌, ◌≤◌, nat_le, Bool, true, false, ◌&&◌, List, [], ◌∷◌, length, length-append, refl, sym, ap, ◌∙◌, arith}
use Rattle.std.specs.List.{list_all, join_with_byte}
use Rattle.std.proofs.lemmas.Bool.Decides.{nat_tests}
use Rattle.std.proofs.lemmas.List.Splits.{join_with_byte-slice_split}
use Rattle.net_base.specs.Addresses.{parts_at}
use Rattle.net_base.specs.DomainNames.{is_label, is_domain_name, labels_bytes, labels_of, name_bytes}

-- labels have a byte more than their text
pub size_of : (label : List ℕ) (labels : List (List ℕ)) → length (labels_bytes (label ∷ labels)) ≡ length (join_with_byte 46 (label ∷ labels)) + 1
size_of label [] = omega (arith, length-append label [])
size_of label (next ∷ labels) =
    let rest = size_of next labels in
    let left = length-append label (labels_bytes (next ∷ labels)) in
    let right = length-append label (46 ∷ join_with_byte 46 (next ∷ labels)) in
    omega (arith, rest, left, right)

size_parts : (parts : List (List ℕ)) (text : List ℕ) → join_with_byte 46 parts ≡ text → 0 < length text → length (name_bytes parts) ≡ length text + 2
size_parts [] text e some = absurd (omega (arith, ap length e, some))
size_parts (part ∷ parts) text e some =
    let size = size_of part parts in
    let more = length-append (labels_bytes (part ∷ parts)) (0 ∷ []) in
    omega (arith, size, more, ap length e)

and_holds : (a b : Bool) → b ≡ true → a ≡ (a && b)
and_holds true b e = sym e
and_holds false b e = refl

and_fails : (a b : Bool) → b ≡ false → false ≡ (a && b)
and_fails true b e = sym e
and_fails false b e = refl

-- a text that isn't too long is a name where its parts are labels
pub short_name : (text : List ℕ) (all : Bool) → 0 < length text → length text ≤ 253 → all ≡ list_all is_label (parts_at 46 text) → all ≡ is_domain_name (labels_of text)
short_name [] all some few e = absurd (omega (arith, some))
short_name (b ∷ text) all some few e =
    let size = size_parts (parts_at 46 (b ∷ text)) (b ∷ text) (join_with_byte-slice_split 46 (b ∷ text)) some in
    let fits : nat_le (length (name_bytes (parts_at 46 (b ∷ text)))) 255 ≡ true = grind (arith, nat_tests, size, few) in
    e ∙ and_holds (list_all is_label (parts_at 46 (b ∷ text))) (nat_le (length (name_bytes (parts_at 46 (b ∷ text)))) 255) fits

-- a longer one is none
pub long_name : (text : List ℕ) → 253 < length text → false ≡ is_domain_name (labels_of text)
long_name [] many = absurd (omega (arith, many))
long_name (b ∷ text) many =
    let some : 0 < length (b ∷ text) = omega arith in
    let size = size_parts (parts_at 46 (b ∷ text)) (b ∷ text) (join_with_byte-slice_split 46 (b ∷ text)) some in
    let fits : nat_le (length (name_bytes (parts_at 46 (b ∷ text)))) 255 ≡ false = grind (arith, nat_tests, size, many) in
    and_fails (list_all is_label (parts_at 46 (b ∷ text))) (nat_le (length (name_bytes (parts_at 46 (b ∷ text)))) 255) fits
