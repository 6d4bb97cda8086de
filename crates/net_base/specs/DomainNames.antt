-- Names of domains as bytes (RFC 1035, sections 3.1 and 4.1.4): labels, each after its length, which a zero byte or a pointer ends.
-- This project's own limits stand beside the standard's: a label has ASCII alone, without a dot, and a pointer points back.
use Rattle.std.specs.Prelude.{◌≡◌, ◌<◌, ◌≤◌, ℕ, ◌+◌, ◌^◌, ◌==◌, Bool, true, not, ◌&&◌, nat_lt, nat_le, List, [], ◌∷◌, ◌++◌, length, map, flat_map, take, drop, Option, Some, None, if◌then◌else◌}
use Rattle.std.specs.List.{list_all, join_with_byte}
use Rattle.std.specs.Int.{bytes_high_first}
use Rattle.std.specs.Char.{is_ascii, to_ascii_lowercase}
use Rattle.net_base.specs.NdbText.{is_empty}
use Rattle.net_base.specs.Addresses.{parts_at}

-- ---- labels and names

-- ASCII, and not the dot that stands between labels in a text
abbrev pub is_label_byte : ℕ → Bool
is_label_byte b = is_ascii b && not (b == 46)

-- a label has 1 to 63 bytes
abbrev pub is_label : List ℕ → Bool
is_label label = nat_lt 0 (length label) && nat_le (length label) 63 && list_all is_label_byte label

-- a label after its length
abbrev pub label_bytes : List ℕ → List ℕ
label_bytes label = length label ∷ label

abbrev pub labels_bytes : List (List ℕ) → List ℕ
labels_bytes labels = flat_map label_bytes labels

-- a name without pointers, which a zero byte ends
abbrev pub name_bytes : List (List ℕ) → List ℕ
name_bytes labels = labels_bytes labels ++ 0 ∷ []

-- a name has at most 255 bytes, lengths and the zero byte included
abbrev pub is_domain_name : List (List ℕ) → Bool
is_domain_name labels = list_all is_label labels && nat_le (length (name_bytes labels)) 255

abbrev pub lowered : List ℕ → List ℕ
lowered text = map to_ascii_lowercase text

-- a name as a text: its labels with dots between them, in lower case
abbrev pub name_text : List (List ℕ) → List ℕ
name_text labels = lowered (join_with_byte 46 labels)

-- ---- names in a message

-- a pointer to a place: two bytes, whose first two bits are set
abbrev pub pointer_bytes : ℕ → List ℕ
pointer_bytes target = bytes_high_first 2 (49152 + target)

-- these bytes stand in the message from this place on
abbrev pub StandAt : ℕ → List ℕ → List ℕ → Type 0
StandAt place bytes message = take (length bytes) (drop place message) ≡ bytes

-- a pointer that ends the labels from a place on points behind the header, and before those labels
pub record PointsBack (place target : ℕ) : Type 0 where
  pub behind_header : 12 ≤ target
  pub back : target < place
  pub fits : target < 2 ^ 14

-- the labels that are spelled from a place on, and the place behind: labels that a zero byte ends, or labels that a pointer ends,
-- and those that are spelled where it points
pub data Spells (message : List ℕ) : ℕ → List (List ℕ) → ℕ → Type 0 where
  Ended : (place : ℕ) (labels : List (List ℕ)) (end : ℕ) → StandAt place (name_bytes labels) message
      → end ≡ place + length (name_bytes labels) → Spells message place labels end
  Pointed : (place target past : ℕ) (front rest labels : List (List ℕ)) (end : ℕ) → list_all is_label front ≡ true
      → StandAt place (labels_bytes front ++ pointer_bytes target) message → PointsBack place target
      → Spells message target rest past → labels ≡ front ++ rest → end ≡ place + length (labels_bytes front) + 2
      → Spells message place labels end

-- a name with this text stands from this place up to this end
pub record ReadsName (message : List ℕ) (place : ℕ) (text : List ℕ) (end : ℕ) : Type 0 where
  pub labels : List (List ℕ)
  pub name : is_domain_name labels ≡ true
  pub spelled : Spells message place labels end
  pub told : text ≡ name_text labels

-- ---- names as values of a database

-- the labels of a value: its parts at dots; the empty value is the root, which has none
abbrev pub labels_of : List ℕ → List (List ℕ)
labels_of value = if is_empty value then [] else parts_at 46 value

-- the name in lower case that a value is, where it is one
abbrev pub name_in : List ℕ → Option (List ℕ)
name_in value = if is_domain_name (labels_of value) then Some (lowered value) else None

-- the bytes of the name with this text
abbrev pub bytes_of_name : List ℕ → List ℕ
bytes_of_name text = name_bytes (labels_of text)
