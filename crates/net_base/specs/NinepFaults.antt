-- How far bytes look like a message: each step is what the fault after it presumes.
use Rattle.std.specs.Prelude.{◌≡◌, ◌≤◌, ℕ, Bool, true, List, ◌∷◌, [], length, drop, slice_index, nat_eq}
use Rattle.std.specs.List.{list_any}
use Rattle.byteorder.specs.Endian.{little_number}
use Rattle.net_base.specs.NinepMessages.{longest}

-- the size that the bytes tell
abbrev pub size_field : List ℕ → ℕ
size_field bytes = little_number 4 bytes

abbrev pub type_field : List ℕ → ℕ
type_field bytes = slice_index bytes 4

abbrev pub tag_field : List ℕ → ℕ
tag_field bytes = little_number 2 (drop 5 bytes)

-- the types of T-messages, and those of R-messages
abbrev pub is_t_type : ℕ → Bool
is_t_type n = list_any (nat_eq n) (100 ∷ 102 ∷ 104 ∷ 108 ∷ 110 ∷ 112 ∷ 114 ∷ 116 ∷ 118 ∷ 120 ∷ 122 ∷ 124 ∷ 126 ∷ [])

abbrev pub is_r_type : ℕ → Bool
is_r_type n = list_any (nat_eq n) (101 ∷ 103 ∷ 105 ∷ 107 ∷ 109 ∷ 111 ∷ 113 ∷ 115 ∷ 117 ∷ 119 ∷ 121 ∷ 123 ∷ 125 ∷ 127 ∷ [])

-- there are bytes enough for a size, a type and a tag
abbrev pub HasHeader : List ℕ → Type 0
HasHeader bytes = 7 ≤ length bytes

-- .. as many as the size says, and no more than there may be
pub record HasSize (bytes : List ℕ) : Type 0 where
  pub header : HasHeader bytes
  pub whole : size_field bytes ≡ length bytes
  pub short : length bytes ≤ longest

-- .. and the type is a T-message's
abbrev pub HasTType : List ℕ → Type 0
HasTType bytes = HasSize bytes × (is_t_type (type_field bytes) ≡ true)

-- .. or an R-message's
abbrev pub HasRType : List ℕ → Type 0
HasRType bytes = HasSize bytes × (is_r_type (type_field bytes) ≡ true)
