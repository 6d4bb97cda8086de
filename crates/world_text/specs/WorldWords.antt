-- The words of a world's lines, and what they are read as. Exactly one blank stands between two words.
use Rattle.std.specs.Prelude.{ℕ, List, [], ◌∷◌, Option, Some, None}
use Rattle.std.specs.List.{join_with_byte}
use Rattle.std.specs.Option.{option_to_list}
use Rattle.net_base.specs.declared.address.Proto.{Proto}
use Rattle.net_base.specs.Addresses.{parts_at}
pub use Rattle.net_base.specs.Addresses.{is_padded, number_in, octet_of, octets_joined, address_in}
pub use Rattle.net_base.specs.Hexadecimal.{hex_text}
use Rattle.net_base.specs.Paths.{proto_named}

abbrev pub words_in_line : List ℕ → List (List ℕ)
words_in_line line = parts_at 32 line

-- what is left of a line: its last words, with the blanks between them
abbrev pub words_left : List (List ℕ) → List ℕ
words_left words = join_with_byte 32 words

-- Arguments: so many words, or none where there are others.

abbrev pub single_word : List (List ℕ) → Option (List ℕ)
single_word (a ∷ []) = Some a
single_word _ = None

pub record Two : Type 0 where
  pub first : List ℕ
  pub second : List ℕ

abbrev pub two : List (List ℕ) → Option Two
two (a ∷ b ∷ []) = Some (record { first = a; second = b })
two _ = None

pub record Three : Type 0 where
  pub first : List ℕ
  pub second : List ℕ
  pub third : List ℕ

abbrev pub three : List (List ℕ) → Option Three
three (a ∷ b ∷ c ∷ []) = Some (record { first = a; second = b; third = c })
three _ = None

pub record Four : Type 0 where
  pub first : List ℕ
  pub second : List ℕ
  pub third : List ℕ
  pub fourth : List ℕ

abbrev pub four : List (List ℕ) → Option Four
four (a ∷ b ∷ c ∷ d ∷ []) = Some (record { first = a; second = b; third = c; fourth = d })
four _ = None

abbrev pub both_nets : Option Proto → Option Proto → List Proto
both_nets (Some p) (Some q) = p ∷ q ∷ []
both_nets (Some p) None = []
both_nets None q = []

-- the nets of one word or two; none where a word names none
abbrev pub nets_named : List (List ℕ) → List Proto
nets_named (a ∷ []) = option_to_list (proto_named a)
nets_named (a ∷ b ∷ []) = both_nets (proto_named a) (proto_named b)
nets_named _ = []
