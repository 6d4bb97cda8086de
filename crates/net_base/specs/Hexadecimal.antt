-- Bytes in hexadecimal, in lower case: two digits for each byte, the high one first.
use Rattle.std.specs.Prelude.{ℕ, ◌+◌, ◌*◌, ◌-◌, ◌/◌, ◌%◌, ◌&&◌, List, [], ◌∷◌, Option, Some, None, nat_lt, nat_le, bytes_eq, codes, if◌then◌else◌}

-- Writing.

-- a digit, in lower case
abbrev pub hex_digit : ℕ → ℕ
hex_digit n = if nat_lt n 10 then 48 + n else 87 + n

-- two digits for each byte
abbrev pub hex_digits : List ℕ → List ℕ
hex_digits [] = []
hex_digits (byte ∷ bytes) = hex_digit (byte / 16) ∷ hex_digit (byte % 16) ∷ hex_digits bytes

-- bytes as a word, which is `-` for none
abbrev pub hex_word : List ℕ → List ℕ
hex_word [] = codes "-"
hex_word (byte ∷ bytes) = hex_digits (byte ∷ bytes)

-- Reading.

-- the value of a digit in lower case
abbrev pub hex_value : ℕ → Option ℕ
hex_value b =
    if nat_le 48 b && nat_le b 57 then Some (b - 48)
    else (if nat_le 97 b && nat_le b 102 then Some (b - 87) else None)

-- one byte more, of its two digits
abbrev pub hex_byte : Option ℕ → Option ℕ → Option (List ℕ) → Option (List ℕ)
hex_byte (Some high) (Some low) (Some bytes) = Some ((high * 16 + low) ∷ bytes)
hex_byte (Some high) (Some low) None = None
hex_byte (Some high) None rest = None
hex_byte None low rest = None

-- the bytes of an even number of digits
abbrev pub hex_bytes : List ℕ → Option (List ℕ)
hex_bytes [] = Some []
hex_bytes (high ∷ []) = None
hex_bytes (high ∷ low ∷ word) = hex_byte (hex_value high) (hex_value low) (hex_bytes word)

-- the bytes of a word, where `-` stands for none
abbrev pub hex_text : List ℕ → Option (List ℕ)
hex_text [] = None
hex_text (b ∷ word) = if bytes_eq (b ∷ word) (codes "-") then Some [] else hex_bytes (b ∷ word)
