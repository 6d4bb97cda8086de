-- Numbers, addresses and ports as words, and the words that they are written as.
use Rattle.std.specs.Prelude.{ℕ, ◌+◌, ◌*◌, ◌/◌, ◌%◌, ◌^◌, Bool, false, ◌&&◌, ◌==◌, nat_lt, nat_le, List, [], ◌∷◌, ◌++◌, length, Option, Some, None, option_and_then, if◌then◌else◌, codes, decimal}
use Rattle.std.specs.List.{slice_split, list_all}
use Rattle.std.specs.Char.{is_ascii_digit}
use Rattle.std.specs.Str.Parse.{digits_value}

-- the number of a word of at least one digit and at most so many, leading zeros included
abbrev pub read_digits : ℕ → List ℕ → Option ℕ
read_digits most word =
    if nat_lt 0 (length word) && nat_le (length word) most && list_all is_ascii_digit word
    then Some (digits_value 10 word) else None

-- the number, where it is neither below the one bound nor above the other
abbrev pub within : ℕ → ℕ → ℕ → Option ℕ
within least greatest n = if nat_le least n && nat_le n greatest then Some n else None

-- a number of an address: 0 to 255, of one to three digits
abbrev pub read_byte : List ℕ → Option ℕ
read_byte word = option_and_then (within 0 255) (read_digits 3 word)

-- a port: 1 to 65535, of one to five digits
abbrev pub read_port : List ℕ → Option ℕ
read_port word = option_and_then (within 1 65535) (read_digits 5 word)

-- the address of four numbers, where all four are there
abbrev pub join_bytes : Option ℕ → Option ℕ → Option ℕ → Option ℕ → Option ℕ
join_bytes (Some a) (Some b) (Some c) (Some d) = Some (((a * 256 + b) * 256 + c) * 256 + d)
join_bytes (Some a) (Some b) (Some c) None = None
join_bytes (Some a) (Some b) None fourth = None
join_bytes (Some a) None third fourth = None
join_bytes None second third fourth = None

-- the address of four words
abbrev pub join_words : List (List ℕ) → Option ℕ
join_words (a ∷ b ∷ c ∷ d ∷ []) = join_bytes (read_byte a) (read_byte b) (read_byte c) (read_byte d)
join_words _ = None

-- the parts of a word between the occurrences of a byte
abbrev pub parts_at : ℕ → List ℕ → List (List ℕ)
parts_at separator word = slice_split (λ byte. byte == separator) word

-- an address: four numbers joined by dots
abbrev pub read_address : List ℕ → Option ℕ
read_address word = join_words (parts_at 46 word)

-- four numbers joined by dots, each written so
abbrev pub dotted_by : (ℕ → List ℕ) → ℕ → List ℕ
dotted_by write ip =
    write (ip / 2 ^ 24) ++ codes "." ++ write (ip / 2 ^ 16 % 256) ++ codes "." ++ write (ip / 2 ^ 8 % 256)
    ++ codes "." ++ write (ip % 256)

-- an address in decimal, without leading zeros
abbrev pub address_text : ℕ → List ℕ
address_text ip = dotted_by decimal ip

-- Without leading zeros.

-- a number begins with a zero that it doesn't need
abbrev pub is_padded : List ℕ → Bool
is_padded (b ∷ c ∷ word) = b == 48
is_padded _ = false

-- a number from the one bound to the other
abbrev pub number_in : ℕ → ℕ → List ℕ → Option ℕ
number_in least greatest word =
    if is_padded word then None else option_and_then (within least greatest) (read_digits 20 word)

-- a number of an address: 0 to 255
abbrev pub octet_of : List ℕ → Option ℕ
octet_of word = if is_padded word then None else read_byte word

abbrev pub octets_joined : List (List ℕ) → Option ℕ
octets_joined (a ∷ b ∷ c ∷ d ∷ []) = join_bytes (octet_of a) (octet_of b) (octet_of c) (octet_of d)
octets_joined _ = None

-- an address, as it is written
abbrev pub address_in : List ℕ → Option ℕ
address_in word = octets_joined (parts_at 46 word)
