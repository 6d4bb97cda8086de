-- The checksum of the Internet protocols (RFC 1071), on 16-bit words.
use Rattle.std.specs.Prelude.{ℕ, ◌+◌, ◌*◌, ◌-◌, ◌^◌, List, [], ◌∷◌, nat_lt, if◌then◌else◌}

-- the 16-bit words of bytes, the high byte first; a zero byte follows an odd number of bytes
abbrev pub words : List ℕ → List ℕ
words [] = []
words (high ∷ []) = (256 * high) ∷ []
words (high ∷ low ∷ rest) = (256 * high + low) ∷ words rest

-- two words added in ones' complement: a carry out of the highest bit is added at the lowest
abbrev pub add_around : ℕ → ℕ → ℕ
add_around a b = if nat_lt (a + b) (2 ^ 16) then a + b else a + b - 65535

-- the ones' complement sum of words
abbrev pub total_of : List ℕ → ℕ
total_of [] = 0
total_of (word ∷ rest) = add_around word (total_of rest)

-- the checksum of bytes: the ones' complement of the ones' complement sum of their words
unfoldable pub sum_of : List ℕ → ℕ
sum_of bytes = 65535 - total_of (words bytes)
