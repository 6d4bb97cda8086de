-- Numbers as bytes and back, and a list by its first bytes.
use Rattle.std.proofs.Common.{◌≡◌, ℕ, zero, suc, ◌+◌, ◌*◌, ◌/◌, ◌%◌, ◌^◌, ◌<◌, ◌≤◌, List, [], ◌∷◌, ◌++◌, length, get_or, drop, ap, ◌∙◌, arith}
use Rattle.std.proofs.Math.Seq.{drop-cons}

-- each item is a byte
abbrev pub IsBytes : List ℕ → Type 0
IsBytes bytes = (i : ℕ) → get_or bytes i 0 < 256

pub word_again : (x : ℕ) → x < 2 ^ 16 → 256 * (x / 256 % 256) + x % 256 ≡ x
word_again x h = omega arith

pub long_again : (x : ℕ) → x < 2 ^ 32 → 65536 * (256 * (x / 16777216 % 256) + x / 65536 % 256) + (256 * (x / 256 % 256) + x % 256) ≡ x
long_again x h = omega arith

-- the bytes of a 16-bit number
pub word_high : (high low : ℕ) → high < 256 → low < 256 → (256 * high + low) / 256 % 256 ≡ high
word_high high low p q = omega arith

pub word_low : (high low : ℕ) → low < 256 → (256 * high + low) % 256 ≡ low
word_low high low q = omega arith

-- the bytes of a 32-bit number
pub long_0 : (a b c d : ℕ) → a < 256 → b < 256 → c < 256 → d < 256 → (65536 * (256 * a + b) + (256 * c + d)) / 16777216 % 256 ≡ a
long_0 a b c d ha hb hc hd = omega arith

pub long_1 : (a b c d : ℕ) → b < 256 → c < 256 → d < 256 → (65536 * (256 * a + b) + (256 * c + d)) / 65536 % 256 ≡ b
long_1 a b c d hb hc hd = omega arith

pub long_2 : (a b c d : ℕ) → c < 256 → d < 256 → (65536 * (256 * a + b) + (256 * c + d)) / 256 % 256 ≡ c
long_2 a b c d hc hd = omega arith

pub long_3 : (a b c d : ℕ) → d < 256 → (65536 * (256 * a + b) + (256 * c + d)) % 256 ≡ d
long_3 a b c d hd = omega arith

-- the n items from a place on, one by one
abbrev pub items : ℕ → ℕ → List ℕ → List ℕ
items i zero bytes = []
items i (suc n) bytes = get_or bytes i 0 ∷ items (suc i) n bytes

items_from : (n i : ℕ) (bytes : List ℕ) → i + n ≤ length bytes → drop i bytes ≡ items i n bytes ++ drop (i + n) bytes
items_from zero i bytes h = ap (λ (k : ℕ). drop k bytes) (omega arith)
items_from (suc n) i bytes h =
    let lt : i < length bytes = omega arith in
    drop-cons bytes i 0 lt
    ∙ ap (λ (r : List ℕ). get_or bytes i 0 ∷ r) (items_from n (suc i) bytes (omega arith))
    ∙ ap (λ (k : ℕ). get_or bytes i 0 ∷ (items (suc i) n bytes ++ drop k bytes)) (omega arith)

-- a list by its first n items and the rest
pub by_items : (n : ℕ) (bytes : List ℕ) → n ≤ length bytes → bytes ≡ items 0 n bytes ++ drop n bytes
by_items n bytes h = items_from n 0 bytes (omega arith) ∙ ap (λ (k : ℕ). items 0 n bytes ++ drop k bytes) (omega arith)
