-- Numbers in 16 and in 32 bits.
use Rattle.std.proofs.Common.{◌≡◌, ℕ, ◌+◌, ◌/◌, ◌%◌, ◌^◌, List, [], ◌∷◌, refl, ap, ◌∙◌, arith}
use Rattle.pcapng.specs.Blocks.{long_number, short_number}

two_bytes : {a b c d : ℕ} → a ≡ c → b ≡ d → a ∷ b ∷ [] ≡ c ∷ d ∷ []
two_bytes one two = rw (one, two) refl

four_bytes : {a b c d e f g h : ℕ} → a ≡ e → b ≡ f → c ≡ g → d ≡ h → a ∷ b ∷ c ∷ d ∷ [] ≡ e ∷ f ∷ g ∷ h ∷ []
four_bytes one two three four = rw (one, two, three, four) refl

pub short_wraps : (n : ℕ) → short_number (n % 2 ^ 16) ≡ short_number n
unfolding short_number
short_wraps n = two_bytes (omega arith) (omega arith)

pub total_wraps : (n : ℕ) → long_number ((n % 2 ^ 32 + 12) % 2 ^ 32) ≡ long_number (n + 12)
unfolding long_number
total_wraps n = four_bytes (omega arith) (omega arith) (omega arith) (omega arith)
