-- Digits of lower-case hexadecimal, two by two.
use Rattle.std.proofs.Common.{◌≡◌, ℕ, ◌+◌, ◌*◌, ◌≤◌, List, [], ◌∷◌, ◌++◌, length, get_or, drop, refl, sym, ap, ◌∙◌, arith, Option, Some, None, append_assoc}
use Rattle.std.specs.Prelude.{option_map}
use Rattle.net_base.specs.Hexadecimal.{hex_value, hex_byte, hex_bytes}

behind : (bytes : List ℕ) (high low : ℕ) (o : Option (List ℕ)) → option_map (λ (more : List ℕ). bytes ++ more) (hex_byte (Some high) (Some low) o) ≡ option_map (λ (more : List ℕ). (bytes ++ (high * 16 + low) ∷ []) ++ more) o
behind bytes high low None = refl
behind bytes high low (Some more) = ap (λ (xs : List ℕ). Some xs) (sym (append_assoc bytes ((high * 16 + low) ∷ []) more))

-- the next two digits
pub hex-step : (bytes rest : List ℕ) (high low : ℕ) → 2 ≤ length rest → hex_value (get_or rest 0 0) ≡ Some high → hex_value (get_or rest 1 0) ≡ Some low
    → option_map (λ (more : List ℕ). bytes ++ more) (hex_bytes rest) ≡ option_map (λ (more : List ℕ). (bytes ++ (high * 16 + low) ∷ []) ++ more) (hex_bytes (drop 2 rest))
hex-step bytes [] high low two e f = absurd (omega (arith, two))
hex-step bytes (a ∷ []) high low two e f = absurd (omega (arith, two))
hex-step bytes (a ∷ b ∷ rest) high low two e f =
    ap (λ (o : Option ℕ). option_map (λ (more : List ℕ). bytes ++ more) (hex_byte o (hex_value b) (hex_bytes rest))) e
    ∙ (ap (λ (o : Option ℕ). option_map (λ (more : List ℕ). bytes ++ more) (hex_byte (Some high) o (hex_bytes rest))) f
    ∙ behind bytes high low (hex_bytes rest))
