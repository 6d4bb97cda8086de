-- Whether a word is a message in hexadecimal.
use Rattle.std.proofs.Common.{◌≡◌, ℕ, ◌-◌, ◌≤◌, Bool, true, cond, ◌&&◌, List, [], ◌∷◌, length, drop, take, get_or, Option, Some, None, refl, ap, ◌∙◌, arith}
use Rattle.std.specs.Prelude.{bytes_eq, codes, is_some, nat_le}
use Rattle.std.proofs.lemmas.Bool.{false_from_ne_true, false≢true}
use Rattle.std.proofs.lemmas.List.{take_all}
use Rattle.std.proofs.lemmas.Slice.Eq.{bytes_eq-Decides}
use Rattle.net_base.specs.Hexadecimal.{hex_byte, hex_bytes, hex_text, hex_value}
use Rattle.net_model.specs.Words.{is_message}

-- one byte more, of two digits
by_digits : (high low : Option ℕ) (rest : Option (List ℕ)) → is_some (hex_byte high low rest) ≡ (is_some high && is_some low && is_some rest)
by_digits (Some high) (Some low) (Some rest) = refl
by_digits (Some high) (Some low) None = refl
by_digits (Some high) None rest = refl
by_digits None low rest = refl

pub pair_more : (high low : ℕ) (rest : List ℕ) → is_some (hex_bytes (high ∷ low ∷ rest)) ≡ (is_some (hex_value high) && is_some (hex_value low) && is_some (hex_bytes rest))
pair_more high low rest = by_digits (hex_value high) (hex_value low) (hex_bytes rest)

-- where the first two are digits, the rest tells whether all are pairs
pair_first : (high low : Option ℕ) (rest : Option (List ℕ)) → is_some high ≡ true → is_some low ≡ true → is_some rest ≡ is_some (hex_byte high low rest)
pair_first (Some high) (Some low) (Some rest) h l = refl
pair_first (Some high) (Some low) None h l = refl
pair_first (Some high) None rest h l = absurd (false≢true l)
pair_first None low rest h l = absurd (false≢true h)

pub pairs_go_on : (word : List ℕ) → 2 ≤ length word → is_some (hex_value (get_or word 0 0)) ≡ true → is_some (hex_value (get_or word 1 0)) ≡ true
    → is_some (hex_bytes (take (length word - 2) (drop 2 word))) ≡ is_some (hex_bytes word)
pairs_go_on [] long high low = absurd (omega (arith, long))
pairs_go_on (b ∷ []) long high low = absurd (omega (arith, long))
pairs_go_on (b ∷ c ∷ word) long high low =
    ap (λ (more : List ℕ). is_some (hex_bytes more)) (take_all (length (b ∷ c ∷ word) - 2) word (omega arith))
    ∙ pair_first (hex_value b) (hex_value c) (hex_bytes word) high low

-- a word of two digits and more isn't the one for no bytes
pairs_are : (word : List ℕ) → 2 ≤ length word → is_some (hex_text word) ≡ is_some (hex_bytes word)
pairs_are [] long = absurd (omega (arith, long))
pairs_are (b ∷ []) long = absurd (omega (arith, long))
pairs_are (b ∷ c ∷ word) long =
    ap (λ (none : Bool). is_some (cond none (Some []) (hex_bytes (b ∷ c ∷ word))))
    (false_from_ne_true (bytes_eq (b ∷ c ∷ word) (codes "-"))
    (λ (e : bytes_eq (b ∷ c ∷ word) (codes "-") ≡ true). let size = ap (λ (xs : List ℕ). length xs) ((bytes_eq-Decides (b ∷ c ∷ word) (codes "-")).0 e) in omega (arith, size)))

-- so a message is pairs of digits, not too few and not too many
pub message_is : (word : List ℕ) → is_message word ≡ ((nat_le 2 (length word) && nat_le (length word) 2048) && is_some (hex_bytes word))
unfolding is_message
message_is [] = refl
message_is (b ∷ []) = refl
message_is (b ∷ c ∷ word) =
    ap (λ (pairs : Bool). (nat_le 2 (length (b ∷ c ∷ word)) && nat_le (length (b ∷ c ∷ word)) 2048) && pairs)
    (pairs_are (b ∷ c ∷ word) (omega arith))
