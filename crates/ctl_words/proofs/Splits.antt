-- The parts of a text between the occurrences of a byte.
use Rattle.std.proofs.Common.{◌≡◌, ℕ, ◌<◌, ◌==◌, None, refl, arith, List, [], ◌∷◌, length, sym, ap, subst}
use Rattle.std.specs.List.{slice_split}
use Rattle.std.proofs.lemmas.List.Splits.{length-slice_split}
use Rattle.net_base.specs.ControlWords.{address_of, place_of}
use Rattle.ctl_words.specs.Kept.{kept_ip, kept_place, AreMany}

-- there is always a part
some_part : (separator : ℕ) (word : List ℕ) → 0 < length (slice_split (λ b. b == separator) word)
some_part separator word = omega (arith, length-slice_split (λ b. b == separator) word)

more_than_four : (a b c d : List ℕ) (others : List (List ℕ)) → 0 < length others → address_of (a ∷ b ∷ c ∷ d ∷ others) ≡ None
more_than_four a b c d [] more = absurd (omega (arith, more))
more_than_four a b c d (e ∷ others) more = refl

-- a text with four dots is no address
pub five_parts : (text after_a after_b after_c after_d a b c d : List ℕ) → slice_split (λ x. x == 46) text ≡ a ∷ slice_split (λ x. x == 46) after_a → slice_split (λ x. x == 46) after_a ≡ b ∷ slice_split (λ x. x == 46) after_b → slice_split (λ x. x == 46) after_b ≡ c ∷ slice_split (λ x. x == 46) after_c → slice_split (λ x. x == 46) after_c ≡ d ∷ slice_split (λ x. x == 46) after_d → None ≡ kept_ip (address_of (slice_split (λ x. x == 46) text))
five_parts text after_a after_b after_c after_d a b c d first second third fourth =
    rw (first, second, third, fourth) (sym (ap kept_ip (more_than_four a b c d (slice_split (λ x. x == 46) after_d) (some_part 46 after_d))))

more_than_two : (a b : List ℕ) (others : List (List ℕ)) → 0 < length others → place_of (a ∷ b ∷ others) ≡ None
more_than_two a b [] more = absurd (omega (arith, more))
more_than_two a b (e ∷ others) more = refl

-- a text with two exclamation marks is no place
pub three_parts : (text after_a after_b a b : List ℕ) → slice_split (λ x. x == 33) text ≡ a ∷ slice_split (λ x. x == 33) after_a → slice_split (λ x. x == 33) after_a ≡ b ∷ slice_split (λ x. x == 33) after_b → None ≡ kept_place (place_of (slice_split (λ x. x == 33) text))
three_parts text after_a after_b a b first second =
    rw (first, second) (sym (ap kept_place (more_than_two a b (slice_split (λ x. x == 33) after_b) (some_part 33 after_b))))

many : (a : List ℕ) (others : List (List ℕ)) → 0 < length others → AreMany (a ∷ others)
many a [] more = absurd (omega (arith, more))
many a (b ∷ others) more = record { not_single = refl; no_number = λ control. refl; no_connect = λ at. refl; no_announce = λ host. refl }

-- a text with the separator in it has more parts than one
pub many_parts : (separator : ℕ) (text first rest : List ℕ) → slice_split (λ b. b == separator) text ≡ first ∷ slice_split (λ b. b == separator) rest → AreMany (slice_split (λ b. b == separator) text)
many_parts separator text first rest e = subst AreMany (sym e) (many first (slice_split (λ b. b == separator) rest) (some_part separator rest))
