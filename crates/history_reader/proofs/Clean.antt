-- Words without separators.
use Rattle.std.proofs.Common.{◌≡◌, ◌≢◌, ℕ, ◌+◌, ◌/◌, ◌%◌, ◌<◌, ◌^◌, ◌==◌, Bool, true, false, List, [], ◌∷◌, ◌++◌, refl, ◌∙◌, ap, arith, cond}
use Rattle.std.specs.List.{join_with_byte, onto_first}
use Rattle.std.proofs.lemmas.Bool.{ne_eqb}
use Rattle.net_base.specs.Addresses.{parts_at}
use Rattle.net_base.specs.Hexadecimal.{hex_digits, hex_word}
use Rattle.net_base.specs.Numeral.{numeral}
use Rattle.net_base.specs.Plain.{IsClean, IsLine}
use Rattle.net_base.specs.Transcript.{ip_word}
use Rattle.words.proofs.Shared.{numeral_by_steps}
use Rattle.net_base.proofs.Shared.{number_itself, digit-other}

-- no byte of the word is this one
abbrev pub IsFree : ℕ → List ℕ → Type 0
IsFree s [] = Unit {0}
IsFree s (b ∷ word) = ((b == s) ≡ false) × IsFree s word

abbrev pub AreFree : ℕ → List (List ℕ) → Type 0
AreFree s [] = Unit {0}
AreFree s (word ∷ words) = IsFree s word × AreFree s words

pub free_both : (s : ℕ) (xs ys : List ℕ) → IsFree s xs → IsFree s ys → IsFree s (xs ++ ys)
free_both s [] ys fx fy = fy
free_both s (x ∷ xs) ys fx fy = (fx.0, free_both s xs ys fx.1 fy)

free_digit : (s d : ℕ) → s < 48 → IsFree s ((48 + d) ∷ [])
free_digit s d low = (ne_eqb (48 + d) s (λ is. omega (arith, is, low)), tt)

-- numbers have none below the digits
pub free_numeral : (s n : ℕ) → s < 48 → IsFree s (numeral n)
free_numeral s n low =
    numeral_by_steps (λ m ds. IsFree s ds) (λ m lt. free_digit s m low) (λ m ds le told. free_both s ds ((48 + m % 10) ∷ []) told (free_digit s (m % 10) low)) n

-- addresses have none below the dot
pub free_address : (s ip : ℕ) → s < 46 → IsFree s (ip_word ip)
free_address s ip low =
    let below : s < 48 = omega (arith, low) in
    let dot : IsFree s (46 ∷ []) = (ne_eqb 46 s (λ is. omega (arith, is, low)), tt) in
    let more = λ (bs : List ℕ) (n : ℕ) (f : IsFree s bs). free_both s (bs ++ 46 ∷ []) (numeral n) (free_both s bs (46 ∷ []) f dot) (free_numeral s n below) in
    more _ (ip % 256) (more _ (ip / 2 ^ 8 % 256) (more _ (ip / 2 ^ 16 % 256) (free_numeral s (ip / 2 ^ 24) below)))

free_digits : (s : ℕ) (bytes : List ℕ) → s < 45 → IsFree s (hex_digits bytes)
free_digits s [] low = tt
free_digits s (b ∷ bytes) low = (digit-other s (b / 16) low, (digit-other s (b % 16) low, free_digits s bytes low))

pub free_hex : (s : ℕ) (bytes : List ℕ) → s < 45 → IsFree s (hex_word bytes)
free_hex s [] low = (ne_eqb 45 s (λ is. omega (arith, is, low)), tt)
free_hex s (b ∷ bytes) low = free_digits s (b ∷ bytes) low

-- Clean words are those without blanks and newlines.

pub clean_free : (word : List ℕ) → IsClean word → (IsFree 32 word) × (IsFree 10 word)
clean_free [] c = (tt, tt)
clean_free (b ∷ word) c =
    let rest = clean_free word c.2 in
    ((ne_eqb b 32 c.0, rest.0), (ne_eqb b 10 c.1, rest.1))

not_equal : (b s : ℕ) → (b == s) ≡ false → b ≢ s
not_equal b s e is = grind (arith, e, is)

pub free_clean : (word : List ℕ) → IsFree 32 word → IsFree 10 word → IsClean word
free_clean [] f g = tt
free_clean (b ∷ word) f g = (not_equal b 32 f.0, not_equal b 10 g.0, free_clean word f.1 g.1)

pub free_line : (word : List ℕ) → IsFree 10 word → IsLine word
free_line [] f = tt
free_line (b ∷ word) f = (not_equal b 10 f.0, free_line word f.1)

pub line_free : (word : List ℕ) → IsLine word → IsFree 10 word
line_free [] f = tt
line_free (b ∷ word) f = (ne_eqb b 10 f.0, line_free word f.1)

-- Parts.

-- parts have no separator
free_onto : (s b : ℕ) (parts : List (List ℕ)) → (b == s) ≡ false → AreFree s parts → AreFree s (onto_first b parts)
free_onto s b [] e all = ((e, tt), tt)
free_onto s b (part ∷ parts) e all = ((e, all.0), all.1)

pub parts_free : (s : ℕ) (text : List ℕ) → AreFree s (parts_at s text)
parts_free s [] = (tt, tt)
parts_free s (b ∷ text) = by (b == s) refl (parts_free s text)
  where
    by : (v : Bool) → (b == s) ≡ v → AreFree s (parts_at s text) → AreFree s (cond v ([] ∷ parts_at s text) (onto_first b (parts_at s text)))
    by true e later = (tt, later)
    by false e later = free_onto s b (parts_at s text) e later

-- a part of a text without another byte has none
pub parts_keep : (s t : ℕ) (text : List ℕ) → IsFree t text → AreFree t (parts_at s text)
parts_keep s t [] free = (tt, tt)
parts_keep s t (b ∷ text) free = by (b == s) (parts_keep s t text free.1)
  where
    by : (v : Bool) → AreFree t (parts_at s text) → AreFree t (cond v ([] ∷ parts_at s text) (onto_first b (parts_at s text)))
    by true later = (tt, later)
    by false later = free_onto t b (parts_at s text) free.0 later

pub one_part : (s : ℕ) (word : List ℕ) → IsFree s word → parts_at s word ≡ word ∷ []
one_part s [] free = refl
one_part s (b ∷ word) free = ap (λ v. cond v ([] ∷ parts_at s word) (onto_first b (parts_at s word))) free.0 ∙ ap (onto_first b) (one_part s word free.1)

-- a word before a separator is the first part
pub first_part : (s : ℕ) (word rest : List ℕ) → IsFree s word → parts_at s (word ++ s ∷ rest) ≡ word ∷ parts_at s rest
first_part s [] rest free = ap (λ v. cond v ([] ∷ parts_at s rest) (onto_first s (parts_at s rest))) (number_itself s)
first_part s (b ∷ word) rest free =
    ap (λ v. cond v ([] ∷ parts_at s (word ++ s ∷ rest)) (onto_first b (parts_at s (word ++ s ∷ rest)))) free.0 ∙ ap (onto_first b) (first_part s word rest free.1)

-- words that are joined are the parts
pub parts_back : (s : ℕ) (word : List ℕ) (words : List (List ℕ)) → AreFree s (word ∷ words) → parts_at s (join_with_byte s (word ∷ words)) ≡ word ∷ words
parts_back s word [] free = one_part s word free.0
parts_back s word (next ∷ words) free =
    first_part s word (join_with_byte s (next ∷ words)) free.0 ∙ ap (λ (ws : List (List ℕ)). word ∷ ws) (parts_back s next words free.1)
