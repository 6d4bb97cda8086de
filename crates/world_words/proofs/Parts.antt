-- The parts of a line between its blanks.
use Rattle.std.proofs.Common.{◌≡◌, ℕ, ◌<◌, Bool, true, false, ◌&&◌, List, [], ◌∷◌, length, refl, sym, ap, arith, Some, None}
use Rattle.std.specs.Prelude.{◌≢◌, if◌then◌else◌}
use Rattle.std.proofs.lemmas.Option.{none-some}
use Rattle.std.proofs.lemmas.List.Splits.{join_with_byte-slice_split}
use Rattle.net_base.specs.Addresses.{parts_at}
use Rattle.net_base.specs.World.{is_name}
use Rattle.net_base.specs.StepWords.{TheRest, TheRestOf}
use Rattle.world_text.specs.LineReading.{read_value, read_word, frames_of, host_line_of}
use Rattle.world_text.specs.WorldWords.{four, words_left, single_word, three, two}
use Rattle.world_text.specs.declared.line.WorldLine.TheVariants as line
use Rattle.net_base.proofs.Shared.{some_part}
use Rattle.world_text.proofs.Shared.{two-is, three-is}

pub some_word : (rest : List ℕ) → parts_at 32 rest ≡ [] → ⊥
some_word rest e = let some = some_part 32 rest in let n = ap (λ (ws : List (List ℕ)). length ws) e in absurd (omega (arith, some, n))

-- So many words, or none.

pub not_one : (words : List (List ℕ)) → length words ≢ 1 → single_word words ≡ None
not_one [] other = refl
not_one (a ∷ []) other = absurd (other refl)
not_one (a ∷ b ∷ words) other = refl

pub not_two : (words : List (List ℕ)) → length words ≢ 2 → two words ≡ None
not_two [] other = refl
not_two (a ∷ []) other = refl
not_two (a ∷ b ∷ []) other = absurd (other refl)
not_two (a ∷ b ∷ c ∷ words) other = refl

-- one word and others that aren't two
pub not_three : (words behind : List (List ℕ)) (first : List ℕ) → words ≡ first ∷ behind → length behind ≢ 2 → three words ≡ None
not_three words [] first e other = ap three e
not_three words (a ∷ []) first e other = ap three e
not_three words (a ∷ b ∷ []) first e other = absurd (other refl)
not_three words (a ∷ b ∷ c ∷ behind) first e other = ap three e

pub one_then : (words : List (List ℕ)) (first : List ℕ) → words ≡ first ∷ [] → three words ≡ None
one_then words first e = ap three e

pub not_four : (words : List (List ℕ)) → length words ≢ 4 → four words ≡ None
not_four [] other = refl
not_four (a ∷ []) other = refl
not_four (a ∷ b ∷ []) other = refl
not_four (a ∷ b ∷ c ∷ []) other = refl
not_four (a ∷ b ∷ c ∷ d ∷ []) other = absurd (other refl)
not_four (a ∷ b ∷ c ∷ d ∷ e ∷ words) other = refl

-- Texts.

text_by : (text : List ℕ) (words : List (List ℕ)) → 0 < length words → words_left words ≡ text → read_value TheRest words ≡ read_word TheRest text []
text_by text [] more e = absurd (omega (arith, more))
text_by text (word ∷ words) more e = ap (λ (t : List ℕ). read_word TheRest t []) e

-- a text is all that stands there
pub text_words : (rest : List ℕ) → read_value TheRest (parts_at 32 rest) ≡ read_word TheRest rest []
text_words rest = text_by rest (parts_at 32 rest) (some_part 32 rest) (join_with_byte-slice_split 32 rest)

short_by : (least most : ℕ) (text : List ℕ) (words : List (List ℕ)) → 0 < length words → words_left words ≡ text → read_value (TheRestOf least most) words ≡ read_word (TheRestOf least most) text []
short_by least most text [] more e = absurd (omega (arith, more))
short_by least most text (word ∷ words) more e = ap (λ (t : List ℕ). read_word (TheRestOf least most) t []) e

pub short_words : (least most : ℕ) (rest : List ℕ) → read_value (TheRestOf least most) (parts_at 32 rest) ≡ read_word (TheRestOf least most) rest []
short_words least most rest = short_by least most rest (parts_at 32 rest) (some_part 32 rest) (join_with_byte-slice_split 32 rest)

-- Lines by the number of their words.

pub no_frames : (words : List (List ℕ)) → length words ≢ 1 → length words ≢ 2 → frames_of words ≡ None
no_frames [] a b = refl
no_frames (k ∷ []) a b = absurd (a refl)
no_frames (k ∷ l ∷ []) a b = absurd (b refl)
no_frames (k ∷ l ∷ m ∷ words) a b = refl

pub one_net : (words : List (List ℕ)) (name net : List ℕ) → two words ≡ Some (record { first = name; second = net }) → host_line_of (name ∷ net ∷ []) ≡ host_line_of words
one_net words name net e = ap host_line_of (sym (two-is words (record { first = name; second = net }) e))

pub two_nets : (words : List (List ℕ)) (name net other : List ℕ) → three words ≡ Some (record { first = name; second = net; third = other }) → host_line_of (name ∷ net ∷ other ∷ []) ≡ host_line_of words
two_nets words name net other e = ap host_line_of (sym (three-is words (record { first = name; second = net; third = other }) e))

if_false : {A : Type 0} (b : Bool) (x : A) → (if b && false then Some x else None) ≡ None
if_false true x = refl
if_false false x = refl

pub no_nets : (words : List (List ℕ)) → two words ≡ None → three words ≡ None → host_line_of words ≡ None
no_nets [] a b = refl
no_nets (name ∷ []) a b = if_false (is_name name) (line.Host name [])
no_nets (name ∷ net ∷ []) a b = absurd (none-some (record { first = name; second = net }) (sym a))
no_nets (name ∷ net ∷ other ∷ []) a b = absurd (none-some (record { first = name; second = net; third = other }) (sym b))
no_nets (name ∷ net ∷ other ∷ word ∷ words) a b = if_false (is_name name) (line.Host name [])
