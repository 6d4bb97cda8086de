-- The row of each step: it is found by its word, can be read, and says what it makes.
use Rattle.std.proofs.Common.{◌≡◌, ℕ, ◌^◌, Bool, true, false, ◌&&◌, List, [], ◌∷◌, map, refl, subst, Some}
use Rattle.std.specs.Prelude.{bytes_eq, nat_lt, if◌then◌else◌}
use Rattle.std.specs.List.{list_all}
use Rattle.std.proofs.lemmas.Option.{none-some, same_Some}
use Rattle.net_base.specs.declared.world.Step.{Step}
use Rattle.net_base.specs.declared.world.Step.TheVariants as step
use Rattle.net_base.specs.World.{is_letter}
use Rattle.net_base.proofs.Shared.{equal_texts}
use Rattle.net_base.specs.StepWords.{WordKind, ANumber, PerhapsMode, TheRest, TheRestOf, ValuesOf, StepMaker, StepRow, step_row, sample_steps, worded, step_rows, is_step, values_fit}
use Rattle.world_text.specs.LineReading.{row_by_word, step_in_line, step_read, word_line}
use Rattle.world_text.specs.WorldSpelling.{spelled_values, words_of_step}

-- the step of all values
abbrev pub applied : (ks : List WordKind) → StepMaker ks → ValuesOf ks → Step
applied [] made values = made
applied (k ∷ ks) make values = applied ks (make values.first) values.rest

-- Rows that can be read: the word is of letters, numbers are below 2^64, and what may be missing or takes the rest of the line stands last.

abbrev is_end : List WordKind → Bool
is_end [] = true
is_end (k ∷ ks) = false

abbrev pub stands_before : WordKind → List WordKind → Bool
stands_before (ANumber least most) ks = nat_lt most (2 ^ 64)
stands_before PerhapsMode ks = is_end ks
stands_before TheRest ks = is_end ks
stands_before (TheRestOf least most) ks = is_end ks
stands_before _ ks = true

abbrev pub are_readable : List WordKind → Bool
are_readable [] = true
are_readable (k ∷ ks) = stands_before k ks && are_readable ks

abbrev pub are_letters : List ℕ → Bool
are_letters [] = false
are_letters (b ∷ word) = list_all is_letter (b ∷ word)

-- the row makes steps that are said by it with those values
abbrev pub Says : StepRow → Type 0
Says row = (values : ValuesOf row.kinds) → worded (applied row.kinds row.make values) ≡ record { row = row; values = values }

-- a row can be read, and says what it makes
pub record IsRow (row : StepRow) : Type 0 where
  pub letters : are_letters row.word ≡ true
  pub readable : are_readable row.kinds ≡ true
  pub says : Says row

-- a step's row is such a row, is found by its word, which begins no other line, and makes the step of its values
pub record IsKnown (s : Step) : Type 0 where
  pub found : row_by_word (step_row s).word step_rows ≡ Some (step_row s)
  pub own : (args : List (List ℕ)) → word_line (step_row s).word args ≡ step_read (step_in_line (step_row s).word args)
  pub made : applied (step_row s).kinds (step_row s).make (worded s).values ≡ s
  pub fits : is_step s ≡ values_fit (step_row s).kinds (worded s).values
  pub words : words_of_step s ≡ (step_row s).word ∷ spelled_values (step_row s).kinds (worded s).values
  pub row : IsRow (step_row s)

known_by : (s : Step) → row_by_word (step_row s).word step_rows ≡ Some (step_row s)
    → ((args : List (List ℕ)) → word_line (step_row s).word args ≡ step_read (step_in_line (step_row s).word args))
    → applied (step_row s).kinds (step_row s).make (worded s).values ≡ s → is_step s ≡ values_fit (step_row s).kinds (worded s).values
    → words_of_step s ≡ (step_row s).word ∷ spelled_values (step_row s).kinds (worded s).values → are_letters (step_row s).word ≡ true → are_readable (step_row s).kinds ≡ true → Says (step_row s) → IsKnown s
known_by s found own made fits words letters readable says =
    record { found = found; own = own; made = made; fits = fits; words = words; row = record { letters = letters; readable = readable; says = says } }

pub known : (s : Step) → IsKnown s
known (step.Open name path mode) = known_by _ refl (λ args. refl) refl refl refl refl refl (λ v. refl)
known (step.Read name count) = known_by _ refl (λ args. refl) refl refl refl refl refl (λ v. refl)
known (step.Write name text) = known_by _ refl (λ args. refl) refl refl refl refl refl (λ v. refl)
known (step.Writex name text) = known_by _ refl (λ args. refl) refl refl refl refl refl (λ v. refl)
known (step.Close name) = known_by _ refl (λ args. refl) refl refl refl refl refl (λ v. refl)
known (step.Ls path) = known_by _ refl (λ args. refl) refl refl refl refl refl (λ v. refl)
known (step.Cs query) = known_by _ refl (λ args. refl) refl refl refl refl refl (λ v. refl)
known (step.Until moment) = known_by _ refl (λ args. refl) refl refl refl refl refl (λ v. refl)
known step.Refresh = known_by _ refl (λ args. refl) refl refl refl refl refl (λ v. refl)
known (step.Dial name address) = known_by _ refl (λ args. refl) refl refl refl refl refl (λ v. refl)
known (step.Announce name address) = known_by _ refl (λ args. refl) refl refl refl refl refl (λ v. refl)
known (step.Listen name from) = known_by _ refl (λ args. refl) refl refl refl refl refl (λ v. refl)
known (step.Accept name from) = known_by _ refl (λ args. refl) refl refl refl refl refl (λ v. refl)
known (step.Reject name) = known_by _ refl (λ args. refl) refl refl refl refl refl (λ v. refl)
known (step.Hangup name) = known_by _ refl (λ args. refl) refl refl refl refl refl (λ v. refl)
known (step.Hread name count) = known_by _ refl (λ args. refl) refl refl refl refl refl (λ v. refl)
known (step.Hwrite name bytes) = known_by _ refl (λ args. refl) refl refl refl refl refl (λ v. refl)
known (step.Dns name times) = known_by _ refl (λ args. refl) refl refl refl refl refl (λ v. refl)
known (step.Export name) = known_by _ refl (λ args. refl) refl refl refl refl refl (λ v. refl)
known (step.Import name) = known_by _ refl (λ args. refl) refl refl refl refl refl (λ v. refl)
known (step.Ropen name call path mode) = known_by _ refl (λ args. refl) refl refl refl refl refl (λ v. refl)
known (step.Rread name count) = known_by _ refl (λ args. refl) refl refl refl refl refl (λ v. refl)
known (step.Rwrite name text) = known_by _ refl (λ args. refl) refl refl refl refl refl (λ v. refl)
known (step.Rclose name) = known_by _ refl (λ args. refl) refl refl refl refl refl (λ v. refl)

-- a word and the row that it names
pub record IsNamed (called : List ℕ) (row : StepRow) : Type 0 where
  pub is : called ≡ row.word
  pub stands : IsRow row

named : (called : List ℕ) (steps : List Step) (row : StepRow) → row_by_word called (map step_row steps) ≡ Some row → IsNamed called row
named called [] row e = absurd (none-some row e)
named called (s ∷ steps) row e = by (bytes_eq called (step_row s).word) refl (named called steps row) e
  where
    by : (b : Bool) → bytes_eq called (step_row s).word ≡ b → (row_by_word called (map step_row steps) ≡ Some row → IsNamed called row)
        → (if b then Some (step_row s) else row_by_word called (map step_row steps)) ≡ Some row → IsNamed called row
    by true is later f = subst (IsNamed called) (same_Some (step_row s) row f) (record { is = equal_texts called (step_row s).word is; stands = (known s).row })
    by false is later f = later f

pub row_with : (called : List ℕ) (row : StepRow) → row_by_word called step_rows ≡ Some row → IsNamed called row
row_with called row e = named called sample_steps row e
