-- The text of a summary, whatever it tells: four lines, each of its own form.
use Rattle.std.specs.Prelude.{◌≡◌, ℕ, zero, suc, List, [], ◌∷◌, ◌⊎◌, codes}
use Rattle.net_base.specs.Summary.{steps_line, both_line, end_line}

-- the words that a summary ends with
abbrev pub IsEndWord : List ℕ → Type 0
IsEndWord word = (word ≡ codes "done") ⊎ (word ≡ codes "stopped") ⊎ (word ≡ codes "limit") ⊎ (word ≡ codes "unfinished")

abbrev pub IsStepsLine : List ℕ → Type 0
IsStepsLine line = (answered : ℕ) × (all : ℕ) × (line ≡ steps_line answered all)

abbrev pub IsBothLine : List ℕ → List ℕ → Type 0
IsBothLine word line = (written : ℕ) × (read : ℕ) × (line ≡ both_line word written read)

abbrev pub IsEndLine : List ℕ → Type 0
IsEndLine line = (word : List ℕ) × (moment : ℕ) × IsEndWord word × (line ≡ end_line word moment)

-- the forms of the lines, from the first
abbrev pub IsLineOf : ℕ → List ℕ → Type 0
IsLineOf zero line = IsStepsLine line
IsLineOf (suc zero) line = IsBothLine (codes "messages") line
IsLineOf (suc (suc zero)) line = IsBothLine (codes "bytes") line
IsLineOf (suc (suc (suc zero))) line = IsEndLine line
IsLineOf (suc (suc (suc (suc k)))) line = ⊥

-- lines, the first of which has the form of this number
abbrev pub AreLinesFrom : ℕ → List (List ℕ) → Type 0
AreLinesFrom k [] = Unit {0}
AreLinesFrom k (line ∷ lines) = IsLineOf k line × AreLinesFrom (suc k) lines
