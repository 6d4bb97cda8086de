-- Texts that are written piece by piece.
use Rattle.std.specs.Prelude.{◌≡◌, ℕ, List, [], ◌∷◌, ◌++◌, decimal, drop, length}
use Rattle.ctl_words.specs.declared.spelled.Piece.{Piece}
use Rattle.ctl_words.specs.declared.spelled.Piece.TheVariants as piece

abbrev pub piece_text : Piece → List ℕ
piece_text (piece.Text text) = text.now
piece_text (piece.Number n) = decimal n

-- all pieces in a row
abbrev pub written : List Piece → List ℕ
written [] = []
written (p ∷ ps) = piece_text p ++ written ps

-- the text was written over the front of what stood there, and what stands behind it stays
abbrev pub Lays : List ℕ → List ℕ → List ℕ → ℕ → Type 0
Lays text old new len = (len ≡ length text) × (new ≡ text ++ drop len old)
