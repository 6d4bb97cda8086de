-- Texts that are written one behind the other.
use Rattle.std.specs.Prelude.{◌≡◌, ℕ, List, [], ◌∷◌, ◌++◌, drop, length}
use Rattle.std.specs.Borrow.{Bor}

-- all texts in a row
abbrev pub call_written : List (Bor (List ℕ)) → List ℕ
call_written [] = []
call_written (text ∷ texts) = text.now ++ call_written texts

-- the text was written over the front of what stood there, and what stands behind it stays
abbrev pub LaysCall : List ℕ → List ℕ → List ℕ → ℕ → Type 0
LaysCall text old new len = (len ≡ length text) × (new ≡ text ++ drop len old)
