-- Reading messages piece by piece.
use Rattle.std.specs.Prelude.{◌≡◌, ◌+◌, ◌≤◌, ℕ, List, [], ◌∷◌, length, take, drop, Option, Some, None, nat_lt, if◌then◌else◌}

-- the texts that wait for a reader, and how many bytes of the first were read
pub record Waiting : Type 0 where
  pub texts : List (List ℕ)
  pub offset : ℕ

-- these texts, the first without its first bytes
abbrev pub cut_first : ℕ → List (List ℕ) → List (List ℕ)
cut_first cut [] = []
cut_first cut (text ∷ texts) = drop cut text ∷ texts

-- what is unread of them
abbrev pub unread_of : Waiting → List (List ℕ)
unread_of w = cut_first w.offset w.texts

-- what a read gives: the first bytes of the first text, if there is one
abbrev pub bytes_read : ℕ → List (List ℕ) → Option (List ℕ)
bytes_read count [] = None
bytes_read count (text ∷ texts) = Some (take count text)

-- what a read leaves of these texts: the first of them where it has more bytes, and else the others
abbrev pub left_of_read : ℕ → ℕ → List (List ℕ) → Waiting
left_of_read count offset [] = record { texts = []; offset = offset }
left_of_read count offset (text ∷ texts) =
    if nat_lt count (length (drop offset text))
    then record { texts = text ∷ texts; offset = offset + count }
    else record { texts = texts; offset = 0 }

-- what a read leaves
abbrev pub after_read : ℕ → Waiting → Waiting
after_read count w = left_of_read count w.offset w.texts

-- the first bytes of the first text, none where there is no text
abbrev pub first_bytes : ℕ → List (List ℕ) → List ℕ
first_bytes count [] = []
first_bytes count (text ∷ texts) = take count text

-- so many bytes of the first text are cut off, and none where there is no text
abbrev pub IsCut : ℕ → List (List ℕ) → Type 0
IsCut cut [] = cut ≡ 0
IsCut cut (text ∷ texts) = cut ≤ length text
