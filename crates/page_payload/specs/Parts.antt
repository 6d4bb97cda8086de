-- The payload of a page: the line `page 1`, and four parts.
--     %input N      the input, in characters that a page may have
--     %packets N    a row for each packet
--     %steps N      a row for each step
--     %ends N       a row for each change of a conversation's end
-- N is the number of lines of the part, which follow.
use Rattle.std.specs.Prelude.{◌≡◌, ℕ, List, [], ◌∷◌, ◌++◌, codes, count_by}
use Rattle.net_base.specs.Numeral.{numeral}
use Rattle.net_base.specs.Transcript.{spaced}
use Rattle.page_payload.specs.Encoding.{decoded, encoded}
use Rattle.page_payload.specs.PlainText.{first_lines, is_newline}

abbrev pub part : List ℕ → List ℕ → List ℕ
part name lines = codes "%" ++ name ++ spaced (numeral (count_by is_newline lines) ∷ []) ++ 10 ∷ lines

abbrev pub payload_of : List ℕ → List ℕ → List ℕ → List ℕ → List ℕ
payload_of input packets steps ends =
    codes "page 1\n"
    ++ part (codes "input") (encoded input)
    ++ part (codes "packets") packets
    ++ part (codes "steps") steps
    ++ part (codes "ends") ends

-- the text begins with the part of this input, which is decoded from the lines of the part
pub record ReadsBack (text input : List ℕ) : Type 0 where
  pub lines : ℕ
  pub behind : List ℕ
  pub begins : text ≡ codes "page 1\n%input " ++ numeral lines ++ 10 ∷ behind
  pub reads : decoded (first_lines lines behind) ≡ input
