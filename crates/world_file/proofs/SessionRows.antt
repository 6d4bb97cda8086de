-- Which row a line is.
use Rattle.std.proofs.Common.{◌≡◌, ◌≢◌, ℕ, ◌==◌, false, List, [], ◌∷◌, length, refl, sym, ap, ◌∙◌, Option, Some, None, Bor}
use Rattle.std.specs.Prelude.{MatchOption, if◌then◌else◌}
use Rattle.std.specs.Option.{option_and_then}
use Rattle.net_base.specs.Addresses.{parts_at}
use Rattle.world_text.specs.WorldLines.{Draft, passes_over}
use Rattle.world_text.specs.WorldWords.{hex_text, single_word, words_in_line}
use Rattle.world_file.specs.SessionText.{Other, Passes, Row, row_by, session_row}
use Rattle.world_file.specs.SessionTold.{args_of, word_seen}

pub none_seen : (r : Option (Bor (List ℕ))) → r ≡ None → word_seen r ≡ None
none_seen r is = ap word_seen is

pub single_seen : (r : Option (Bor (List ℕ))) (rest : List ℕ) → MatchOption r (length (parts_at 32 rest) ≢ 1) (λ (only : Bor (List ℕ)). parts_at 32 rest ≡ only.now ∷ []) → word_seen r ≡ option_and_then hex_text (single_word (parts_at 32 rest))
single_seen None rest other = by (parts_at 32 rest) other
  where
    by : (ws : List (List ℕ)) → length ws ≢ 1 → None ≡ option_and_then hex_text (single_word ws)
    by [] none = refl
    by (w ∷ []) none = absurd (none refl)
    by (w ∷ v ∷ ws) none = refl
single_seen (Some only) rest is = sym (ap (λ (ws : List (List ℕ)). option_and_then hex_text (single_word ws)) is)

split_words : (o : Option (Bor (List ℕ))) (line word : List ℕ) → MatchOption o (parts_at 32 line ≡ word ∷ []) (λ (rest : Bor (List ℕ)). parts_at 32 line ≡ word ∷ parts_at 32 rest.now) → words_in_line line ≡ word ∷ args_of o
split_words None line word is = is
split_words (Some rest) line word is = is

by_words : (d : Draft) (line : List ℕ) (words : List (List ℕ)) → passes_over line ≡ false → (d.group == 0) ≡ false → words_in_line line ≡ words → session_row d line ≡ row_by words
by_words d line words spoken late are =
    ap (λ b. if b then Passes else (if d.group == 0 then Other else row_by (words_in_line line))) spoken
    ∙ (ap (λ b. if b then Other else row_by (words_in_line line)) late ∙ ap row_by are)

pub row_of_words : (d : Draft) (line word : List ℕ) (o : Option (Bor (List ℕ))) (row : Row) → passes_over line ≡ false → (d.group == 0) ≡ false
    → MatchOption o (parts_at 32 line ≡ word ∷ []) (λ (rest : Bor (List ℕ)). parts_at 32 line ≡ word ∷ parts_at 32 rest.now) → row ≡ row_by (word ∷ args_of o) → row ≡ session_row d line
row_of_words d line word o row spoken late split is = is ∙ sym (by_words d line (word ∷ args_of o) spoken late (split_words o line word split))
