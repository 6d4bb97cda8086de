-- The words of lines, told by their bytes.
use Rattle.std.proofs.Common.{◌≡◌, ◌≢◌, ℕ, ◌+◌, List, [], ◌∷◌, ◌++◌, ◌⊎◌, inl, inr, map, refl, sym, ◌∙◌, ap, append_assoc, append-nil, false}
use Rattle.std.proofs.lemmas.List.{append_cancel_left}
use Rattle.std.proofs.lemmas.Bool.{true≢false}
use Rattle.net_base.specs.declared.history.Entry.{Entry}
use Rattle.net_base.specs.Numeral.{numeral}
use Rattle.net_base.specs.Transcript.{spaced, entry_words, line_of, lines_from}
use Rattle.net_base.specs.Plain.{IsClean}
use Rattle.transcript.proofs.Numbers.{starts_digit, starts_with}
use Rattle.transcript.specs.Telling.{AreClean, HasCleanWords}

-- a blank or a newline comes first
abbrev pub Stops : List ℕ → Type 0
Stops [] = ⊥
Stops (byte ∷ bytes) = (byte ≡ 32) ⊎ (byte ≡ 10)

not_in_a_word : (byte : ℕ) → byte ≢ 32 → byte ≢ 10 → ((byte ≡ 32) ⊎ (byte ≡ 10)) → ⊥
not_in_a_word byte blank newline (inl is) = blank is
not_in_a_word byte blank newline (inr is) = newline is

-- where a word ends, another word with the same bytes ends too
word_told : (w v r s : List ℕ) → IsClean w → IsClean v → Stops r → Stops s → w ++ r ≡ v ++ s → (w ≡ v) × (r ≡ s)
word_told [] [] r s cw cv er es same = (refl, same)
word_told [] (c ∷ v) [] s cw cv er es same = absurd er
word_told [] (c ∷ v) (x ∷ r) s cw cv er es same =
    let head : x ≡ c = cc in
    absurd (not_in_a_word c cv.0 cv.1 (rw (sym head) er))
word_told (b ∷ w) [] r [] cw cv er es same = absurd es
word_told (b ∷ w) [] r (y ∷ s) cw cv er es same =
    let head : y ≡ b = cc in
    absurd (not_in_a_word b cw.0 cw.1 (rw (sym head) es))
word_told (b ∷ w) (c ∷ v) r s cw cv er es same =
    let head : b ≡ c = cc in
    let tail : w ++ r ≡ v ++ s = cc in
    let told = word_told w v r s cw.2 cv.2 er es tail in
    (rw (head, told.0) refl, told.1)

spaced_stops : (ws : List (List ℕ)) (rest : List ℕ) → Stops (spaced ws ++ 10 ∷ rest)
spaced_stops [] rest = inr refl
spaced_stops (w ∷ ws) rest = inl refl

-- the words of a line, and what follows the line
line_told : (ws vs : List (List ℕ)) (rest others : List ℕ) → AreClean ws → AreClean vs → spaced ws ++ 10 ∷ rest ≡ spaced vs ++ 10 ∷ others → (ws ≡ vs) × (rest ≡ others)
line_told [] [] rest others cw cv same =
    let tail : rest ≡ others = cc in
    (refl, tail)
line_told [] (v ∷ vs) rest others cw cv same = absurd (cc)
line_told (w ∷ ws) [] rest others cw cv same = absurd (cc)
line_told (w ∷ ws) (v ∷ vs) rest others cw cv same =
    let left : (spaced (w ∷ ws)) ++ 10 ∷ rest ≡ 32 ∷ (w ++ (spaced ws ++ 10 ∷ rest)) = append_assoc (32 ∷ w) (spaced ws) (10 ∷ rest) in
    let right : (spaced (v ∷ vs)) ++ 10 ∷ others ≡ 32 ∷ (v ++ (spaced vs ++ 10 ∷ others)) = append_assoc (32 ∷ v) (spaced vs) (10 ∷ others) in
    let both : 32 ∷ (w ++ (spaced ws ++ 10 ∷ rest)) ≡ 32 ∷ (v ++ (spaced vs ++ 10 ∷ others)) = sym left ∙ same ∙ right in
    let tail : w ++ (spaced ws ++ 10 ∷ rest) ≡ v ++ (spaced vs ++ 10 ∷ others) = cc in
    let word = word_told w v (spaced ws ++ 10 ∷ rest) (spaced vs ++ 10 ∷ others) cw.0 cv.0 (spaced_stops ws rest) (spaced_stops vs others) tail in
    let later = line_told ws vs rest others cw.1 cv.1 word.1 in
    (rw (word.0, later.0) refl, later.1)

-- a line, as its stamp and its words
line_is : (n : ℕ) (x : Entry) (rest : List ℕ) → line_of n x ++ rest ≡ numeral n ++ (spaced (entry_words x) ++ 10 ∷ rest)
unfolding line_of
line_is n x rest = simp append_assoc refl

-- a line begins with a digit, and so isn't what stands behind the lines
no_line : (n : ℕ) (x : Entry) (rest behind : List ℕ) → starts_digit behind ≡ false → line_of n x ++ rest ≡ behind → ⊥
no_line n x rest behind none same =
    true≢false (sym (starts_with n (spaced (entry_words x) ++ 10 ∷ rest)) ∙ ap starts_digit (sym (line_is n x rest) ∙ same) ∙ none)

-- the lines of entries, with bytes behind them that don't begin with a digit
pub lines_told : (n : ℕ) (h k : List Entry) (r s : List ℕ) → HasCleanWords h → HasCleanWords k → starts_digit r ≡ false → starts_digit s ≡ false → lines_from n h ++ r ≡ lines_from n k ++ s → map entry_words h ≡ map entry_words k
lines_told n [] [] r s ch ck nr ns same = refl
lines_told n [] (y ∷ k) r s ch ck nr ns same =
    absurd (no_line n y (lines_from (n + 1) k ++ s) r nr (sym (append_assoc (line_of n y) (lines_from (n + 1) k) s) ∙ sym same))
lines_told n (x ∷ h) [] r s ch ck nr ns same =
    absurd (no_line n x (lines_from (n + 1) h ++ r) s ns (sym (append_assoc (line_of n x) (lines_from (n + 1) h) r) ∙ same))
lines_told n (x ∷ h) (y ∷ k) r s ch ck nr ns same =
    let behind_x = lines_from (n + 1) h ++ r in
    let behind_y = lines_from (n + 1) k ++ s in
    let lines : numeral n ++ (spaced (entry_words x) ++ 10 ∷ behind_x) ≡ numeral n ++ (spaced (entry_words y) ++ 10 ∷ behind_y) =
    sym (line_is n x behind_x) ∙ sym (append_assoc (line_of n x) (lines_from (n + 1) h) r) ∙ same ∙ append_assoc (line_of n y) (lines_from (n + 1) k) s ∙ line_is n y behind_y in
    let behind = append_cancel_left (numeral n) (spaced (entry_words x) ++ 10 ∷ behind_x) (spaced (entry_words y) ++ 10 ∷ behind_y) lines in
    let told = line_told (entry_words x) (entry_words y) behind_x behind_y ch.0 ck.0 behind in
    let later = lines_told (n + 1) h k r s ch.1 ck.1 nr ns told.1 in
    rw (told.0, later) refl

pub words_told : (n : ℕ) (h k : List Entry) → HasCleanWords h → HasCleanWords k → lines_from n h ≡ lines_from n k → map entry_words h ≡ map entry_words k
words_told n h k ch ck same =
    lines_told n h k [] [] ch ck refl refl (append-nil (lines_from n h) ∙ same ∙ sym (append-nil (lines_from n k)))
