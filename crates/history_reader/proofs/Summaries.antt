-- Lines of a summary: each test passes exactly the lines of its form.
use Rattle.std.proofs.Common.{◌≡◌, ℕ, ◌+◌, Bool, true, false, if◌then◌else◌, List, [], ◌∷◌, ◌++◌, inl, inr, refl, sym, ap, subst, ◌∙◌, arith, Option, Some, None, append_assoc, codes}
use Rattle.std.specs.Prelude.{bytes_eq}
use Rattle.std.specs.List.{join_with_byte}
use Rattle.std.specs.Option.{option_and_then}
use Rattle.std.proofs.lemmas.Bool.{false≢true}
use Rattle.std.proofs.lemmas.List.Splits.{join_with_byte-slice_split}
use Rattle.std.proofs.lemmas.Option.{none-some, same_Some}
use Rattle.std.proofs.lemmas.Slice.Eq.{bytes_eq-Decides}
use Rattle.net_base.specs.Numeral.{numeral}
use Rattle.net_base.specs.Summary.{both_line, end_line, steps_line}
use Rattle.net_base.specs.Transcript.{spaced}
use Rattle.history_reader.specs.EntryReading.{behind_word}
use Rattle.history_reader.specs.Fields.{Words}
use Rattle.history_reader.specs.LineReading.{behind_end, behind_number, both_passed, end_passed, are_both_words, is_end, is_end_word, is_numeral, is_steps, no_word_left, steps_passed, line_words}
use Rattle.history_reader.specs.SummaryText.{IsBothLine, IsEndLine, IsEndWord, IsStepsLine}
use Rattle.history_reader.proofs.Clean.{IsFree, free_both}
use Rattle.history_reader.proofs.EntryWords.{word_sound}
use Rattle.history_reader.proofs.Exact.{AreBare, IsBare}
use Rattle.history_reader.proofs.FieldWords.{bare, bare_numeral, no_word}
use Rattle.history_reader.proofs.Lines.{joined_spaced, spaced_free, bare_free, words_back}
use Rattle.history_reader.proofs.Values.{numeral_is, numeral_spelled, value}
use Rattle.net_base.proofs.Shared.{same_text}

-- a test passes exactly the lines of this form
pub record FormExact (test : List ℕ → Bool) (IsLine : List ℕ → Type 0) : Type 0 where
  pub sound : (line : List ℕ) → test line ≡ true → IsLine (line ++ 10 ∷ [])
  pub told : (line : List ℕ) → IsLine line → (body : List ℕ) × (line ≡ body ++ 10 ∷ []) × IsFree 10 body × (test body ≡ true)

-- Words that are passed.

number_sound : (words rest : Words) → behind_number words ≡ Some rest → (n : ℕ) × (words ≡ numeral n ∷ rest)
number_sound [] rest e = absurd (none-some rest e)
number_sound (word ∷ words) rest e = by (is_numeral word) refl e
  where
    by : (v : Bool) → is_numeral word ≡ v → (if v then Some words else None) ≡ Some rest → (n : ℕ) × (word ∷ words ≡ numeral n ∷ rest)
    by true is f = (value 0 word, ap (λ (w : List ℕ). w ∷ words) (numeral_spelled word is) ∙ ap (λ (ws : Words). numeral (value 0 word) ∷ ws) (same_Some words rest f))
    by false is f = absurd (none-some rest f)

number_told : (n : ℕ) (rest : Words) → behind_number (numeral n ∷ rest) ≡ Some rest
number_told n rest = ap (λ v. if v then Some rest else None) (numeral_is n)

-- one step behind another
then_is : {X Y : Type 0} (go : X → Option Y) (o : Option X) (y : Y) → option_and_then go o ≡ Some y → (x : X) × (o ≡ Some x) × (go x ≡ Some y)
then_is go None y e = absurd (none-some y e)
then_is go (Some x) y e = (x, refl, e)

whole_is : (o : Option Words) → no_word_left o ≡ true → o ≡ Some []
whole_is None e = absurd (false≢true e)
whole_is (Some []) e = refl
whole_is (Some (word ∷ words)) e = absurd (false≢true e)

line_joined : (line word : List ℕ) (words : Words) → line_words line ≡ word ∷ words → line ≡ word ++ spaced words
line_joined line word words e = sym (join_with_byte-slice_split 32 line) ∙ ap (join_with_byte 32) e ∙ joined_spaced word words

-- The line of steps.

abbrev steps_body : ℕ → ℕ → List ℕ
steps_body a b = codes "steps" ++ spaced (numeral a ∷ codes "of" ∷ numeral b ∷ [])

steps_is : (a b : ℕ) → steps_body a b ++ 10 ∷ [] ≡ steps_line a b
steps_is a b = simp append_assoc refl

steps_sound : (words : Words) → steps_passed words ≡ Some [] → (a : ℕ) × (b : ℕ) × (words ≡ codes "steps" ∷ numeral a ∷ codes "of" ∷ numeral b ∷ [])
steps_sound words e =
    let third = then_is behind_number (option_and_then (behind_word (codes "of")) (option_and_then behind_number (behind_word (codes "steps") words))) [] e in
    let second = then_is (behind_word (codes "of")) (option_and_then behind_number (behind_word (codes "steps") words)) third.0 third.1 in
    let first = then_is behind_number (behind_word (codes "steps") words) second.0 second.1 in
    let b = number_sound third.0 [] third.2 in
    let a = number_sound first.0 second.0 first.2 in (
      a.0,
      b.0,
      word_sound (codes "steps") words first.0 first.1
          ∙ ap (λ (ws : Words). codes "steps" ∷ ws) (a.1 ∙ ap (λ (ws : Words). numeral a.0 ∷ ws) (word_sound (codes "of") second.0 third.0 second.2 ∙ ap (λ (ws : Words). codes "of" ∷ ws) b.1)),
    )

steps_told : (a b : ℕ) → steps_passed (codes "steps" ∷ numeral a ∷ codes "of" ∷ numeral b ∷ []) ≡ Some []
steps_told a b =
    ap (λ (o : Option Words). option_and_then behind_number (option_and_then (behind_word (codes "of")) o)) (number_told a (codes "of" ∷ numeral b ∷ [])) ∙ number_told b []

steps_bare : (a b : ℕ) → AreBare (numeral a ∷ codes "of" ∷ numeral b ∷ [])
steps_bare a b = (bare_numeral a, (bare (codes "of") refl refl, (bare_numeral b, tt)))

body_back : (word : List ℕ) (words : Words) → IsBare word → AreBare words → IsFree 10 (word ++ spaced words)
body_back word words clean all = free_both 10 word (spaced words) clean.1 (spaced_free words (bare_free 0 words all).1)

pub steps_exact : FormExact is_steps IsStepsLine
steps_exact =
    record {
      sound = λ line e.
          let is = steps_sound (line_words line) (whole_is (steps_passed (line_words line)) e) in
          (is.0, is.1, ap (λ (ws : List ℕ). ws ++ 10 ∷ []) (line_joined line (codes "steps") (numeral is.0 ∷ codes "of" ∷ numeral is.1 ∷ []) is.2) ∙ steps_is is.0 is.1);
      told = λ line is. (
        steps_body is.0 is.1,
        is.2 ∙ sym (steps_is is.0 is.1),
        body_back (codes "steps") (numeral is.0 ∷ codes "of" ∷ numeral is.1 ∷ []) (bare (codes "steps") refl refl) (steps_bare is.0 is.1),
        ap (λ (ws : Words). no_word_left (steps_passed ws)) (words_back (codes "steps") (numeral is.0 ∷ codes "of" ∷ numeral is.1 ∷ []) (bare (codes "steps") refl refl) (steps_bare is.0 is.1))
            ∙ ap no_word_left (steps_told is.0 is.1),
      );
    }

-- A line of a word and two numbers.

abbrev both_body : List ℕ → ℕ → ℕ → List ℕ
both_body word a b = word ++ spaced (numeral a ∷ numeral b ∷ [])

both_is : (word : List ℕ) (a b : ℕ) → both_body word a b ++ 10 ∷ [] ≡ both_line word a b
both_is word a b = simp append_assoc refl

both_sound : (word : List ℕ) (words : Words) → both_passed word words ≡ Some [] → (a : ℕ) × (b : ℕ) × (words ≡ word ∷ numeral a ∷ numeral b ∷ [])
both_sound word words e =
    let second = then_is behind_number (option_and_then behind_number (behind_word word words)) [] e in
    let first = then_is behind_number (behind_word word words) second.0 second.1 in
    let b = number_sound second.0 [] second.2 in
    let a = number_sound first.0 second.0 first.2 in
    (a.0, b.0, word_sound word words first.0 first.1 ∙ ap (λ (ws : Words). word ∷ ws) (a.1 ∙ ap (λ (ws : Words). numeral a.0 ∷ ws) b.1))

both_told : (word : List ℕ) (a b : ℕ) → both_passed word (word ∷ numeral a ∷ numeral b ∷ []) ≡ Some []
both_told word a b =
    ap (λ v. option_and_then behind_number (option_and_then behind_number (if v then Some (numeral a ∷ numeral b ∷ []) else None))) (same_text word)
    ∙ ap (λ (o : Option Words). option_and_then behind_number o) (number_told a (numeral b ∷ [])) ∙ number_told b []

pub both_exact : (word : List ℕ) → IsBare word → FormExact (are_both_words word) (IsBothLine word)
both_exact word clean =
    record {
      sound = λ line e.
          let is = both_sound word (line_words line) (whole_is (both_passed word (line_words line)) e) in
          (is.0, is.1, ap (λ (ws : List ℕ). ws ++ 10 ∷ []) (line_joined line word (numeral is.0 ∷ numeral is.1 ∷ []) is.2) ∙ both_is word is.0 is.1);
      told = λ line is.
          let all : AreBare (numeral is.0 ∷ numeral is.1 ∷ []) = (bare_numeral is.0, (bare_numeral is.1, tt)) in (
            both_body word is.0 is.1,
            is.2 ∙ sym (both_is word is.0 is.1),
            body_back word (numeral is.0 ∷ numeral is.1 ∷ []) clean all,
            ap (λ (ws : Words). no_word_left (both_passed word ws)) (words_back word (numeral is.0 ∷ numeral is.1 ∷ []) clean all) ∙ ap no_word_left (both_told word is.0 is.1),
          );
    }

-- The line of the end.

abbrev end_body : List ℕ → ℕ → List ℕ
end_body word m = codes "end" ++ spaced (word ∷ numeral m ∷ [])

end_is : (word : List ℕ) (m : ℕ) → end_body word m ++ 10 ∷ [] ≡ end_line word m
end_is word m = simp append_assoc refl

end_word_sound : (word : List ℕ) → is_end_word word ≡ true → IsEndWord word
end_word_sound word e = first (bytes_eq word (codes "done")) refl e
  where
    third : (v : Bool) → bytes_eq word (codes "limit") ≡ v → (if v then true else bytes_eq word (codes "unfinished")) ≡ true → IsEndWord word
    third true is f = inr (inr (inl ((bytes_eq-Decides word (codes "limit")).0 is)))
    third false is f = inr (inr (inr ((bytes_eq-Decides word (codes "unfinished")).0 f)))

    second : (v : Bool) → bytes_eq word (codes "stopped") ≡ v → (if v then true else (if bytes_eq word (codes "limit") then true else bytes_eq word (codes "unfinished"))) ≡ true → IsEndWord word
    second true is f = inr (inl ((bytes_eq-Decides word (codes "stopped")).0 is))
    second false is f = third (bytes_eq word (codes "limit")) refl f

    first : (v : Bool) → bytes_eq word (codes "done") ≡ v
        → (if v then true else (if bytes_eq word (codes "stopped") then true else (if bytes_eq word (codes "limit") then true else bytes_eq word (codes "unfinished")))) ≡ true → IsEndWord word
    first true is f = inl ((bytes_eq-Decides word (codes "done")).0 is)
    first false is f = second (bytes_eq word (codes "stopped")) refl f

abbrev IsTold : List ℕ → Type 0
IsTold word = (is_end_word word ≡ true) × IsBare word

end_word_told : (word : List ℕ) → IsEndWord word → IsTold word
end_word_told word (inl is) = subst IsTold (sym is) (refl, bare (codes "done") refl refl)
end_word_told word (inr (inl is)) = subst IsTold (sym is) (refl, bare (codes "stopped") refl refl)
end_word_told word (inr (inr (inl is))) = subst IsTold (sym is) (refl, bare (codes "limit") refl refl)
end_word_told word (inr (inr (inr is))) = subst IsTold (sym is) (refl, bare (codes "unfinished") refl refl)

behind_end_sound : (words rest : Words) → behind_end words ≡ Some rest → (word : List ℕ) × IsEndWord word × (words ≡ word ∷ rest)
behind_end_sound [] rest e = absurd (none-some rest e)
behind_end_sound (word ∷ words) rest e = by (is_end_word word) refl e
  where
    by : (v : Bool) → is_end_word word ≡ v → (if v then Some words else None) ≡ Some rest → (w : List ℕ) × IsEndWord w × (word ∷ words ≡ w ∷ rest)
    by true is f = (word, end_word_sound word is, ap (λ (ws : Words). word ∷ ws) (same_Some words rest f))
    by false is f = absurd (none-some rest f)

end_sound : (words : Words) → end_passed words ≡ Some [] → (word : List ℕ) × (m : ℕ) × IsEndWord word × (words ≡ codes "end" ∷ word ∷ numeral m ∷ [])
end_sound words e =
    let second = then_is behind_number (option_and_then behind_end (behind_word (codes "end") words)) [] e in
    let first = then_is behind_end (behind_word (codes "end") words) second.0 second.1 in
    let m = number_sound second.0 [] second.2 in
    let w = behind_end_sound first.0 second.0 first.2 in
    (w.0, m.0, w.1, word_sound (codes "end") words first.0 first.1 ∙ ap (λ (ws : Words). codes "end" ∷ ws) (w.2 ∙ ap (λ (ws : Words). w.0 ∷ ws) m.1))

end_told : (word : List ℕ) (m : ℕ) → is_end_word word ≡ true → end_passed (codes "end" ∷ word ∷ numeral m ∷ []) ≡ Some []
end_told word m is = ap (λ v. option_and_then behind_number (if v then Some (numeral m ∷ []) else None)) is ∙ number_told m []

pub end_exact : FormExact is_end IsEndLine
end_exact =
    record {
      sound = λ line e.
          let is = end_sound (line_words line) (whole_is (end_passed (line_words line)) e) in
          (is.0, is.1, is.2, ap (λ (ws : List ℕ). ws ++ 10 ∷ []) (line_joined line (codes "end") (is.0 ∷ numeral is.1 ∷ []) is.3) ∙ end_is is.0 is.1);
      told = λ line is.
          let word = end_word_told is.0 is.2 in
          let all : AreBare (is.0 ∷ numeral is.1 ∷ []) = (word.1, (bare_numeral is.1, tt)) in (
            end_body is.0 is.1,
            is.3 ∙ sym (end_is is.0 is.1),
            body_back (codes "end") (is.0 ∷ numeral is.1 ∷ []) (bare (codes "end") refl refl) all,
            ap (λ (ws : Words). no_word_left (end_passed ws)) (words_back (codes "end") (is.0 ∷ numeral is.1 ∷ []) (bare (codes "end") refl refl) all) ∙ ap no_word_left (end_told is.0 is.1 word.0),
          );
    }

-- A line of an entry is none of steps.

pub no_steps : (n : ℕ) (words : Words) → IsBare (numeral n) → AreBare words → is_steps (numeral n ++ spaced words) ≡ false
no_steps n words clean all =
    ap (λ (ws : Words). no_word_left (steps_passed ws)) (words_back (numeral n) words clean all)
    ∙ ap (λ v. no_word_left (option_and_then behind_number (option_and_then (behind_word (codes "of")) (option_and_then behind_number (if v then Some words else None))))) (no_word n 115 (codes "teps") (omega arith))
