-- What is read of a text is what it spells, and its first bad line is the one that is told.
use Rattle.std.proofs.Common.{◌≡◌, ◌≢◌, ℕ, zero, suc, ◌+◌, ◌<◌, ◌≤◌, ◌^◌, ◌==◌, Bool, true, false, if◌then◌else◌, List, [], ◌∷◌, ◌++◌, ◌⊎◌, inl, inr, length, refl, sym, ap, subst, ◌∙◌, arith, Option, Some, None, append_assoc, append-nil, length-append, codes}
use Rattle.std.specs.List.{concat, join_with_byte}
use Rattle.std.proofs.lemmas.Bool.{false≢true, eqb-true}
use Rattle.std.proofs.lemmas.List.Splits.{join_with_byte-slice_split}
use Rattle.std.proofs.lemmas.Option.{none-some, same_Some}
use Rattle.net_base.specs.declared.history.Entry.{Entry}
use Rattle.net_base.specs.Addresses.{parts_at}
use Rattle.net_base.specs.Plain.{IsPlain}
use Rattle.net_base.specs.Transcript.{entry_words, line_of, lines_from}
use Rattle.std.specs.Prelude.{Result, IfErr}
use Rattle.history_reader.specs.declared.fault.LineError.{LineError}
use Rattle.history_reader.specs.declared.fault.LineError.TheVariants as error
use Rattle.history_reader.specs.LineReading.{TellsFault, TellsReading, TellsVerdict, Bad, Good, Parts, Reading, Refused, EntryVerdict, Whole, ending, fault_from, looks_further, are_both_words, is_end, is_steps, history_judged, entry_verdict, onto, passed, reading_line, history_reading_from, summary_tests, line_summed}
use Rattle.history_reader.specs.Spelling.{Begins, IsBadText, IsBadEntryLine, IsBadSummary, IsBehind, IsEntryLine, IsGoodHistory, IsSummary, SpellsHistory}
use Rattle.history_reader.specs.SummaryText.{AreLinesFrom, IsLineOf}
use Rattle.history_reader.specs.Wide.{IsWide}
use Rattle.history_reader.proofs.Clean.{IsFree, AreFree, first_part, one_part, parts_back, parts_free}
use Rattle.history_reader.proofs.EntryWords.{entry_bare}
use Rattle.history_reader.proofs.FieldWords.{bare, bare_numeral}
use Rattle.history_reader.proofs.Lines.{IsRefused, Told, body_free, body_of, line_other, line_refused, line_sound, line_told, whole_line}
use Rattle.history_reader.proofs.Parts.{some_word}
use Rattle.history_reader.proofs.Summaries.{FormExact, both_exact, end_exact, no_steps, steps_exact}

-- Texts and their lines.

abbrev lines_at : List ℕ → Parts
lines_at text = parts_at 10 text

-- the first line of a text, and what stands behind its newline, if there is one
abbrev Cut : List ℕ → Type 0
Cut text = (IsFree 10 text) ⊎ ((line : List ℕ) × (rest : List ℕ) × IsFree 10 line × (text ≡ line ++ 10 ∷ rest))

cut_more : (b : ℕ) (text : List ℕ) → (b == 10) ≡ false → Cut text → Cut (b ∷ text)
cut_more b text e (inl free) = inl (e, free)
cut_more b text e (inr cut) = inr (b ∷ cut.0, cut.1, (e, cut.2), ap (λ ws. b ∷ ws) cut.3)

cut : (text : List ℕ) → Cut text
cut [] = inl tt
cut (b ∷ text) = by (b == 10) refl (cut text)
  where
    by : (v : Bool) → (b == 10) ≡ v → Cut text → Cut (b ∷ text)
    by true e later = inr ([], text, tt, ap (λ c. c ∷ text) (eqb-true b 10 e))
    by false e later = cut_more b text e later

abbrev head_of : Parts → List ℕ
head_of [] = []
head_of (part ∷ parts) = part

abbrev tail_of : Parts → Parts
tail_of [] = []
tail_of (part ∷ parts) = parts

cut_parts : (text line rest : List ℕ) → IsFree 10 line → text ≡ line ++ 10 ∷ rest → lines_at text ≡ line ∷ lines_at rest
cut_parts text line rest free is = ap lines_at is ∙ first_part 10 line rest free

-- two cuts of a text are the same
same_cut : (text line rest body behind : List ℕ) → IsFree 10 line → text ≡ line ++ 10 ∷ rest → IsFree 10 body → text ≡ (body ++ 10 ∷ []) ++ behind → line ≡ body
same_cut text line rest body behind free is whole at =
    ap head_of (sym (cut_parts text line rest free is) ∙ cut_parts text body behind whole (at ∙ append_assoc body (10 ∷ []) behind))

-- a text without a newline begins with no line
no_line : (text body behind : List ℕ) → IsFree 10 text → IsFree 10 body → text ≡ (body ++ 10 ∷ []) ++ behind → ⊥
no_line text body behind free whole at =
    some_word 10 behind (sym (ap tail_of (sym (one_part 10 text free) ∙ cut_parts text body behind whole (at ∙ append_assoc body (10 ∷ []) behind))))

-- Lines that pass.

cond_line : (test : List ℕ → Bool) (line : List ℕ) (parts : Parts) → (parts ≡ [] → ⊥) → passed test (line ∷ parts) ≡ (if test line then Some parts else None)
cond_line test line [] some = absurd (some refl)
cond_line test line (part ∷ parts) some = refl

pass_told : (test : List ℕ → Bool) (IsLine : List ℕ → Type 0) → FormExact test IsLine → (line rest : List ℕ) → IsLine line → passed test (lines_at (line ++ rest)) ≡ Some (lines_at rest)
pass_told test IsLine exact line rest is =
    let told = exact.told line is in
    ap (passed test) (cut_parts (line ++ rest) told.0 rest told.2 (ap (λ ws. ws ++ rest) told.1 ∙ append_assoc told.0 (10 ∷ []) rest))
    ∙ cond_line test told.0 (lines_at rest) (some_word 10 rest)
    ∙ ap (λ v. if v then Some (lines_at rest) else None) told.3

-- what a line that passes is
abbrev Passes : (List ℕ → Type 0) → List ℕ → Parts → Type 0
Passes IsLine text parts = (line : List ℕ) × (rest : List ℕ) × IsLine line × (text ≡ line ++ rest) × (parts ≡ lines_at rest)

pass_sound : (test : List ℕ → Bool) (IsLine : List ℕ → Type 0) → FormExact test IsLine → (text : List ℕ) (parts : Parts) → passed test (lines_at text) ≡ Some parts → Passes IsLine text parts
pass_sound test IsLine exact text parts e = by (cut text)
  where
    at : (line rest : List ℕ) → text ≡ line ++ 10 ∷ rest → (v : Bool) → test line ≡ v → (if v then Some (lines_at rest) else None) ≡ Some parts → Passes IsLine text parts
    at line rest is true t f = (line ++ 10 ∷ [], rest, exact.sound line t, is ∙ sym (append_assoc line (10 ∷ []) rest), sym (same_Some (lines_at rest) parts f))
    at line rest is false t f = absurd (none-some parts f)

    by : Cut text → Passes IsLine text parts
    by (inl free) = absurd (none-some parts (ap (passed test) (sym (one_part 10 text free)) ∙ e))
    by (inr c) =
        at c.0 c.1 c.3 (test c.0) refl (sym (cond_line test c.0 (lines_at c.1) (some_word 10 c.1)) ∙ ap (passed test) (sym (cut_parts text c.0 c.1 c.2 c.3)) ∙ e)

none_begins : (test : List ℕ → Bool) (IsLine : List ℕ → Type 0) → FormExact test IsLine → (text : List ℕ) → passed test (lines_at text) ≡ None → Begins IsLine text → ⊥
none_begins test IsLine exact text e begins =
    none-some (lines_at begins.1) (sym e ∙ ap (λ ws. passed test (lines_at ws)) begins.3 ∙ pass_told test IsLine exact begins.0 begins.1 begins.2)

begins_none : (test : List ℕ → Bool) (IsLine : List ℕ → Type 0) → FormExact test IsLine → (text : List ℕ) → (Begins IsLine text → ⊥) → passed test (lines_at text) ≡ None
begins_none test IsLine exact text never = by (passed test (lines_at text)) refl
  where
    by : (o : Option Parts) → passed test (lines_at text) ≡ o → o ≡ None
    by None e = refl
    by (Some parts) e = let is = pass_sound test IsLine exact text parts e in absurd (never (is.0, is.1, is.2, is.3))

-- Entries.

abbrev AllGood : List Entry → Type 0
AllGood [] = Unit {0}
AllGood (x ∷ xs) = IsGoodHistory x × AllGood xs

goods : (h : List Entry) → IsPlain h → IsWide h → AllGood h
goods [] plain wide = tt
goods (x ∷ xs) plain wide = (record { event = plain.0; reply = plain.1; wide = wide.0 }, goods xs plain.2 wide.1)

good_plain : (h : List Entry) → AllGood h → IsPlain h
good_plain [] all = tt
good_plain (x ∷ xs) all = (all.0.event, all.0.reply, good_plain xs all.1)

good_wide : (h : List Entry) → AllGood h → IsWide h
good_wide [] all = tt
good_wide (x ∷ xs) all = (all.0.wide, good_wide xs all.1)

onto_none : (r : Reading) → onto [] r ≡ r
onto_none (Whole h summary) = refl
onto_none (Bad line cause) = refl

onto_more : (x : Entry) (xs : List Entry) (r : Reading) → onto (x ∷ []) (onto xs r) ≡ onto (x ∷ xs) r
onto_more x xs (Whole h summary) = refl
onto_more x xs (Bad line cause) = refl

onto_both : (h k : List Entry) (r : Reading) → onto h (onto k r) ≡ onto (h ++ k) r
onto_both h k (Whole xs summary) = ap (λ (ys : List Entry). Whole ys summary) (sym (append_assoc h k xs))
onto_both h k (Bad line cause) = refl

-- a first line with others behind it
abbrev stepped : ℕ → List ℕ → Parts → Reading
stepped n line parts =
    if is_steps line then line_summed (line ∷ parts) (fault_from summary_tests n (line ∷ parts)) else history_judged n (entry_verdict n line) (history_reading_from (n + 1) parts)

line_first : (n : ℕ) (line : List ℕ) (parts : Parts) → (parts ≡ [] → ⊥) → history_reading_from n (line ∷ parts) ≡ stepped n line parts
line_first n line [] some = absurd (some refl)
line_first n line (part ∷ parts) some = refl

entry_steps : (n : ℕ) (x : Entry) → IsGoodHistory x → is_steps (body_of n x) ≡ false
entry_steps n x good = no_steps n (entry_words x) (bare_numeral n) (entry_bare x good)

entry_first : (n : ℕ) (x : Entry) (rest : List ℕ) → n < 2 ^ 64 → IsGoodHistory x → history_reading_from n (lines_at (line_of n x ++ rest)) ≡ onto (x ∷ []) (history_reading_from (n + 1) (lines_at rest))
entry_first n x rest lt good =
    ap (history_reading_from n) (cut_parts (line_of n x ++ rest) (body_of n x) rest (body_free n x good) (ap (λ ws. ws ++ rest) (whole_line n x) ∙ append_assoc (body_of n x) (10 ∷ []) rest))
    ∙ line_first n (body_of n x) (lines_at rest) (some_word 10 rest)
    ∙ ap (λ v. if v then line_summed (body_of n x ∷ lines_at rest) (fault_from summary_tests n (body_of n x ∷ lines_at rest)) else history_judged n (entry_verdict n (body_of n x)) (history_reading_from (n + 1) (lines_at rest))) (entry_steps n x good)
    ∙ ap (λ v. history_judged n v (history_reading_from (n + 1) (lines_at rest))) (line_told n x lt good)

entries_on : (h : List Entry) (n : ℕ) (rest : List ℕ) → n + length h < 2 ^ 64 → AllGood h → history_reading_from n (lines_at (lines_from n h ++ rest)) ≡ onto h (history_reading_from (n + length h) (lines_at rest))
entries_on [] n rest lt all =
    let same : n ≡ n + 0 = omega arith in
    ap (λ k. history_reading_from k (lines_at rest)) same ∙ sym (onto_none (history_reading_from (n + 0) (lines_at rest)))
entries_on (x ∷ xs) n rest lt all =
    let same : n + 1 + length xs ≡ n + length (x ∷ xs) = omega arith in
    ap (λ ws. history_reading_from n (lines_at ws)) (append_assoc (line_of n x) (lines_from (n + 1) xs) rest)
    ∙ entry_first n x (lines_from (n + 1) xs ++ rest) (omega (arith, lt)) all.0
    ∙ ap (onto (x ∷ [])) (entries_on xs (n + 1) rest (omega (arith, lt)) all.1)
    ∙ onto_more x xs (history_reading_from (n + 1 + length xs) (lines_at rest))
    ∙ ap (λ k. onto (x ∷ xs) (history_reading_from k (lines_at rest))) same

-- every entry has a byte
lines_long : (h : List Entry) (n : ℕ) → length h ≤ length (lines_from n h)
lines_long [] n = omega arith
lines_long (x ∷ xs) n =
    let later = lines_long xs (n + 1) in
    let whole = ap (λ (ws : List ℕ). length ws) (ap (λ ws. ws ++ lines_from (n + 1) xs) (whole_line n x)) in
    let first = length-append (body_of n x ++ 10 ∷ []) (lines_from (n + 1) xs) in
    let front = length-append (body_of n x) (10 ∷ []) in
    omega (arith, later, whole, first, front)

-- Summaries.

abbrev forms_from : ℕ → List (List ℕ → Bool)
forms_from zero = summary_tests
forms_from (suc zero) = are_both_words (codes "messages") ∷ are_both_words (codes "bytes") ∷ is_end ∷ []
forms_from (suc (suc zero)) = are_both_words (codes "bytes") ∷ is_end ∷ []
forms_from (suc (suc (suc zero))) = is_end ∷ []
forms_from (suc (suc (suc (suc k)))) = []

messages_exact : FormExact (are_both_words (codes "messages")) (IsLineOf (suc zero))
messages_exact = both_exact (codes "messages") (bare (codes "messages") refl refl)

bytes_exact : FormExact (are_both_words (codes "bytes")) (IsLineOf (suc (suc zero)))
bytes_exact = both_exact (codes "bytes") (bare (codes "bytes") refl refl)

form_on : (k n : ℕ) (line rest : List ℕ) → IsLineOf k line → fault_from (forms_from k) n (lines_at (line ++ rest)) ≡ fault_from (forms_from (suc k)) (n + 1) (lines_at rest)
form_on zero n line rest is = ap (λ o. looks_further n o (fault_from (forms_from (suc zero)) (n + 1))) (pass_told is_steps (IsLineOf zero) steps_exact line rest is)
form_on (suc zero) n line rest is = ap (λ o. looks_further n o (fault_from (forms_from (suc (suc zero))) (n + 1))) (pass_told (are_both_words (codes "messages")) (IsLineOf (suc zero)) messages_exact line rest is)
form_on (suc (suc zero)) n line rest is = ap (λ o. looks_further n o (fault_from (forms_from (suc (suc (suc zero)))) (n + 1))) (pass_told (are_both_words (codes "bytes")) (IsLineOf (suc (suc zero))) bytes_exact line rest is)
form_on (suc (suc (suc zero))) n line rest is = ap (λ o. looks_further n o (fault_from [] (n + 1))) (pass_told is_end (IsLineOf (suc (suc (suc zero)))) end_exact line rest is)
form_on (suc (suc (suc (suc k)))) n line rest is = absurd is

forms_on : (lines : List (List ℕ)) (k n : ℕ) (rest : List ℕ) → AreLinesFrom k lines → fault_from (forms_from k) n (lines_at (concat lines ++ rest)) ≡ fault_from (forms_from (length lines + k)) (n + length lines) (lines_at rest)
forms_on [] k n rest are =
    let same : n ≡ n + 0 = omega arith in
    let form : k ≡ 0 + k = omega arith in
    ap (λ m. fault_from (forms_from k) m (lines_at rest)) same ∙ ap (λ j. fault_from (forms_from j) (n + 0) (lines_at rest)) form
forms_on (line ∷ lines) k n rest are =
    let same : n + 1 + length lines ≡ n + length (line ∷ lines) = omega arith in
    let form : length lines + suc k ≡ length (line ∷ lines) + k = omega arith in
    ap (λ ws. fault_from (forms_from k) n (lines_at ws)) (append_assoc line (concat lines) rest)
    ∙ form_on k n line (concat lines ++ rest) are.0
    ∙ forms_on lines (suc k) (n + 1) rest are.1
    ∙ ap (λ m. fault_from (forms_from (length lines + suc k)) m (lines_at rest)) same
    ∙ ap (λ j. fault_from (forms_from j) (n + length (line ∷ lines)) (lines_at rest)) form

steps_first : (n : ℕ) (line : List ℕ) (parts : Parts) → is_steps line ≡ true → stepped n line parts ≡ line_summed (line ∷ parts) (fault_from summary_tests n (line ∷ parts))
steps_first n line parts e = ap (λ v. if v then line_summed (line ∷ parts) (fault_from summary_tests n (line ∷ parts)) else history_judged n (entry_verdict n line) (history_reading_from (n + 1) parts)) e

-- a text that begins with a line of steps is a summary, good or bad
steps_read : (n : ℕ) (line rest : List ℕ) → IsLineOf zero line → history_reading_from n (lines_at (line ++ rest)) ≡ line_summed (lines_at (line ++ rest)) (fault_from summary_tests n (lines_at (line ++ rest)))
steps_read n line rest is =
    let told = steps_exact.told line is in
    let parts = cut_parts (line ++ rest) told.0 rest told.2 (ap (λ ws. ws ++ rest) told.1 ∙ append_assoc told.0 (10 ∷ []) rest) in
    ap (history_reading_from n) parts ∙ line_first n told.0 (lines_at rest) (some_word 10 rest) ∙ steps_first n told.0 (lines_at rest) told.3
    ∙ ap (λ ps. line_summed ps (fault_from summary_tests n ps)) (sym parts)

summary_read : (n : ℕ) (text : List ℕ) → IsSummary text → history_reading_from n (lines_at text) ≡ Whole [] (Some text)
summary_read n text ([], four, are, is) = absurd (omega (arith, four))
summary_read n text (line ∷ lines, four, are, is) =
    let good : fault_from summary_tests n (lines_at (line ++ concat lines)) ≡ None =
    ap (λ ws. fault_from summary_tests n (lines_at ws)) (sym (append-nil (line ++ concat lines)))
    ∙ forms_on (line ∷ lines) zero n [] are
    ∙ ap (λ j. fault_from (forms_from (j + zero)) (n + length (line ∷ lines)) (lines_at [])) four in
    ap (λ ws. history_reading_from n (lines_at ws)) is
    ∙ steps_read n line (concat lines) are.0
    ∙ ap (line_summed (lines_at (line ++ concat lines))) good
    ∙ ap (λ ws. Whole [] (Some ws)) (join_with_byte-slice_split 10 (line ++ concat lines) ∙ sym is)

-- What is spelled is read.

behind_read : (n : ℕ) (summary : Option (List ℕ)) (rest : List ℕ) → IsBehind summary rest → history_reading_from n (lines_at rest) ≡ Whole [] summary
behind_read n None rest is = ap (λ ws. history_reading_from n (lines_at ws)) is
behind_read n (Some text) rest is = ap (λ ws. history_reading_from n (lines_at ws)) is.0 ∙ summary_read n text is.1

pub spelled_read : (bytes : List ℕ) (h : List Entry) (summary : Option (List ℕ)) → length bytes < 2 ^ 64 → SpellsHistory bytes h summary → reading_line bytes ≡ Whole h summary
spelled_read bytes h summary lt spells =
    let rest = spells.spelled.0 in
    let long = lines_long h 0 in
    let whole = ap (λ (ws : List ℕ). length ws) spells.spelled.1 in
    let both = length-append (lines_from 0 h) rest in
    ap reading_line spells.spelled.1
    ∙ entries_on h 0 rest (omega (arith, lt, long, whole, both)) (goods h spells.plain spells.wide)
    ∙ ap (onto h) (behind_read (0 + length h) summary rest spells.spelled.2)
    ∙ ap (λ (xs : List Entry). Whole xs summary) (append-nil h)

-- What is read is spelled.

abbrev is_cons : {X : Type 0} → List X → Bool
is_cons [] = false
is_cons (x ∷ xs) = true

no_part : (part : List ℕ) (parts : Parts) → part ∷ parts ≡ [] → ⊥
no_part part parts e = false≢true (sym (ap is_cons e))

other_head : (b : ℕ) (part : List ℕ) → b ∷ part ≡ [] → ⊥
other_head b part e = false≢true (sym (ap is_cons e))

-- where reading ends: behind the last newline, at a summary or at a line that is refused
abbrev Stops : ℕ → Parts → Type 0
Stops n [] = ⊥
Stops n (last ∷ []) = Unit {0}
Stops n (line ∷ part ∷ parts) = (is_steps line ≡ true) ⊎ ((is_steps line ≡ false) × ((c : ℕ) × (entry_verdict n line ≡ Refused c)))

record View (n : ℕ) (whole : Parts) : Type 0 where
  before : List Entry
  rest : Parts
  all : AllGood before
  free : AreFree 10 rest
  joins : join_with_byte 10 whole ≡ lines_from n before ++ join_with_byte 10 rest
  reads : history_reading_from n whole ≡ onto before (history_reading_from (n + length before) rest)
  stops : Stops (n + length before) rest

at_once : (n : ℕ) (whole : Parts) → AreFree 10 whole → Stops n whole → View n whole
at_once n whole free stops =
    let same : n ≡ n + 0 = omega arith in
    record {
      before = [];
      rest = whole;
      all = tt;
      free = free;
      joins = refl;
      reads = sym (onto_none (history_reading_from n whole)) ∙ ap (λ k. onto [] (history_reading_from k whole)) same;
      stops = subst (λ k. Stops k whole) same stops;
    }

entry_before : (n : ℕ) (line part : List ℕ) (parts : Parts) (x : Entry) → Told n line x → history_reading_from n (line ∷ part ∷ parts) ≡ onto (x ∷ []) (history_reading_from (n + 1) (part ∷ parts)) → View (n + 1) (part ∷ parts)
    → View n (line ∷ part ∷ parts)
entry_before n line part parts x told reads v =
    let same : n + 1 + length v.before ≡ n + length (x ∷ v.before) = omega arith in
    record {
      before = x ∷ v.before;
      rest = v.rest;
      all = (told.good, v.all);
      free = v.free;
      joins =
          ap (λ ws. ws ++ 10 ∷ join_with_byte 10 (part ∷ parts)) told.line_is
          ∙ sym (append_assoc (body_of n x) (10 ∷ []) (join_with_byte 10 (part ∷ parts)))
          ∙ ap (λ ws. ws ++ join_with_byte 10 (part ∷ parts)) (sym (whole_line n x))
          ∙ ap (λ ws. line_of n x ++ ws) v.joins
          ∙ sym (append_assoc (line_of n x) (lines_from (n + 1) v.before) (join_with_byte 10 v.rest));
      reads =
          reads ∙ ap (onto (x ∷ [])) v.reads ∙ onto_more x v.before (history_reading_from (n + 1 + length v.before) v.rest)
          ∙ ap (λ k. onto (x ∷ v.before) (history_reading_from k v.rest)) same;
      stops = subst (λ k. Stops k v.rest) same v.stops;
    }

view : (whole : Parts) (n : ℕ) → AreFree 10 whole → (whole ≡ [] → ⊥) → View n whole
view [] n free some = absurd (some refl)
view (last ∷ []) n free some = at_once n (last ∷ []) free tt
view (line ∷ part ∷ parts) n free some = by (is_steps line) refl (view (part ∷ parts) (n + 1) free.1 (no_part part parts))
  where
    at : (v : EntryVerdict) → entry_verdict n line ≡ v → is_steps line ≡ false → View (n + 1) (part ∷ parts) → View n (line ∷ part ∷ parts)
    at (Good x) e none later =
        entry_before n line part parts x (line_sound n line x free.0 e)
        (ap (λ v. if v then line_summed (line ∷ part ∷ parts) (fault_from summary_tests n (line ∷ part ∷ parts)) else history_judged n (entry_verdict n line) (history_reading_from (n + 1) (part ∷ parts))) none
        ∙ ap (λ v. history_judged n v (history_reading_from (n + 1) (part ∷ parts))) e) later
    at (Refused c) e none later = at_once n (line ∷ part ∷ parts) free (inr (none, (c, e)))

    by : (v : Bool) → is_steps line ≡ v → View (n + 1) (part ∷ parts) → View n (line ∷ part ∷ parts)
    by true e later = at_once n (line ∷ part ∷ parts) free (inl e)
    by false e later = at (entry_verdict n line) refl e later

-- Summaries, as far as they are good.

record Fault (k : ℕ) (text : List ℕ) (n : ℕ) : Type 0 where
  lines : List (List ℕ)
  rest : List ℕ
  are : AreLinesFrom k lines
  joins : text ≡ concat lines ++ rest
  told :
      ((rest ≡ []) × (length lines + k ≡ 4) × (fault_from (forms_from k) n (lines_at text) ≡ None))
      ⊎ ((fault_from (forms_from k) n (lines_at text) ≡ Some (n + length lines + 1)) × IsBadSummary (length lines + k) rest)

one_fault : (k n : ℕ) (text : List ℕ) (test : List ℕ → Bool) → FormExact test (IsLineOf k) → k < 4
    → fault_from (forms_from k) n (lines_at text) ≡ looks_further n (passed test (lines_at text)) (fault_from (forms_from (suc k)) (n + 1))
    → ((rest : List ℕ) → Fault (suc k) rest (n + 1)) → Fault k text n
one_fault k n text test exact few is later = by (passed test (lines_at text)) refl
  where
    more : (line rest : List ℕ) → IsLineOf k line → text ≡ line ++ rest → fault_from (forms_from k) n (lines_at text) ≡ fault_from (forms_from (suc k)) (n + 1) (lines_at rest) → Fault (suc k) rest (n + 1) → Fault k text n
    more line rest line_is at same f =
        let longer : length f.lines + suc k ≡ length (line ∷ f.lines) + k = omega arith in
        record {
          lines = line ∷ f.lines;
          rest = f.rest;
          are = (line_is, f.are);
          joins = at ∙ ap (λ ws. line ++ ws) f.joins ∙ sym (append_assoc line (concat f.lines) f.rest);
          told = elim f.told as (λ t. ((f.rest ≡ []) × (length (line ∷ f.lines) + k ≡ 4) × (fault_from (forms_from k) n (lines_at text) ≡ None)) ⊎ ((fault_from (forms_from k) n (lines_at text) ≡ Some (n + length (line ∷ f.lines) + 1)) × IsBadSummary (length (line ∷ f.lines) + k) f.rest)) [
            | inl t ↦ inl (t.0, sym longer ∙ t.1, same ∙ t.2)
            | inr t ↦ inr (same ∙ t.0 ∙ ap (λ (m : ℕ). Some m) (omega arith), subst (λ j. IsBadSummary j f.rest) longer t.1)
          ];
        }

    by : (o : Option Parts) → passed test (lines_at text) ≡ o → Fault k text n
    by None e =
        let same : k ≡ 0 + k = omega arith in
        let bad : IsBadSummary k text = (inr few, none_begins test (IsLineOf k) exact text e) in
        record {
          lines = [];
          rest = text;
          are = tt;
          joins = refl;
          told = inr (is ∙ ap (λ o. looks_further n o (fault_from (forms_from (suc k)) (n + 1))) e ∙ ap (λ (m : ℕ). Some m) (omega arith), subst (λ j. IsBadSummary j text) same bad);
        }
    by (Some parts) e =
        let p = pass_sound test (IsLineOf k) exact text parts e in
        more p.0 p.1 p.2 p.3 (is ∙ ap (λ o. looks_further n o (fault_from (forms_from (suc k)) (n + 1))) e ∙ ap (fault_from (forms_from (suc k)) (n + 1)) p.4) (later p.1)

-- behind the four lines

abbrev LastParts : ℕ → List ℕ → Parts → Type 0
LastParts n text parts = ((text ≡ []) × (fault_from [] n parts ≡ None)) ⊎ ((fault_from [] n parts ≡ Some (n + 1)) × (text ≢ []))

last_parts : (n : ℕ) (text : List ℕ) (parts : Parts) → lines_at text ≡ parts → LastParts n text parts
last_parts n text [] e = absurd (some_word 10 text e)
last_parts n text ([] ∷ []) e = inl (sym (join_with_byte-slice_split 10 text) ∙ ap (join_with_byte 10) e, refl)
last_parts n text ((b ∷ part) ∷ []) e = inr (refl, λ none. other_head b part (sym (ap head_of e) ∙ ap (λ ws. head_of (lines_at ws)) none))
last_parts n text (part ∷ next ∷ parts) e = inr (refl, λ none. no_part next parts (sym (ap tail_of e) ∙ ap (λ ws. tail_of (lines_at ws)) none))

behind_all : (text : List ℕ) (n : ℕ) → Fault (suc (suc (suc (suc zero)))) text n
behind_all text n = by (last_parts n text (lines_at text) refl)
  where
    by : LastParts n text (lines_at text) → Fault (suc (suc (suc (suc zero)))) text n
    by (inl t) = record { lines = []; rest = text; are = tt; joins = refl; told = inl (t.0, omega arith, t.1) }
    by (inr t) = record { lines = []; rest = text; are = tt; joins = refl; told = inr (t.0 ∙ ap (λ (m : ℕ). Some m) (omega arith), (inl t.1, λ begins. begins.2)) }

end_fault : (text : List ℕ) (n : ℕ) → Fault (suc (suc (suc zero))) text n
end_fault text n = one_fault (suc (suc (suc zero))) n text is_end end_exact (omega arith) refl (λ rest. behind_all rest (n + 1))

bytes_fault : (text : List ℕ) (n : ℕ) → Fault (suc (suc zero)) text n
bytes_fault text n = one_fault (suc (suc zero)) n text (are_both_words (codes "bytes")) bytes_exact (omega arith) refl (λ rest. end_fault rest (n + 1))

messages_fault : (text : List ℕ) (n : ℕ) → Fault (suc zero) text n
messages_fault text n = one_fault (suc zero) n text (are_both_words (codes "messages")) messages_exact (omega arith) refl (λ rest. bytes_fault rest (n + 1))

steps_fault : (text : List ℕ) (n : ℕ) → Fault zero text n
steps_fault text n = one_fault zero n text is_steps steps_exact (omega arith) refl (λ rest. messages_fault rest (n + 1))

-- Readings, told apart.

abbrev is_whole_reading : Reading → Bool
is_whole_reading (Whole h summary) = true
is_whole_reading (Bad line cause) = false

pub bad_whole : (line cause : ℕ) (h : List Entry) (summary : Option (List ℕ)) → Bad line cause ≡ Whole h summary → ⊥
bad_whole line cause h summary e = false≢true (ap is_whole_reading e)

abbrev pub entries_in : Reading → List Entry
entries_in (Whole h summary) = h
entries_in (Bad line cause) = []

abbrev pub summary_in : Reading → Option (List ℕ)
summary_in (Whole h summary) = summary
summary_in (Bad line cause) = None

abbrev pub line_in : Reading → ℕ
line_in (Whole h summary) = 0
line_in (Bad line cause) = line

abbrev pub cause_in : Reading → ℕ
cause_in (Whole h summary) = 0
cause_in (Bad line cause) = cause

-- a history and what stands behind it
spells : (bytes : List ℕ) (before : List Entry) (rest : List ℕ) (summary : Option (List ℕ)) (h : List Entry) (t : Option (List ℕ)) → bytes ≡ lines_from 0 before ++ rest → AllGood before → IsBehind summary rest
    → Whole (before ++ []) summary ≡ Whole h t → SpellsHistory bytes h t
spells bytes before rest summary h t is all behind same =
    let entries : before ≡ h = sym (append-nil before) ∙ ap entries_in same in
    subst (λ (xs : List Entry). SpellsHistory bytes xs t) entries
    (subst (λ (u : Option (List ℕ)). SpellsHistory bytes before u) (ap summary_in same) (record { plain = good_plain before all; wide = good_wide before all; spelled = (rest, is, behind) }))

count : (lines : List (List ℕ)) → length lines + zero ≡ 4 → length lines ≡ 4
count lines e = omega (arith, e)

-- a summary's text, whose first line is one of steps
summary_is : (n : ℕ) (text : List ℕ) → fault_from summary_tests n (lines_at text) ≡ None → IsSummary text
summary_is n text none = by (steps_fault text n)
  where
    by : Fault zero text n → IsSummary text
    by f =
        elim f.told as (λ t. IsSummary text) [
          | inl t ↦ (f.lines, count f.lines t.1, f.are, f.joins ∙ ap (λ ws. concat f.lines ++ ws) t.0 ∙ append-nil (concat f.lines))
          | inr t ↦ absurd (none-some (n + length f.lines + 1) (sym none ∙ t.0))
        ]

refused_read : (n : ℕ) (line : List ℕ) (parts : Parts) → is_steps line ≡ false → (c : ℕ) → entry_verdict n line ≡ Refused c → stepped n line parts ≡ Bad (n + 1) c
refused_read n line parts none c e =
    ap (λ v. if v then line_summed (line ∷ parts) (fault_from summary_tests n (line ∷ parts)) else history_judged n (entry_verdict n line) (history_reading_from (n + 1) parts)) none
    ∙ ap (λ v. history_judged n v (history_reading_from (n + 1) parts)) e

joined_back : (parts : Parts) → AreFree 10 parts → (parts ≡ [] → ⊥) → lines_at (join_with_byte 10 parts) ≡ parts
joined_back [] free some = absurd (some refl)
joined_back (part ∷ parts) free some = parts_back 10 part parts free

whole_by : (bytes : List ℕ) (before : List Entry) (m : ℕ) (rest : Parts) → bytes ≡ lines_from 0 before ++ join_with_byte 10 rest → AllGood before → AreFree 10 rest → Stops m rest
    → (h : List Entry) (summary : Option (List ℕ)) → onto before (history_reading_from m rest) ≡ Whole h summary → SpellsHistory bytes h summary
whole_by bytes before m [] is all free stops h summary e = absurd stops
whole_by bytes before m ([] ∷ []) is all free stops h summary e = spells bytes before [] None h summary is all refl e
whole_by bytes before m ((b ∷ last) ∷ []) is all free stops h summary e = absurd (bad_whole (m + 1) 41 h summary e)
whole_by bytes before m (line ∷ part ∷ parts) is all free (inl steps) h summary e = by (fault_from summary_tests m (line ∷ part ∷ parts)) refl
  where
    by : (o : Option ℕ) → fault_from summary_tests m (line ∷ part ∷ parts) ≡ o → SpellsHistory bytes h summary
    by None none =
        spells bytes before (join_with_byte 10 (line ∷ part ∷ parts)) (Some (join_with_byte 10 (line ∷ part ∷ parts))) h summary is all
        (refl, summary_is m (join_with_byte 10 (line ∷ part ∷ parts)) (ap (fault_from summary_tests m) (joined_back (line ∷ part ∷ parts) free (no_part line (part ∷ parts))) ∙ none))
        (ap (onto before) (sym (steps_first m line (part ∷ parts) steps ∙ ap (line_summed (line ∷ part ∷ parts)) none)) ∙ e)
    by (Some bad) some = absurd (bad_whole bad 41 h summary (ap (onto before) (sym (steps_first m line (part ∷ parts) steps ∙ ap (line_summed (line ∷ part ∷ parts)) some)) ∙ e))
whole_by bytes before m (line ∷ part ∷ parts) is all free (inr refused) h summary e =
    absurd (bad_whole (m + 1) refused.1.0 h summary (ap (onto before) (sym (refused_read m line (part ∷ parts) refused.0 refused.1.0 refused.1.1)) ∙ e))

pub read_spelled : (bytes : List ℕ) (h : List Entry) (summary : Option (List ℕ)) → reading_line bytes ≡ Whole h summary → SpellsHistory bytes h summary
read_spelled bytes h summary e =
    let v = view (lines_at bytes) 0 (parts_free 10 bytes) (some_word 10 bytes) in
    whole_by bytes v.before (0 + length v.before) v.rest (sym (join_with_byte-slice_split 10 bytes) ∙ v.joins) v.all v.free v.stops h summary (sym v.reads ∙ e)

-- Bad lines.

-- a text that begins with the line of an entry is cut there
entry_line : (text : List ℕ) (line rest : List ℕ) → IsFree 10 line → text ≡ line ++ 10 ∷ rest → (other : ℕ) (x : Entry) → IsGoodHistory x → (behind : List ℕ) → text ≡ line_of other x ++ behind → line ≡ body_of other x
entry_line text line rest free is other x good behind at =
    same_cut text line rest (body_of other x) behind free is (body_free other x good) (at ∙ ap (λ ws. ws ++ behind) (whole_line other x))

no_entry : (text : List ℕ) → IsFree 10 text → (other : ℕ) (x : Entry) → IsGoodHistory x → (behind : List ℕ) → text ≡ line_of other x ++ behind → ⊥
no_entry text free other x good behind at = no_line text (body_of other x) behind free (body_free other x good) (at ∙ ap (λ ws. ws ++ behind) (whole_line other x))

abbrev at_bad : List Entry → List (List ℕ) → List ℕ → ℕ → Type 0
at_bad before lines behind cause = ((lines ≡ []) × (behind ≢ []) × IsBadEntryLine (length before) behind cause) ⊎ ((lines ≢ []) × (cause ≡ 41) × IsBadSummary (length lines) behind)

never_steps : (text : List ℕ) (line rest : List ℕ) → text ≡ line ++ 10 ∷ rest → is_steps line ≡ false → IsFree 10 line → Begins (IsLineOf zero) text → ⊥
never_steps text line rest is none free begins =
    none_begins is_steps (IsLineOf zero) steps_exact text
    (ap (passed is_steps) (cut_parts text line rest free is) ∙ cond_line is_steps line (lines_at rest) (some_word 10 rest) ∙ ap (λ v. if v then Some (lines_at rest) else None) none) begins

-- a line that is refused is bad
refused_bad : (m : ℕ) (text line rest : List ℕ) (c : ℕ) → text ≡ line ++ 10 ∷ rest → IsFree 10 line → is_steps line ≡ false → IsRefused m line c → IsBadEntryLine m text c
refused_bad m text line rest c is free none (inl r) =
    let o = r.1 in
    inr (r.0, (o.other, o.apart, (line_of o.other o.x, rest, (o.x, o.good, refl), is ∙ ap (λ ws. ws ++ 10 ∷ rest) o.line_is ∙ sym (append_assoc (body_of o.other o.x) (10 ∷ []) rest) ∙ ap (λ ws. ws ++ rest) (sym (whole_line o.other o.x)))))
refused_bad m text line rest c is free none (inr r) =
    inl (
      r.0,
      (λ other begins. let entry = begins.2 in
          r.1 other entry.0 entry.1 (entry_line text line rest free is other entry.0 entry.1 begins.1 (begins.3 ∙ ap (λ ws. ws ++ begins.1) entry.2))),
      never_steps text line rest is none free,
    )

abbrev history : List Entry → List ℕ
history h = lines_from 0 h

no_lines : (bytes : List ℕ) (before : List Entry) (rest : List ℕ) → bytes ≡ history before ++ rest → bytes ≡ (history before ++ concat []) ++ rest
no_lines bytes before rest is = is ∙ ap (λ ws. ws ++ rest) (sym (append-nil (history before)))

-- a last line without a newline
unended : (bytes : List ℕ) (before : List Entry) (b : ℕ) (last : List ℕ) → bytes ≡ history before ++ b ∷ last → AllGood before → IsFree 10 (b ∷ last) → IsBadText bytes (length before + 1) 41
unended bytes before b last is all free =
    record {
      before = before;
      lines = [];
      behind = b ∷ last;
      plain = good_plain before all;
      wide = good_wide before all;
      summary = tt;
      spelled = no_lines bytes before (b ∷ last) is;
      place = omega arith;
      bad = inl (
        refl,
        other_head b last,
        inl (
          refl,
          (λ other begins. let entry = begins.2 in no_entry (b ∷ last) free other entry.0 entry.1 begins.1 (begins.3 ∙ ap (λ ws. ws ++ begins.1) entry.2)),
          none_begins is_steps (IsLineOf zero) steps_exact (b ∷ last) (ap (passed is_steps) (one_part 10 (b ∷ last) free)),
        ),
      );
    }

refused_line : (bytes : List ℕ) (before : List Entry) (line rest : List ℕ) (c : ℕ) → bytes ≡ history before ++ (line ++ 10 ∷ rest) → AllGood before → IsFree 10 line → is_steps line ≡ false
    → IsRefused (length before) line c → IsBadText bytes (length before + 1) c
refused_line bytes before line rest c is all free none refused =
    record {
      before = before;
      lines = [];
      behind = line ++ 10 ∷ rest;
      plain = good_plain before all;
      wide = good_wide before all;
      summary = tt;
      spelled = no_lines bytes before (line ++ 10 ∷ rest) is;
      place = omega arith;
      bad = inl (refl, some_text line rest, refused_bad (length before) (line ++ 10 ∷ rest) line rest c refl free none refused);
    }
  where
    some_text : (line rest : List ℕ) → line ++ 10 ∷ rest ≢ []
    some_text [] rest e = other_head 10 rest e
    some_text (b ∷ line) rest e = other_head b (line ++ 10 ∷ rest) e

some_lines : (lines : List (List ℕ)) (text rest : List ℕ) → text ≡ concat lines ++ rest → IsBadSummary (length lines + zero) rest → Begins (IsLineOf zero) text → lines ≢ []
some_lines [] text rest is bad begins e = bad.1 (begins.0, begins.1, begins.2, sym is ∙ begins.3)
some_lines (line ∷ lines) text rest is bad begins e = false≢true (sym (ap is_cons e))

bad_summary : (bytes : List ℕ) (before : List Entry) (text : List ℕ) (line : ℕ) → bytes ≡ history before ++ text → AllGood before → Begins (IsLineOf zero) text
    → fault_from summary_tests (length before) (lines_at text) ≡ Some line → IsBadText bytes line 41
bad_summary bytes before text line is all begins some = by (steps_fault text (length before))
  where
    at : (f : Fault zero text (length before)) → fault_from summary_tests (length before) (lines_at text) ≡ Some (length before + length f.lines + 1) → IsBadSummary (length f.lines + zero) f.rest → IsBadText bytes line 41
    at f told bad =
        let same : length f.lines + zero ≡ length f.lines = omega arith in
        record {
          before = before;
          lines = f.lines;
          behind = f.rest;
          plain = good_plain before all;
          wide = good_wide before all;
          summary = f.are;
          spelled = is ∙ ap (λ ws. history before ++ ws) f.joins ∙ sym (append_assoc (history before) (concat f.lines) f.rest);
          place = same_Some line (length before + length f.lines + 1) (sym some ∙ told);
          bad = inr (some_lines f.lines text f.rest f.joins bad begins, refl, subst (λ k. IsBadSummary k f.rest) same bad);
        }

    by : Fault zero text (length before) → IsBadText bytes line 41
    by f =
        elim f.told as (λ t. IsBadText bytes line 41) [
          | inl t ↦ absurd (none-some line (sym t.2 ∙ some))
          | inr t ↦ at f t.0 t.1
        ]

-- the line and the cause, carried over
bad_at : (bytes : List ℕ) (l c line cause : ℕ) → IsBadText bytes l c → Bad l c ≡ Bad line cause → IsBadText bytes line cause
bad_at bytes l c line cause bad same = subst (λ k. IsBadText bytes k cause) (ap line_in same) (subst (IsBadText bytes l) (ap cause_in same) bad)

steps_begins : (line rest : List ℕ) → is_steps line ≡ true → Begins (IsLineOf zero) (line ++ 10 ∷ rest)
steps_begins line rest e = (line ++ 10 ∷ [], rest, steps_exact.sound line e, sym (append_assoc line (10 ∷ []) rest))

bad_by : (bytes : List ℕ) (before : List Entry) (rest : Parts) → length before < 2 ^ 64 → bytes ≡ history before ++ join_with_byte 10 rest → AllGood before → AreFree 10 rest → Stops (length before) rest
    → (line cause : ℕ) → onto before (history_reading_from (length before) rest) ≡ Bad line cause → IsBadText bytes line cause
bad_by bytes before [] lt is all free stops line cause e = absurd stops
bad_by bytes before ([] ∷ []) lt is all free stops line cause e = absurd (bad_whole line cause (before ++ []) None (sym e))
bad_by bytes before ((b ∷ last) ∷ []) lt is all free stops line cause e = bad_at bytes (length before + 1) 41 line cause (unended bytes before b last is all free.0) e
bad_by bytes before (first ∷ part ∷ parts) lt is all free (inl steps) line cause e = by (fault_from summary_tests (length before) (first ∷ part ∷ parts)) refl
  where
    by : (o : Option ℕ) → fault_from summary_tests (length before) (first ∷ part ∷ parts) ≡ o → IsBadText bytes line cause
    by None none =
        absurd (bad_whole line cause (before ++ []) (Some (join_with_byte 10 (first ∷ part ∷ parts)))
        (sym e ∙ ap (onto before) (steps_first (length before) first (part ∷ parts) steps ∙ ap (line_summed (first ∷ part ∷ parts)) none)))
    by (Some bad) some =
        bad_at bytes bad 41 line cause
        (bad_summary bytes before (join_with_byte 10 (first ∷ part ∷ parts)) bad is all (steps_begins first (join_with_byte 10 (part ∷ parts)) steps)
        (ap (fault_from summary_tests (length before)) (joined_back (first ∷ part ∷ parts) free (no_part first (part ∷ parts))) ∙ some))
        (sym (ap (onto before) (steps_first (length before) first (part ∷ parts) steps ∙ ap (line_summed (first ∷ part ∷ parts)) some)) ∙ e)
bad_by bytes before (first ∷ part ∷ parts) lt is all free (inr refused) line cause e =
    bad_at bytes (length before + 1) refused.1.0 line cause
    (refused_line bytes before first (join_with_byte 10 (part ∷ parts)) refused.1.0 is all free.0 refused.0 (line_refused (length before) first refused.1.0 lt free.0 refused.1.1))
    (sym (ap (onto before) (refused_read (length before) first (part ∷ parts) refused.0 refused.1.0 refused.1.1)) ∙ e)

pub read_bad : (bytes : List ℕ) (line cause : ℕ) → length bytes < 2 ^ 64 → reading_line bytes ≡ Bad line cause → IsBadText bytes line cause
read_bad bytes line cause lt e =
    let v = view (lines_at bytes) 0 (parts_free 10 bytes) (some_word 10 bytes) in
    let is : bytes ≡ history v.before ++ join_with_byte 10 v.rest = sym (join_with_byte-slice_split 10 bytes) ∙ v.joins in
    let long = lines_long v.before 0 in
    let whole = ap (λ (ws : List ℕ). length ws) is in
    let both = length-append (history v.before) (join_with_byte 10 v.rest) in
    let same : 0 + length v.before ≡ length v.before = omega arith in
    bad_by bytes v.before v.rest (omega (arith, lt, long, whole, both)) is v.all v.free (subst (λ k. Stops k v.rest) same v.stops) line cause
    (sym (ap (λ k. onto v.before (history_reading_from k v.rest)) same) ∙ sym v.reads ∙ e)

-- A bad line is told.

few_lines : (lines : List (List ℕ)) (k : ℕ) → k ≤ 4 → AreLinesFrom k lines → length lines + k ≤ 4
few_lines [] k few are = omega (arith, few)
few_lines (line ∷ lines) zero few are = let more = few_lines lines (suc zero) (omega arith) are.1 in omega (arith, more)
few_lines (line ∷ lines) (suc zero) few are = let more = few_lines lines (suc (suc zero)) (omega arith) are.1 in omega (arith, more)
few_lines (line ∷ lines) (suc (suc zero)) few are = let more = few_lines lines (suc (suc (suc zero))) (omega arith) are.1 in omega (arith, more)
few_lines (line ∷ lines) (suc (suc (suc zero))) few are = let more = few_lines lines (suc (suc (suc (suc zero)))) (omega arith) are.1 in omega (arith, more)
few_lines (line ∷ lines) (suc (suc (suc (suc k)))) few are = absurd are.0

summary_bad : (k n : ℕ) (text : List ℕ) → k ≤ 4 → IsBadSummary k text → fault_from (forms_from k) n (lines_at text) ≡ Some (n + 1)
summary_bad zero n text few bad = ap (λ o. looks_further n o (fault_from (forms_from (suc zero)) (n + 1))) (begins_none is_steps (IsLineOf zero) steps_exact text bad.1)
summary_bad (suc zero) n text few bad = ap (λ o. looks_further n o (fault_from (forms_from (suc (suc zero))) (n + 1))) (begins_none (are_both_words (codes "messages")) (IsLineOf (suc zero)) messages_exact text bad.1)
summary_bad (suc (suc zero)) n text few bad =
    ap (λ o. looks_further n o (fault_from (forms_from (suc (suc (suc zero)))) (n + 1))) (begins_none (are_both_words (codes "bytes")) (IsLineOf (suc (suc zero))) bytes_exact text bad.1)
summary_bad (suc (suc (suc zero))) n text few bad = ap (λ o. looks_further n o (fault_from [] (n + 1))) (begins_none is_end (IsLineOf (suc (suc (suc zero)))) end_exact text bad.1)
summary_bad (suc (suc (suc (suc k)))) n text few bad = by bad.0 (last_parts n text (lines_at text) refl)
  where
    by : ((text ≢ []) ⊎ (suc (suc (suc (suc k))) < 4)) → LastParts n text (lines_at text) → fault_from [] n (lines_at text) ≡ Some (n + 1)
    by (inl some) (inl t) = absurd (some t.0)
    by (inl some) (inr t) = t.0
    by (inr lt) t = absurd (omega (arith, lt))

-- a line that is refused where none of an entry may stand
by_refused : (m : ℕ) (text line rest : List ℕ) (c cause : ℕ) → text ≡ line ++ 10 ∷ rest → IsRefused m line c → (cause ≡ 41) × ((other : ℕ) → Begins (IsEntryLine other) text → ⊥) × (Begins (IsLineOf zero) text → ⊥)
    → Refused c ≡ Refused cause
by_refused m text line rest c cause is (inr r) t = ap (λ k. Refused k) (r.0 ∙ sym t.0)
by_refused m text line rest c cause is (inl r) t =
    let o = r.1 in
    absurd (t.1 o.other (line_of o.other o.x, rest, (o.x, o.good, refl), is ∙ ap (λ ws. ws ++ 10 ∷ rest) o.line_is ∙ sym (append_assoc (body_of o.other o.x) (10 ∷ []) rest) ∙ ap (λ ws. ws ++ rest) (sym (whole_line o.other o.x))))

-- behind entries, a line that is bad
bad_line : (m : ℕ) (text : List ℕ) (cause : ℕ) → m < 2 ^ 64 → text ≢ [] → IsBadEntryLine m text cause → history_reading_from m (lines_at text) ≡ Bad (m + 1) cause
bad_line m text cause lt some bad = by (cut text)
  where
    at_last : (ws : List ℕ) → text ≡ ws → ending m ws ≡ Bad (m + 1) 41
    at_last [] is = absurd (some is)
    at_last (b ∷ last) is = refl

    last_cause : IsFree 10 text → IsBadEntryLine m text cause → 41 ≡ cause
    last_cause free (inl t) = sym t.0
    last_cause free (inr t) =
        let begins = t.1.2 in let entry = begins.2 in
        absurd (no_entry text free t.1.0 entry.0 entry.1 begins.1 (begins.3 ∙ ap (λ ws. ws ++ begins.1) entry.2))

    refused : (line rest : List ℕ) → IsFree 10 line → text ≡ line ++ 10 ∷ rest → (v : EntryVerdict) → entry_verdict m line ≡ v → IsBadEntryLine m text cause → v ≡ Refused cause
    refused line rest free is (Good x) e (inl t) =
        let told = line_sound m line x free e in
        absurd (t.1 m (line_of m x, rest, (x, told.good, refl), is ∙ ap (λ ws. ws ++ 10 ∷ rest) told.line_is ∙ sym (append_assoc (body_of m x) (10 ∷ []) rest) ∙ ap (λ ws. ws ++ rest) (sym (whole_line m x))))
    refused line rest free is (Refused c) e (inl t) = by_refused m text line rest c cause is (line_refused m line c lt free e) t
    refused line rest free is v e (inr t) =
        let begins = t.1.2 in let entry = begins.2 in
        let at = entry_line text line rest free is t.1.0 entry.0 entry.1 begins.1 (begins.3 ∙ ap (λ ws. ws ++ begins.1) entry.2) in
        sym e ∙ ap (entry_verdict m) at ∙ line_other m t.1.0 entry.0 t.1.1 entry.1 ∙ ap (λ k. Refused k) (sym t.0)

    steps_none : (line rest : List ℕ) → IsFree 10 line → text ≡ line ++ 10 ∷ rest → (v : Bool) → is_steps line ≡ v → IsBadEntryLine m text cause → v ≡ false
    steps_none line rest free is false e b = refl
    steps_none line rest free is true e (inl t) = absurd (t.2 (subst (Begins (IsLineOf zero)) (sym is) (steps_begins line rest e)))
    steps_none line rest free is true e (inr t) =
        let begins = t.1.2 in let entry = begins.2 in
        let at = entry_line text line rest free is t.1.0 entry.0 entry.1 begins.1 (begins.3 ∙ ap (λ ws. ws ++ begins.1) entry.2) in
        sym e ∙ ap is_steps at ∙ entry_steps t.1.0 entry.0 entry.1

    by : Cut text → history_reading_from m (lines_at text) ≡ Bad (m + 1) cause
    by (inl free) = ap (history_reading_from m) (one_part 10 text free) ∙ at_last text refl ∙ ap (λ c. Bad (m + 1) c) (last_cause free bad)
    by (inr c) =
        ap (history_reading_from m) (cut_parts text c.0 c.1 c.2 c.3) ∙ line_first m c.0 (lines_at c.1) (some_word 10 c.1)
        ∙ refused_read m c.0 (lines_at c.1) (steps_none c.0 c.1 c.2 c.3 (is_steps c.0) refl bad) cause (refused c.0 c.1 c.2 c.3 (entry_verdict m c.0) refl bad)

-- behind entries and lines of a summary
bad_lines : (m : ℕ) (lines : List (List ℕ)) (behind : List ℕ) → AreLinesFrom zero lines → lines ≢ [] → IsBadSummary (length lines) behind → history_reading_from m (lines_at (concat lines ++ behind)) ≡ Bad (m + length lines + 1) 41
bad_lines m [] behind are some bad = absurd (some refl)
bad_lines m (line ∷ lines) behind are some bad =
    let few = few_lines (line ∷ lines) zero (omega arith) are in
    let same : length (line ∷ lines) ≡ length (line ∷ lines) + zero = omega arith in
    let fault =
    forms_on (line ∷ lines) zero m behind are
    ∙ summary_bad (length (line ∷ lines) + zero) (m + length (line ∷ lines)) behind few (subst (λ k. IsBadSummary k behind) same bad) in
    ap (λ ws. history_reading_from m (lines_at ws)) (append_assoc line (concat lines) behind)
    ∙ steps_read m line (concat lines ++ behind) are.0
    ∙ ap (λ ws. line_summed (lines_at ws) (fault_from summary_tests m (lines_at ws))) (sym (append_assoc line (concat lines) behind))
    ∙ ap (line_summed (lines_at (concat (line ∷ lines) ++ behind))) fault

-- behind the entries before it
bad_behind : (before : List Entry) (lines : List (List ℕ)) (behind : List ℕ) (line cause : ℕ) → length before < 2 ^ 64 → AreLinesFrom zero lines → line ≡ length before + length lines + 1 → at_bad before lines behind cause
    → history_reading_from (length before) (lines_at (concat lines ++ behind)) ≡ Bad line cause
bad_behind before lines behind line cause lt are place (inl t) =
    let none : length before + 0 + 1 ≡ length before + 1 = omega arith in
    ap (λ ls. history_reading_from (length before) (lines_at (concat ls ++ behind))) t.0
    ∙ bad_line (length before) behind cause lt t.1 t.2
    ∙ ap (λ k. Bad k cause) (sym (place ∙ ap (λ (ls : List (List ℕ)). length before + length ls + 1) t.0 ∙ none))
bad_behind before lines behind line cause lt are place (inr t) =
    bad_lines (length before) lines behind are t.0 t.2 ∙ ap (λ k. Bad k 41) (sym place) ∙ ap (λ c. Bad line c) (sym t.1)

pub bad_read : (bytes : List ℕ) (line cause : ℕ) → length bytes < 2 ^ 64 → IsBadText bytes line cause → reading_line bytes ≡ Bad line cause
bad_read bytes line cause lt b =
    let rest = concat b.lines ++ b.behind in
    let is : bytes ≡ history b.before ++ rest = b.spelled ∙ append_assoc (history b.before) (concat b.lines) b.behind in
    let long = lines_long b.before 0 in
    let whole = ap (λ (ws : List ℕ). length ws) is in
    let both = length-append (history b.before) rest in
    let few : 0 + length b.before < 2 ^ 64 = omega (arith, lt, long, whole, both) in
    let small : length b.before < 2 ^ 64 = omega (arith, few) in
    let same : 0 + length b.before ≡ length b.before = omega arith in
    ap reading_line is
    ∙ entries_on b.before 0 rest few (goods b.before b.plain b.wide)
    ∙ ap (λ k. onto b.before (history_reading_from k (lines_at rest))) same
    ∙ ap (onto b.before) (bad_behind b.before b.lines b.behind line cause small b.summary b.place b.bad)

-- Steps of the loop over lines.

pub entry_on : (bytes : List ℕ) (h : List Entry) (rest line behind : List ℕ) (x : Entry) → reading_line bytes ≡ onto h (history_reading_from (length h) (lines_at rest)) → lines_at rest ≡ line ∷ lines_at behind → is_steps line ≡ false
    → entry_verdict (length h) line ≡ Good x → reading_line bytes ≡ onto (h ++ x ∷ []) (history_reading_from (length (h ++ x ∷ [])) (lines_at behind))
entry_on bytes h rest line behind x is at none good =
    let count : length h + 1 ≡ length (h ++ x ∷ []) = sym (length-append h (x ∷ [])) in
    is ∙ ap (λ ps. onto h (history_reading_from (length h) ps)) at
    ∙ ap (onto h) (line_first (length h) line (lines_at behind) (some_word 10 behind)
    ∙ ap (λ v. if v then line_summed (line ∷ lines_at behind) (fault_from summary_tests (length h) (line ∷ lines_at behind)) else history_judged (length h) (entry_verdict (length h) line) (history_reading_from (length h + 1) (lines_at behind))) none
    ∙ ap (λ v. history_judged (length h) v (history_reading_from (length h + 1) (lines_at behind))) good)
    ∙ onto_both h (x ∷ []) (history_reading_from (length h + 1) (lines_at behind))
    ∙ ap (λ k. onto (h ++ x ∷ []) (history_reading_from k (lines_at behind))) count

pub refused_on : (bytes : List ℕ) (h : List Entry) (rest line behind : List ℕ) (c l : ℕ) → reading_line bytes ≡ onto h (history_reading_from (length h) (lines_at rest)) → lines_at rest ≡ line ∷ lines_at behind → is_steps line ≡ false
    → entry_verdict (length h) line ≡ Refused c → l ≡ length h + 1 → reading_line bytes ≡ Bad l c
refused_on bytes h rest line behind c l is at none bad place =
    is ∙ ap (λ ps. onto h (history_reading_from (length h) ps)) at
    ∙ ap (onto h) (line_first (length h) line (lines_at behind) (some_word 10 behind) ∙ refused_read (length h) line (lines_at behind) none c bad)
    ∙ ap (λ k. Bad k c) (sym place)

summed_on : (bytes : List ℕ) (h : List Entry) (rest line behind : List ℕ) → reading_line bytes ≡ onto h (history_reading_from (length h) (lines_at rest)) → lines_at rest ≡ line ∷ lines_at behind → is_steps line ≡ true
    → reading_line bytes ≡ onto h (line_summed (lines_at rest) (fault_from summary_tests (length h) (lines_at rest)))
summed_on bytes h rest line behind is at steps =
    is ∙ ap (λ ps. onto h (history_reading_from (length h) ps)) at
    ∙ ap (onto h) (line_first (length h) line (lines_at behind) (some_word 10 behind) ∙ steps_first (length h) line (lines_at behind) steps)
    ∙ ap (λ ps. onto h (line_summed ps (fault_from summary_tests (length h) ps))) (sym at)

pub summary_on : (bytes : List ℕ) (h : List Entry) (rest line behind : List ℕ) → reading_line bytes ≡ onto h (history_reading_from (length h) (lines_at rest)) → lines_at rest ≡ line ∷ lines_at behind → is_steps line ≡ true
    → fault_from summary_tests (length h) (lines_at rest) ≡ None → reading_line bytes ≡ Whole h (Some rest)
summary_on bytes h rest line behind is at steps none =
    summed_on bytes h rest line behind is at steps ∙ ap (λ o. onto h (line_summed (lines_at rest) o)) none
    ∙ ap (λ (xs : List Entry). Whole xs (Some (join_with_byte 10 (lines_at rest)))) (append-nil h) ∙ ap (λ ws. Whole h (Some ws)) (join_with_byte-slice_split 10 rest)

pub fault_on : (bytes : List ℕ) (h : List Entry) (rest line behind : List ℕ) (l : ℕ) → reading_line bytes ≡ onto h (history_reading_from (length h) (lines_at rest)) → lines_at rest ≡ line ∷ lines_at behind → is_steps line ≡ true
    → fault_from summary_tests (length h) (lines_at rest) ≡ Some l → reading_line bytes ≡ Bad l 41
fault_on bytes h rest line behind l is at steps some = summed_on bytes h rest line behind is at steps ∙ ap (λ o. onto h (line_summed (lines_at rest) o)) some

pub end_on : (bytes : List ℕ) (h : List Entry) (rest : List ℕ) → reading_line bytes ≡ onto h (history_reading_from (length h) (lines_at rest)) → rest ≡ [] → reading_line bytes ≡ Whole h None
end_on bytes h rest is none = is ∙ ap (λ ws. onto h (history_reading_from (length h) (lines_at ws))) none ∙ ap (λ (xs : List Entry). Whole xs None) (append-nil h)

pub unended_on : (bytes : List ℕ) (h : List Entry) (rest : List ℕ) → reading_line bytes ≡ onto h (history_reading_from (length h) (lines_at rest)) → lines_at rest ≡ rest ∷ [] → rest ≢ [] → reading_line bytes ≡ Bad (length h + 1) 41
unended_on bytes h [] is at some = absurd (some refl)
unended_on bytes h (b ∷ rest) is at some = is ∙ ap (λ ps. onto h (history_reading_from (length h) ps)) at

-- Steps of the reading of a summary.

pub passed_on : (test : List ℕ → Bool) (text line rest : List ℕ) → lines_at text ≡ line ∷ lines_at rest → test line ≡ true → passed test (lines_at text) ≡ Some (lines_at rest)
passed_on test text line rest at is = ap (passed test) at ∙ cond_line test line (lines_at rest) (some_word 10 rest) ∙ ap (λ v. if v then Some (lines_at rest) else None) is

more_lines : (n : ℕ) (text : List ℕ) → text ≢ [] → fault_from [] n (lines_at text) ≡ Some (n + 1)
more_lines n text some = by (last_parts n text (lines_at text) refl)
  where
    by : LastParts n text (lines_at text) → fault_from [] n (lines_at text) ≡ Some (n + 1)
    by (inl t) = absurd (some t.0)
    by (inr t) = t.0

pub four_passed : (n : ℕ) (text one two three four : List ℕ) → passed is_steps (lines_at text) ≡ Some (lines_at one) → passed (are_both_words (codes "messages")) (lines_at one) ≡ Some (lines_at two)
    → passed (are_both_words (codes "bytes")) (lines_at two) ≡ Some (lines_at three) → passed is_end (lines_at three) ≡ Some (lines_at four) → four ≢ [] → fault_from summary_tests n (lines_at text) ≡ Some (n + 4 + 1)
four_passed n text one two three four a b c d some =
    let same : n + 1 + 1 + 1 + 1 + 1 ≡ n + 4 + 1 = omega arith in
    ap (λ o. looks_further n o (fault_from (forms_from (suc zero)) (n + 1))) a
    ∙ ap (λ o. looks_further (n + 1) o (fault_from (forms_from (suc (suc zero))) (n + 1 + 1))) b
    ∙ ap (λ o. looks_further (n + 1 + 1) o (fault_from (forms_from (suc (suc (suc zero)))) (n + 1 + 1 + 1))) c
    ∙ ap (λ o. looks_further (n + 1 + 1 + 1) o (fault_from [] (n + 1 + 1 + 1 + 1))) d
    ∙ more_lines (n + 1 + 1 + 1 + 1) four some ∙ ap (λ (m : ℕ). Some m) same

-- text behind a summary
pub fifth_bad : {A : Type 0} (r : Result A LineError) (n : ℕ) (text one two three four : List ℕ) → passed is_steps (lines_at text) ≡ Some (lines_at one) → passed (are_both_words (codes "messages")) (lines_at one) ≡ Some (lines_at two)
    → passed (are_both_words (codes "bytes")) (lines_at two) ≡ Some (lines_at three) → passed is_end (lines_at three) ≡ Some (lines_at four) → four ≢ [] → IfErr r (λ e. TellsFault e (Some (n + 4 + 1)))
    → IfErr r (λ e. TellsFault e (fault_from summary_tests n (lines_at text)))
fifth_bad r n text one two three four a b c d some bad = subst (λ o. IfErr r (λ e. TellsFault e o)) (sym (four_passed n text one two three four a b c d some)) bad

pub refused_tells : (error : LineError) (bytes : List ℕ) (h : List Entry) (rest line behind : List ℕ) → reading_line bytes ≡ onto h (history_reading_from (length h) (lines_at rest)) → lines_at rest ≡ line ∷ lines_at behind → is_steps line ≡ false
    → TellsVerdict error (length h) (entry_verdict (length h) line) → TellsReading error (reading_line bytes)
refused_tells error.Memory bytes h rest line behind is at none bad = tt
refused_tells (error.Bad l c) bytes h rest line behind is at none bad = refused_on bytes h rest line behind c l is at none bad.1 bad.0

pub no_text : (text : List ℕ) (v : Bool) → v ≡ (length text == 0) → v ≡ false → text ≢ []
no_text text v told none is = false≢true (sym none ∙ told ∙ ap (λ (ws : List ℕ). length ws == 0) is)
