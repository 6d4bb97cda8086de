-- Steps of loops over texts and words.
use Rattle.std.proofs.Common.{◌≡◌, ◌≢◌, ℕ, ◌+◌, ◌<◌, List, [], ◌∷◌, ◌++◌, length, length-append, refl, sym, ap, ◌∙◌, arith, Option, Some, None, append_assoc, append-nil}
use Rattle.std.specs.Prelude.{option_map}
use Rattle.std.specs.List.{join_with_byte}
use Rattle.std.proofs.lemmas.List.Splits.{join_with_byte-slice_split}
use Rattle.std.proofs.lemmas.Option.{none-some}
use Rattle.net_base.specs.declared.actor.Call.{Call}
use Rattle.net_base.specs.Addresses.{parts_at}
use Rattle.net_base.specs.Numeral.{numeral}
use Rattle.history_reader.specs.Fields.{Words, Read, cut_texts}
use Rattle.history_reader.specs.ReplyRows as spec
use Rattle.history_reader.proofs.Parts.{some_word}
use Rattle.history_reader.proofs.ReplyWords.{call_sound, call_spelled, call_told, at}

-- Lines of a text.

joined_more : (s : ℕ) (line : List ℕ) (parts : List (List ℕ)) → (parts ≡ [] → ⊥) → join_with_byte s (line ∷ parts) ≡ line ++ s ∷ join_with_byte s parts
joined_more s line [] some = absurd (some refl)
joined_more s line (part ∷ parts) some = refl

-- what stands behind a line is shorter
pub shorter : (s : ℕ) (text line rest : List ℕ) → parts_at s text ≡ line ∷ parts_at s rest → length rest < length text
shorter s text line rest e =
    let is : text ≡ line ++ s ∷ rest =
    sym (join_with_byte-slice_split s text) ∙ ap (join_with_byte s) e ∙ joined_more s line (parts_at s rest) (some_word s rest)
    ∙ ap (λ ws. line ++ s ∷ ws) (join_with_byte-slice_split s rest) in
    let whole = ap (λ (ws : List ℕ). length ws) is in
    let both = length-append line (s ∷ rest) in
    omega (arith, whole, both)

-- Lines that are cut out of a text.

abbrev pub Lines : Type 0
Lines = List (List ℕ)

cut_cons : (text : List ℕ) (parts : Lines) → (parts ≡ [] → ⊥) → cut_texts (text ∷ parts) ≡ option_map (λ (ts : Lines). text ∷ ts) (cut_texts parts)
cut_cons text [] some = absurd (some refl)
cut_cons [] (part ∷ parts) some = refl
cut_cons (b ∷ text) (part ∷ parts) some = refl

map_more : (texts : Lines) (text : List ℕ) (o : Option Lines) → option_map (λ (more : Lines). texts ++ more) (option_map (λ (ts : Lines). text ∷ ts) o) ≡ option_map (λ (more : Lines). (texts ++ text ∷ []) ++ more) o
map_more texts text None = refl
map_more texts text (Some more) = ap (λ (ts : Lines). Some ts) (sym (append_assoc texts (text ∷ []) more))

pub cut_on : (whole : Option Lines) (texts : Lines) (rest text behind : List ℕ) → whole ≡ option_map (λ (more : Lines). texts ++ more) (cut_texts (parts_at 10 rest)) → parts_at 10 rest ≡ text ∷ parts_at 10 behind
    → whole ≡ option_map (λ (more : Lines). (texts ++ text ∷ []) ++ more) (cut_texts (parts_at 10 behind))
cut_on whole texts rest text behind is e =
    is ∙ ap (λ ps. option_map (λ (more : Lines). texts ++ more) (cut_texts ps)) e ∙ ap (option_map (λ (more : Lines). texts ++ more)) (cut_cons text (parts_at 10 behind) (some_word 10 behind))
    ∙ map_more texts text (cut_texts (parts_at 10 behind))

-- a last line without a newline
unended_by : (text line : List ℕ) → line ≡ text → text ≢ [] → cut_texts (line ∷ []) ≡ None
unended_by text [] same some = absurd (some (sym same))
unended_by text (b ∷ line) same some = refl

pub cut_none : (whole : Option Lines) (texts : Lines) (rest line : List ℕ) → whole ≡ option_map (λ (more : Lines). texts ++ more) (cut_texts (parts_at 10 rest)) → parts_at 10 rest ≡ line ∷ [] → rest ≢ [] → whole ≡ None
cut_none whole texts rest line is e some =
    is ∙ ap (λ ps. option_map (λ (more : Lines). texts ++ more) (cut_texts ps)) e
    ∙ ap (option_map (λ (more : Lines). texts ++ more)) (unended_by rest line (sym (sym (join_with_byte-slice_split 10 rest) ∙ ap (join_with_byte 10) e)) some)

pub cut_end : (whole : Option Lines) (texts : Lines) (rest : List ℕ) → whole ≡ option_map (λ (more : Lines). texts ++ more) (cut_texts (parts_at 10 rest)) → rest ≡ [] → whole ≡ Some texts
cut_end whole texts rest is none =
    is ∙ ap (λ ws. option_map (λ (more : Lines). texts ++ more) (cut_texts (parts_at 10 ws))) none ∙ ap (λ (ts : Lines). Some ts) (append-nil texts)

-- Calls.

-- a call and those behind it
pub each_step : (rest : Words) (c : Call) (behind : Words) → spec.call rest ≡ Some (c, behind) → spec.each_call rest ≡ (c ∷ (spec.each_call behind).0, (spec.each_call behind).1)
each_step rest c behind e =
    let is = call_sound rest c behind e in
    ap spec.each_call is.0 ∙ ap (λ (o : Read Call). spec.call_before o (spec.each_call behind) (call_spelled c ++ behind)) (call_told c is.1 [])

pub each_shorter : (rest : Words) (c : Call) (behind : Words) → spec.call rest ≡ Some (c, behind) → length behind < length rest
each_shorter rest c behind e =
    let is = call_sound rest c behind e in
    let whole = ap (λ (ws : Words). length ws) is.0 in
    omega (arith, whole)

pub each_end : (rest : Words) → spec.call rest ≡ None → spec.each_call rest ≡ ([], rest)
each_end [] e = refl
each_end (slot ∷ []) e = refl
each_end (slot ∷ generation ∷ words) e = by (spec.call (slot ∷ generation ∷ [])) refl
  where
    by : (o : Read Call) → spec.call (slot ∷ generation ∷ []) ≡ o → spec.call_before o (spec.each_call words) (slot ∷ generation ∷ words) ≡ ([], slot ∷ generation ∷ words)
    by None q = refl
    by (Some (c, rest)) q =
        let is = call_sound (slot ∷ generation ∷ []) c rest q in
        let one : slot ≡ numeral c.slot = ap (λ (ws : Words). at ws 0) is.0 in
        let two : generation ≡ numeral c.generation = ap (λ (ws : Words). at ws 1) is.0 in
        absurd (none-some (c, words) (sym e ∙ ap (λ (w : List ℕ). spec.call (w ∷ generation ∷ words)) one ∙ ap (λ (w : List ℕ). spec.call (numeral c.slot ∷ w ∷ words)) two ∙ call_told c is.1 words))

-- at least one call, or none
pub no_calls : (read : spec.Calls) → length read.0 ≡ 0 → spec.some_calls read ≡ None
no_calls ([], words) none = refl
no_calls (c ∷ calls, words) none = absurd (omega (arith, none))

pub any_calls : (read : spec.Calls) → length read.0 ≢ 0 → spec.some_calls read ≡ Some (read.0, read.1)
any_calls ([], words) some = absurd (some refl)
any_calls (c ∷ calls, words) some = refl

-- these calls, and then those that were read

abbrev pub added : List Call → spec.Calls → spec.Calls
added calls read = (calls ++ read.0, read.1)

abbrev pub with_words : Words → List Call → spec.Calls
with_words words calls = (calls, words)

pub calls_on : (whole : spec.Calls) (calls : List Call) (rest : Words) (o : Read Call) (c : Call) (behind : Words) → whole ≡ added calls (spec.each_call rest) → o ≡ spec.call rest → o ≡ Some (c, behind)
    → whole ≡ added (calls ++ c ∷ []) (spec.each_call behind)
calls_on whole calls rest o c behind is told at =
    is ∙ ap (added calls) (each_step rest c behind (sym told ∙ at))
    ∙ ap (with_words (spec.each_call behind).1) (sym (append_assoc calls (c ∷ []) (spec.each_call behind).0))

pub calls_end : (whole : spec.Calls) (calls : List Call) (rest : Words) (o : Read Call) → whole ≡ added calls (spec.each_call rest) → o ≡ spec.call rest → o ≡ None → with_words rest calls ≡ whole
calls_end whole calls rest o is told at =
    sym (is ∙ ap (added calls) (each_end rest (sym told ∙ at)) ∙ ap (with_words rest) (append-nil calls))

pub calls_shorter : (rest : Words) (o : Read Call) (c : Call) (behind : Words) → o ≡ spec.call rest → o ≡ Some (c, behind) → length behind < length rest
calls_shorter rest o c behind told at = each_shorter rest c behind (sym told ∙ at)
