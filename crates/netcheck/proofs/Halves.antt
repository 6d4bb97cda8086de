-- An input, line by line, up to the line between its parts.
use Rattle.std.proofs.Common.{◌≡◌, ℕ, ◌+◌, ◌-◌, ◌<◌, ◌≤◌, ◌⊎◌, suc, Bool, true, false, not, cond, List, [], ◌∷◌, ◌++◌, length, take, map, Some, None, refl, sym, ap, subst, ◌∙◌, inl, inr, arith, length-append, append_assoc, append-nil}
use Rattle.std.proofs.lemmas.Bool.Decides.{nat_tests}
use Rattle.std.specs.List.{before_first, find, position_or_len}
use Rattle.std.proofs.lemmas.List.{nil_from_length}
use Rattle.net_base.specs.NdbText.{is_newline}
use Rattle.world_text.specs.WorldSpelling.{laid}
use Rattle.world_text.specs.WorldText.{Cut, cuts_of, with_first}
use Rattle.netcheck.specs.Input.{is_mark, lines_before, mark_of, input_parts, parts_of}

-- The first line.

none_there : (c : Cut) (cs : List Cut) → [] ≡ c ∷ cs → ⊥
none_there c cs is = cc

first_of : (c d : Cut) (cs ds : List Cut) → c ∷ cs ≡ d ∷ ds → c ≡ d
first_of c d cs ds is = cc

-- a line, its newline and what stands behind it, or nothing stands behind it
abbrev EndsSo : List ℕ → Cut → Type 0
EndsSo text c = (text ≡ c.line ++ 10 ∷ c.behind) ⊎ (c.behind ≡ [])

is_newline_byte : (b : ℕ) → is_newline b ≡ true → b ≡ 10
is_newline_byte b is = grind (arith, nat_tests)

ends_first : (text : List ℕ) (c : Cut) (cs : List Cut) → cuts_of text ≡ c ∷ cs → EndsSo text c
ends_first [] c cs is = absurd (none_there c cs is)
ends_first (b ∷ bytes) c cs is = by (is_newline b) refl (cuts_of bytes) refl (ends_first bytes) is
  where
    by : (v : Bool) → is_newline b ≡ v → (more : List Cut) → cuts_of bytes ≡ more → ((d : Cut) (ds : List Cut) → more ≡ d ∷ ds → EndsSo bytes d)
        → cond v (record { line = []; behind = bytes } ∷ more) (with_first b more) ≡ c ∷ cs → EndsSo (b ∷ bytes) c
    by true v more m later e = subst (EndsSo (b ∷ bytes)) (first_of _ c _ cs e) (inl (ap (λ (x : ℕ). x ∷ bytes) (is_newline_byte b v)))
    by false v [] m later e = subst (EndsSo (b ∷ bytes)) (first_of _ c _ cs e) (inr refl)
    by false v (d ∷ ds) m later e = subst (EndsSo (b ∷ bytes)) (first_of _ c _ cs e) (longer (later d ds refl))
      where
        longer : EndsSo bytes d → EndsSo (b ∷ bytes) (record { line = b ∷ d.line; behind = d.behind })
        longer (inl is) = inl (ap (λ (xs : List ℕ). b ∷ xs) is)
        longer (inr none) = inr none

-- Lines that aren't the one between.

-- a first line that isn't it
pub passed_mark : (rest : List ℕ) (c : Cut) (cs : List Cut) → cuts_of rest ≡ c ∷ cs → is_mark c.line ≡ false
    → mark_of rest ≡ find (λ (d : Cut). is_mark d.line) cs
passed_mark rest c cs is not_it = ap (find (λ (d : Cut). is_mark d.line)) is ∙ ap (λ (v : Bool). cond v (Some c) (find (λ (d : Cut). is_mark d.line) cs)) not_it

-- or is
pub found_mark : (rest : List ℕ) (c : Cut) (cs : List Cut) → cuts_of rest ≡ c ∷ cs → is_mark c.line ≡ true → mark_of rest ≡ Some c
found_mark rest c cs is it = ap (find (λ (d : Cut). is_mark d.line)) is ∙ ap (λ (v : Bool). cond v (Some c) (find (λ (d : Cut). is_mark d.line) cs)) it

before_by : Bool → List ℕ → List (List ℕ) → List (List ℕ)
before_by v line lines = take (cond (not v) (1 + position_or_len is_mark lines) 0) (line ∷ lines)

before_cons : (line : List ℕ) (lines : List (List ℕ)) (v : Bool) → is_mark line ≡ v → before_first is_mark (line ∷ lines) ≡ before_by v line lines
unfolding before_by
before_cons line lines v is = ap (λ (u : Bool). take (cond (not u) (1 + position_or_len is_mark lines) 0) (line ∷ lines)) is

before_false : (line : List ℕ) (lines : List (List ℕ)) → before_by false line lines ≡ line ∷ before_first is_mark lines
unfolding before_by
before_false line lines = ap (λ (n : ℕ). take n (line ∷ lines)) (one_more (position_or_len is_mark lines))
  where
    one_more : (n : ℕ) → 1 + n ≡ suc n
    one_more n = omega arith

before_true : (line : List ℕ) (lines : List (List ℕ)) → before_by true line lines ≡ []
unfolding before_by
before_true line lines = refl

pub passed_before : (rest : List ℕ) (c : Cut) (cs : List Cut) → cuts_of rest ≡ c ∷ cs → is_mark c.line ≡ false
    → lines_before rest ≡ c.line ∷ before_first is_mark (map (λ (d : Cut). d.line) cs)
passed_before rest c cs is not_it =
    ap (λ (ds : List Cut). before_first is_mark (map (λ (d : Cut). d.line) ds)) is
    ∙ (before_cons c.line (map (λ (d : Cut). d.line) cs) false not_it ∙ before_false c.line (map (λ (d : Cut). d.line) cs))

pub found_before : (rest : List ℕ) (c : Cut) (cs : List Cut) → cuts_of rest ≡ c ∷ cs → is_mark c.line ≡ true → lines_before rest ≡ []
found_before rest c cs is it =
    ap (λ (ds : List Cut). before_first is_mark (map (λ (d : Cut). d.line) ds)) is
    ∙ (before_cons c.line (map (λ (d : Cut). d.line) cs) true it ∙ before_true c.line (map (λ (d : Cut). d.line) cs))

-- Lines behind one another.

laid_more : (lines : List (List ℕ)) (line : List ℕ) → laid (lines ++ line ∷ []) ≡ laid lines ++ (line ++ 10 ∷ [])
laid_more [] line = refl
laid_more (first ∷ lines) line = ap (λ (t : List ℕ). first ++ 10 ∷ t) (laid_more lines line) ∙ sym (append_assoc first (10 ∷ laid lines) (line ++ 10 ∷ []))

at_front : (xs ys : List ℕ) → take (length xs) (xs ++ ys) ≡ xs
at_front [] ys = refl
at_front (x ∷ xs) ys = ap (λ (zs : List ℕ). x ∷ zs) (at_front xs ys)

-- so many lines of a text, none of them the one between, stand before this rest
pub record Passed (text rest : List ℕ) (n : ℕ) : Type 0 where
  pub lines : List (List ℕ)
  pub count : n ≡ length lines
  pub marks : mark_of text ≡ mark_of rest
  pub before : lines_before text ≡ lines ++ lines_before rest
  pub parts : (text ≡ laid lines ++ rest) ⊎ (rest ≡ [])
  pub all : length (cuts_of text) ≡ n + length (cuts_of rest)

pub passed_none : (text : List ℕ) → Passed text text 0
passed_none text = record { lines = []; count = refl; marks = refl; before = refl; parts = inl refl; all = omega arith }

-- one line more
pub passed_more : (text rest line behind : List ℕ) (n : ℕ) → Passed text rest n
    → cuts_of rest ≡ record { line = line; behind = behind } ∷ cuts_of behind
    → length behind < length rest → is_mark line ≡ false → Passed text behind (n + 1)
passed_more text rest line behind n p is less not_it =
    let c : Cut = record { line = line; behind = behind } in
    record {
      lines = p.lines ++ line ∷ [];
      count = omega (arith, p.count, length-append p.lines (line ∷ []));
      marks = p.marks ∙ passed_mark rest c (cuts_of behind) is not_it;
      before = p.before ∙ (ap (λ (ls : List (List ℕ)). p.lines ++ ls) (passed_before rest c (cuts_of behind) is not_it) ∙ sym (append_assoc p.lines (line ∷ []) (lines_before behind)));
      parts = by p.parts (ends_first rest c (cuts_of behind) is);
      all = omega (arith, p.all, ap (λ (cs : List Cut). length cs) is);
    }
  where
    by : (text ≡ laid p.lines ++ rest) ⊎ (rest ≡ []) → EndsSo rest (record { line = line; behind = behind })
        → (text ≡ laid (p.lines ++ line ∷ []) ++ behind) ⊎ (behind ≡ [])
    by _ (inr none) = inr none
    by (inr none) (inl ends) = absurd (omega (arith, less, ap (λ (xs : List ℕ). length xs) none))
    by (inl so) (inl ends) =
        inl (so
        ∙ (ap (λ (xs : List ℕ). laid p.lines ++ xs) ends
        ∙ (ap (λ (xs : List ℕ). laid p.lines ++ xs) (sym (append_assoc line (10 ∷ []) behind))
        ∙ (sym (append_assoc (laid p.lines) (line ++ 10 ∷ []) behind)
        ∙ ap (λ (xs : List ℕ). xs ++ behind) (sym (laid_more p.lines line))))))

-- no line is the one between
pub passed_all : (text rest : List ℕ) (n : ℕ) → Passed text rest n → length rest ≡ 0 → (parts_of text ≡ None) × (n ≡ length (cuts_of text))
passed_all text rest n p zero =
    let none = nil_from_length rest zero in (
      ap (input_parts (lines_before text)) (p.marks ∙ ap mark_of none),
      omega (arith, p.all, ap (λ (xs : List ℕ). length (cuts_of xs)) none),
    )

-- the next is
pub parts_found : (text rest line behind : List ℕ) (n : ℕ) → Passed text rest n
    → cuts_of rest ≡ record { line = line; behind = behind } ∷ cuts_of behind
    → length behind < length rest → is_mark line ≡ true
    → parts_of text ≡ Some (record { world = take (length text - length rest) text; lines = n; history = behind })
parts_found text rest line behind n p is less it =
    let c : Cut = record { line = line; behind = behind } in
    let before : lines_before text ≡ p.lines = p.before ∙ (ap (λ (ls : List (List ℕ)). p.lines ++ ls) (found_before rest c (cuts_of behind) is it) ∙ append-nil p.lines) in
    let world = by p.parts in
    ap (input_parts (lines_before text)) (p.marks ∙ found_mark rest c (cuts_of behind) is it)
    ∙ (ap (λ (ls : List (List ℕ)). input_parts ls (Some c)) before
    ∙ (ap (λ (w : List ℕ). Some (record { world = w; lines = length p.lines; history = behind })) (sym world)
    ∙ ap (λ (k : ℕ). Some (record { world = take (length text - length rest) text; lines = k; history = behind })) (sym p.count)))
  where
    by : (text ≡ laid p.lines ++ rest) ⊎ (rest ≡ []) → take (length text - length rest) text ≡ laid p.lines
    by (inr none) = absurd (omega (arith, less, ap (λ (xs : List ℕ). length xs) none))
    by (inl so) =
        let long : length text - length rest ≡ length (laid p.lines) = omega (arith, ap (λ (xs : List ℕ). length xs) so, length-append (laid p.lines) rest) in
        ap (λ (k : ℕ). take k text) long ∙ (ap (λ (xs : List ℕ). take (length (laid p.lines)) xs) so ∙ at_front (laid p.lines) rest)

-- lines are no more than bytes
pub cuts_few : (text : List ℕ) → length (cuts_of text) ≤ length text
cuts_few [] = omega arith
cuts_few (b ∷ bytes) = by (is_newline b) (cuts_of bytes) (cuts_few bytes)
  where
    by : (v : Bool) (more : List Cut) → length more ≤ length bytes
        → length (cond v (record { line = []; behind = bytes } ∷ more) (with_first b more)) ≤ length (b ∷ bytes)
    by true more few = omega (arith, few)
    by false [] few = omega arith
    by false (c ∷ cs) few = omega (arith, few)
