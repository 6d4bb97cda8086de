-- A text is looked through, line by line, for one that begins a version.
use Rattle.std.proofs.Common.{◌≡◌, ℕ, ◌+◌, ◌-◌, ◌<◌, ◌≤◌, ◌==◌, ◌⊎◌, inl, inr, Bool, true, false, not, ◌||◌, List, [], ◌∷◌, ◌++◌, length, refl, sym, ap, ◌∙◌, arith, append_assoc, length-append}
use Rattle.std.specs.List.{list_all, list_any}
use Rattle.std.proofs.lemmas.Bool.{and_from, and_parts, or_parts}
use Rattle.std.proofs.lemmas.List.Elements.{All-nil}
use Rattle.std.proofs.lemmas.List.Folds.{list_all-append, list_any-append}
use Rattle.net_base.specs.NdbText.{is_newline, lines_of}
use Rattle.net_base.proofs.Shared.{IsWithout, cut_at, one_part, without_one}
use Rattle.world_text.specs.VersionLines.{is_at_line}
use Rattle.world_text.specs.WorldSpelling.{is_line, laid}
use Rattle.world_text.specs.WorldText.{cuts_of}
use Rattle.world_text.proofs.Shared.{false-of-not, Shape, shape}
use Rattle.world_file.specs.Bundles.{IsFront, IsWithoutVersion}

-- Lines of a text.

pub line_without : (line : List ℕ) → is_line line ≡ true → IsWithout 10 line
line_without [] whole = All-nil (λ (x : ℕ). (x == 10) ≡ false)
line_without (b ∷ line) whole =
    let parts = or_parts (is_newline b) (list_any is_newline line) (false-of-not (list_any is_newline (b ∷ line)) whole) in
    without_one 10 b line parts.0 (line_without line (ap not parts.1))

-- lines with their newlines, and what stands behind them
pub laid_lines : (front : List (List ℕ)) (rest : List ℕ) → list_all is_line front ≡ true → lines_of (laid front ++ rest) ≡ front ++ lines_of rest
laid_lines [] rest whole = refl
laid_lines (line ∷ front) rest whole =
    let parts = and_parts (is_line line) (list_all is_line front) whole in
    ap lines_of (append_assoc line (10 ∷ laid front) rest)
    ∙ cut_at 10 line (laid front ++ rest) (front ++ lines_of rest) (line_without line parts.0) (laid_lines front rest parts.1)

-- the first line of a text with those behind it: there are none where the line has no newline
pub record Ahead (text line behind : List ℕ) : Type 0 where
  pub tail : List (List ℕ)
  pub lines_are : lines_of text ≡ line ∷ tail
  pub tail_is : (tail ≡ lines_of behind) ⊎ ((tail ≡ []) × (behind ≡ []))
  pub less : length behind + 1 ≤ length text

pub ahead : (text line behind : List ℕ) → 0 < length text → cuts_of text ≡ record { line = line; behind = behind } ∷ cuts_of behind → Ahead text line behind
ahead text line behind some cut = by s.parts
  where
    s : Shape text (record { line = line; behind = behind }) (cuts_of behind)
    s = shape text (record { line = line; behind = behind }) (cuts_of behind) cut

    by : ((text ≡ line ++ (10 ∷ behind)) × (cuts_of behind ≡ cuts_of behind)) ⊎ ((text ≡ line) × (behind ≡ []) × (cuts_of behind ≡ [])) → Ahead text line behind
    by (inl (is, later)) = record {
      tail = lines_of behind;
      lines_are = ap lines_of is ∙ cut_at 10 line behind (lines_of behind) (line_without line s.whole) refl;
      tail_is = inl refl;
      less = let len = ap length is in let more = length-append line (10 ∷ behind) in omega (arith, len, more);
    }
    by (inr (is, none, nil)) = record {
      tail = [];
      lines_are = ap lines_of is ∙ one_part 10 line (line_without line s.whole);
      tail_is = inr (refl, none);
      less = let len = ap length none in omega (arith, len, some);
    }

-- Looking.

-- these lines stand in front of the rest of a text, and none begins a version
pub record Passed (text rest : List ℕ) (lines : ℕ) : Type 0 where
  pub front : List (List ℕ)
  pub text_is : text ≡ laid front ++ rest
  pub count : lines ≡ length front
  pub whole : list_all is_line front ≡ true
  pub own : list_any is_at_line front ≡ false

-- so far no line begins a version; where nothing is left the last line may have had no newline
pub record Scan (text rest : List ℕ) (lines : ℕ) : Type 0 where
  pub last : list_any is_at_line (lines_of rest) ≡ false → IsWithoutVersion text
  pub passed : 0 < length rest → Passed text rest lines
  pub room : lines + length rest ≤ length text

pub scan_first : (text : List ℕ) → Scan text text 0
scan_first text = record {
  last = λ e. e;
  passed = λ some. record { front = []; text_is = refl; count = refl; whole = refl; own = refl };
  room = omega arith;
}

laid-push : (lines : List (List ℕ)) (line : List ℕ) → laid (lines ++ line ∷ []) ≡ laid lines ++ (line ++ (10 ∷ []))
laid-push [] line = refl
laid-push (l ∷ lines) line = ap (λ (xs : List ℕ). l ++ (10 ∷ xs)) (laid-push lines line) ∙ sym (append_assoc l (10 ∷ laid lines) (line ++ (10 ∷ [])))

pub scan_next : (text rest line behind : List ℕ) (lines : ℕ) → Scan text rest lines → 0 < length rest → cuts_of rest ≡ record { line = line; behind = behind } ∷ cuts_of behind → is_at_line line ≡ false
    → Scan text behind (lines + 1)
scan_next text rest line behind lines s some cut other = by v.parts
  where
    v : Shape rest (record { line = line; behind = behind }) (cuts_of behind)
    v = shape rest (record { line = line; behind = behind }) (cuts_of behind) cut

    p : Passed text rest lines
    p = s.passed some

    by : ((rest ≡ line ++ (10 ∷ behind)) × (cuts_of behind ≡ cuts_of behind)) ⊎ ((rest ≡ line) × (behind ≡ []) × (cuts_of behind ≡ [])) → Scan text behind (lines + 1)
    by (inl (is, later)) = record {
      last = λ none.
          s.last (ap (list_any is_at_line) (ap lines_of is ∙ cut_at 10 line behind (lines_of behind) (line_without line v.whole) refl)
          ∙ (ap (λ (b : Bool). b || list_any is_at_line (lines_of behind)) other ∙ none));
      passed = λ more. record {
        front = p.front ++ line ∷ [];
        text_is = p.text_is
            ∙ (ap (λ (xs : List ℕ). laid p.front ++ xs) (is ∙ sym (append_assoc line (10 ∷ []) behind))
            ∙ (sym (append_assoc (laid p.front) (line ++ (10 ∷ [])) behind) ∙ ap (λ (xs : List ℕ). xs ++ behind) (sym (laid-push p.front line))));
        count = let count = p.count in let more = length-append p.front (line ∷ []) in omega (arith, count, more);
        whole = list_all-append is_line p.front (line ∷ []) ∙ and_from _ _ p.whole (and_from _ _ v.whole refl);
        own = list_any-append is_at_line p.front (line ∷ [])
            ∙ (ap (λ (b : Bool). b || (is_at_line line || false)) p.own ∙ ap (λ (b : Bool). b || false) other);
      };
      room = let room = s.room in
          let len = ap length is in
          let more = length-append line (10 ∷ behind) in omega (arith, room, len, more);
    }
    by (inr (is, none, nil)) = record {
      last = λ e.
          s.last (ap (list_any is_at_line) (ap lines_of is ∙ one_part 10 line (line_without line v.whole))
          ∙ ap (λ (b : Bool). b || false) other);
      passed = λ more. absurd (let len = ap length none in omega (arith, len, more));
      room = let room = s.room in let len = ap length none in omega (arith, room, len, some);
    }

pub scan_found : (text rest line behind : List ℕ) (lines : ℕ) → Scan text rest lines → 0 < length rest → cuts_of rest ≡ record { line = line; behind = behind } ∷ cuts_of behind → is_at_line line ≡ true
    → IsFront text (length text - length rest) lines
scan_found text rest line behind lines s some cut begins =
    let p = s.passed some in
    record {
      front = p.front;
      rest = rest;
      line = line;
      behind = behind;
      text_is = p.text_is;
      place_is = let len = ap length p.text_is in let more = length-append (laid p.front) rest in omega (arith, len, more);
      count = p.count;
      whole = p.whole;
      own = p.own;
      cut = cut;
      begins = begins;
    }

pub scan_end : (text rest : List ℕ) (lines : ℕ) → Scan text rest lines → length rest ≡ 0 → IsWithoutVersion text
scan_end text rest lines s none = by rest none s.last
  where
    by : (left : List ℕ) → length left ≡ 0 → (list_any is_at_line (lines_of left) ≡ false → IsWithoutVersion text) → IsWithoutVersion text
    by [] none last = last refl
    by (b ∷ left) none last = absurd (omega (arith, none))
