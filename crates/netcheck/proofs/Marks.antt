-- The text of a world has no line `%history`, so that one put behind it is the first.
use Rattle.std.proofs.Common.{◌≡◌, ℕ, ◌+◌, ◌==◌, ◌⊎◌, ◌||◌, Bool, true, false, cond, List, [], ◌∷◌, ◌++◌, length, Option, Some, None, Result, Ok, Err, refl, sym, ap, subst, ◌∙◌, inl, inr, append_assoc}
use Rattle.std.specs.Prelude.{codes, if◌then◌else◌}
use Rattle.std.specs.List.{find, last_or, list_any, onto_first}
use Rattle.std.proofs.lemmas.Bool.{false≢true, or_parts}
use Rattle.std.proofs.lemmas.Option.{none-some}
use Rattle.net_base.specs.declared.world.World.{World}
use Rattle.net_base.specs.NdbBundle.{least_of_causes, told_line}
use Rattle.net_base.specs.NdbText.{is_newline, lines_of}
use Rattle.net_base.proofs.Shared.{equal_texts}
use Rattle.world_text.specs.declared.line.LineCause.{LineCause}
use Rattle.world_text.specs.declared.line.LineCause.TheVariants as cause
use Rattle.world_text.specs.LineReading.{read_line}
use Rattle.world_text.specs.VersionLines.{bad_version_line, first_bad_version, version_causes}
use Rattle.world_text.specs.WorldLines.{Bad, Begins, Draft, Goes, Verdict, first_line, judged_line, line_verdict, opening_draft}
use Rattle.world_text.specs.WorldSpelling.{laid}
use Rattle.world_text.specs.WorldText.{Cut, cuts_of, judged, reading_from, with_first, with_versions, world_reading}
use Rattle.world_text.proofs.Shared.{shape, false-of-not}
use Rattle.netcheck.proofs.Halves.{found_before, found_mark, passed_before, passed_mark}
use Rattle.netcheck.specs.Input.{input_parts, is_mark, lines_before, mark_of, parts_of, with_printed}

abbrev mark : List ℕ
mark = codes "%history"

-- Lines that a world may have.

-- the line `%history` is bad among the lines of a world
mark_bad : (d : Draft) → (c : LineCause) × (line_verdict d mark ≡ Bad c)
mark_bad d = by (d.group == 0)
  where
    by : (b : Bool) → (c : LineCause) × ((if b then first_line d mark else judged_line d (read_line mark)) ≡ Bad c)
    by true = (cause.FirstLine, refl)
    by false = (cause.UnknownWord, refl)

-- and behind the line `ndb`
mark_caused : (before : List (List ℕ)) → least_of_causes (version_causes before mark) ≡ Some 6
mark_caused before = refl

-- a line that isn't bad isn't it
other_line : (d : Draft) (line : List ℕ) → ((c : LineCause) → line_verdict d line ≡ Bad c → ⊥) → is_mark line ≡ false
other_line d line good = by (is_mark line) refl
  where
    by : (b : Bool) → is_mark line ≡ b → b ≡ false
    by false is = refl
    by true is =
        let bad = mark_bad d in
        absurd (good bad.0 (ap (line_verdict d) (equal_texts line mark is) ∙ bad.1))

-- Lines of the versions.

told_none : (n : ℕ) (least : Option ℕ) (behind : Option (ℕ × ℕ)) → told_line n least behind ≡ None → (least ≡ None) × (behind ≡ None)
told_none n None behind is = (refl, is)
told_none n (Some c) behind is = absurd (none-some (n, c) (sym is))

unmarked_versions : (before lines : List (List ℕ)) → first_bad_version before lines ≡ None → list_any is_mark lines ≡ false
unmarked_versions before [] is = refl
unmarked_versions before (line ∷ lines) is =
    let told = told_none (length before + 1) (least_of_causes (version_causes before line)) (first_bad_version (before ++ line ∷ []) lines) is in
    by (is_mark line) refl told.0 (unmarked_versions (before ++ line ∷ []) lines told.1)
  where
    by : (b : Bool) → is_mark line ≡ b → least_of_causes (version_causes before line) ≡ None → list_any is_mark lines ≡ false → list_any is_mark (line ∷ lines) ≡ false
    by true it none rest = absurd (none-some 6 (sym none ∙ (ap (λ (l : List ℕ). least_of_causes (version_causes before l)) (equal_texts line mark it) ∙ mark_caused before)))
    by false it none rest = rw (it, rest) refl

-- the lines of a text, cut by cut; behind the last newline stands one more
abbrev AreCut : List Cut → List (List ℕ) → Type 0
AreCut [] lines = (lines ≡ []) ⊎ (lines ≡ [] ∷ [])
AreCut (c ∷ cs) lines = (rest : List (List ℕ)) × (lines ≡ c.line ∷ rest) × AreCut cs rest

are_cut : (text : List ℕ) → AreCut (cuts_of text) (lines_of text)
are_cut [] = inr refl
are_cut (b ∷ bytes) = by (is_newline b) (cuts_of bytes) (lines_of bytes) (are_cut bytes)
  where
    longer : (cs : List Cut) (lines : List (List ℕ)) → AreCut cs lines → AreCut (with_first b cs) (onto_first b lines)
    longer [] lines (inl none) = ([], ap (onto_first b) none, inl refl)
    longer [] lines (inr one) = ([], ap (onto_first b) one, inl refl)
    longer (c ∷ cs) lines (rest, is, are) = (rest, ap (onto_first b) is, are)

    by : (v : Bool) (cs : List Cut) (lines : List (List ℕ)) → AreCut cs lines
        → AreCut (cond v (record { line = []; behind = bytes } ∷ cs) (with_first b cs)) (cond v ([] ∷ lines) (onto_first b lines))
    by true cs lines are = (lines, refl, are)
    by false cs lines are = longer cs lines are

unmarked_cuts : (cs : List Cut) (lines : List (List ℕ)) → AreCut cs lines → list_any is_mark lines ≡ false → find (λ (c : Cut). is_mark c.line) cs ≡ None
unmarked_cuts [] lines are none = refl
unmarked_cuts (c ∷ cs) lines (rest, is, are) none =
    let both = or_parts (is_mark c.line) (list_any is_mark rest) (sym (ap (list_any is_mark) is) ∙ none) in
    rw both.0 (unmarked_cuts cs rest are both.1)

unmarked_behind : (text : List ℕ) → bad_version_line text ≡ None → mark_of text ≡ None
unmarked_behind text good = unmarked_cuts (cuts_of text) (lines_of text) (are_cut text) (unmarked_versions [] (lines_of text) good)

-- Lines of a world.

ok_not : (w : World) (bad : ℕ × ℕ) → (◌≡◌ {A = Result World (ℕ × ℕ)} (Err bad) (Ok w)) → ⊥
ok_not w bad is = cc

goes_not_bad : (d : Draft) (c : LineCause) → Goes d ≡ Bad c → ⊥
goes_not_bad d c is = cc

begins_not_bad : (w : World) (c : LineCause) → Begins w ≡ Bad c → ⊥
begins_not_bad w c is = cc

good_versions : (n : ℕ) (w v : World) (text : List ℕ) (bad : Option (ℕ × ℕ)) → with_versions n v text bad ≡ Ok w → bad ≡ None
good_versions n w v text None is = refl
good_versions n w v text (Some bad) is = absurd (ok_not w (n + bad.0, bad.1) is)

unmarked_from : (cs : List Cut) (text : List ℕ) (d : Draft) (n : ℕ) (w : World) → cuts_of text ≡ cs → reading_from d n cs ≡ Ok w
    → find (λ (c : Cut). is_mark c.line) cs ≡ None
unmarked_from [] text d n w cut is = refl
unmarked_from (c ∷ cs) text d n w cut is = by (λ next. unmarked_from cs c.behind next (n + 1) w) (line_verdict d c.line) refl is
  where
    -- of the lines behind this one
    More : Type 0
    More = (next : Draft) → cuts_of c.behind ≡ cs → reading_from next (n + 1) cs ≡ Ok w → find (λ (x : Cut). is_mark x.line) cs ≡ None

    step : is_mark c.line ≡ false → find (λ (x : Cut). is_mark x.line) cs ≡ None → find (λ (x : Cut). is_mark x.line) (c ∷ cs) ≡ None
    step other rest = rw other rest

    behind_so : (find (λ (x : Cut). is_mark x.line) (cuts_of c.behind) ≡ None) → find (λ (x : Cut). is_mark x.line) cs ≡ None
    behind_so none = on (shape text c cs cut).parts
      where
        on : ((text ≡ c.line ++ (10 ∷ c.behind)) × (cs ≡ cuts_of c.behind)) ⊎ ((text ≡ c.line) × (c.behind ≡ []) × (cs ≡ [])) → find (λ (x : Cut). is_mark x.line) cs ≡ None
        on (inl (_, later)) = ap (find (λ (x : Cut). is_mark x.line)) later ∙ none
        on (inr (_, _, none)) = ap (find (λ (x : Cut). is_mark x.line)) none

    goes_so : More → (next : Draft) → reading_from next (n + 1) cs ≡ Ok w → find (λ (x : Cut). is_mark x.line) cs ≡ None
    goes_so more next is = on (shape text c cs cut).parts
      where
        on : ((text ≡ c.line ++ (10 ∷ c.behind)) × (cs ≡ cuts_of c.behind)) ⊎ ((text ≡ c.line) × (c.behind ≡ []) × (cs ≡ [])) → find (λ (x : Cut). is_mark x.line) cs ≡ None
        on (inl (_, later)) = more next (sym later) is
        on (inr (_, _, none)) = ap (find (λ (x : Cut). is_mark x.line)) none

    by : More → (v : Verdict) → line_verdict d c.line ≡ v → judged n c.behind v (λ (next : Draft). reading_from next (n + 1) cs) ≡ Ok w → find (λ (x : Cut). is_mark x.line) (c ∷ cs) ≡ None
    by more (Goes next) v is = step (other_line d c.line (λ x bad. goes_not_bad next x (sym v ∙ bad))) (goes_so more next is)
    by more (Begins world) v is =
        step (other_line d c.line (λ x bad. begins_not_bad world x (sym v ∙ bad)))
        (behind_so (unmarked_behind c.behind (good_versions n w world c.behind (bad_version_line c.behind) is)))
    by more (Bad x) v is = absurd (ok_not w _ is)

pub unmarked : (text : List ℕ) (w : World) → world_reading text ≡ Ok w → mark_of text ≡ None
unmarked text w is = unmarked_from (cuts_of text) text opening_draft 1 w refl is

-- What stands behind it.

no_cuts : (bytes : List ℕ) → cuts_of bytes ≡ [] → bytes ≡ []
no_cuts [] e = refl
no_cuts (b ∷ bytes) e = by (is_newline b) (cuts_of bytes) e
  where
    none_there : (c : Cut) (cs : List Cut) → c ∷ cs ≡ [] → ⊥
    none_there c cs is = cc

    by : (v : Bool) (cs : List Cut) → cond v (record { line = []; behind = bytes } ∷ cs) (with_first b cs) ≡ [] → b ∷ bytes ≡ []
    by true cs f = absurd (none_there _ cs f)
    by false [] f = absurd (none_there _ [] f)
    by false (c ∷ cs) f = absurd (none_there _ cs f)

-- a line with its newline is the first
cuts_first : (line behind : List ℕ) → list_any is_newline line ≡ false → cuts_of (line ++ (10 ∷ behind)) ≡ record { line = line; behind = behind } ∷ cuts_of behind
cuts_first [] behind none = refl
cuts_first (b ∷ line) behind none =
    let both = or_parts (is_newline b) (list_any is_newline line) none in
    ap (λ v. cond v (record { line = []; behind = line ++ (10 ∷ behind) } ∷ cuts_of (line ++ (10 ∷ behind))) (with_first b (cuts_of (line ++ (10 ∷ behind))))) both.0
    ∙ ap (with_first b) (cuts_first line behind both.1)

-- the last byte of a text that goes on behind a newline is that of what goes on, or the newline
last_behind : (o : Option ℕ) (line behind : List ℕ) → last_or o (line ++ (10 ∷ behind)) ≡ last_or (Some 10) behind
last_behind o [] behind = refl
last_behind o (b ∷ line) behind = last_behind (Some b) line behind

-- a text that ends with a newline has one
last_newline : (b : ℕ) (bytes : List ℕ) → last_or (Some b) bytes ≡ Some 10 → list_any is_newline (b ∷ bytes) ≡ true
last_newline b [] is = let same : b ≡ 10 = some_same is in rw same refl
  where
    some_same : {m n : ℕ} → Some m ≡ Some n → m ≡ n
    some_same e = cc
last_newline b (x ∷ bytes) is = or_true_right (is_newline b) (list_any is_newline (x ∷ bytes)) (last_newline x bytes is)
  where
    or_true_right : (u v : Bool) → v ≡ true → (u || v) ≡ true
    or_true_right true v is = refl
    or_true_right false v is = is

-- the line `%history` is the first behind a text without it
record Marked (text printed : List ℕ) : Type 0 where
  found : mark_of (with_printed text printed) ≡ Some (record { line = mark; behind = printed })
  before : laid (lines_before (with_printed text printed)) ≡ text

alone : (printed : List ℕ) → Marked [] printed
alone printed =
    let cut : cuts_of (with_printed [] printed) ≡ record { line = mark; behind = printed } ∷ cuts_of printed = cuts_first mark printed refl in
    record {
      found = found_mark (with_printed [] printed) (record { line = mark; behind = printed }) (cuts_of printed) cut refl;
      before = ap laid (found_before (with_printed [] printed) (record { line = mark; behind = printed }) (cuts_of printed) cut refl);
    }

one_more : (text printed line behind : List ℕ) → text ≡ line ++ (10 ∷ behind) → list_any is_newline line ≡ false → is_mark line ≡ false
    → Marked behind printed → Marked text printed
one_more text printed line behind is whole other m =
    let c : Cut = record { line = line; behind = with_printed behind printed } in
    let cut : cuts_of (with_printed text printed) ≡ c ∷ cuts_of (with_printed behind printed) =
    ap (λ (t : List ℕ). cuts_of (with_printed t printed)) is
    ∙ (ap cuts_of (append_assoc line (10 ∷ behind) (codes "%history\n" ++ printed)) ∙ cuts_first line (with_printed behind printed) whole) in
    record {
      found = passed_mark (with_printed text printed) c (cuts_of (with_printed behind printed)) cut other ∙ m.found;
      before =
          ap laid (passed_before (with_printed text printed) c (cuts_of (with_printed behind printed)) cut other)
          ∙ (ap (λ (t : List ℕ). line ++ (10 ∷ t)) m.before ∙ sym is);
    }

marked_from : (cs : List Cut) (text printed : List ℕ) → cuts_of text ≡ cs → last_or (Some 10) text ≡ Some 10 → find (λ (c : Cut). is_mark c.line) cs ≡ None
    → Marked text printed
marked_from [] text printed cut last none = subst (λ (t : List ℕ). Marked t printed) (sym (no_cuts text cut)) (alone printed)
marked_from (c ∷ cs) text printed cut last none = on (shape text c cs cut).parts (marked_from cs c.behind printed)
  where
    others : (b : Bool) (found : Option Cut) → cond b (Some c) found ≡ None → (b ≡ false) × (found ≡ None)
    others true found is = absurd (none-some c (sym is))
    others false found is = (refl, is)

    both : (is_mark c.line ≡ false) × (find (λ (x : Cut). is_mark x.line) cs ≡ None)
    both = others (is_mark c.line) (find (λ (x : Cut). is_mark x.line) cs) none

    whole : list_any is_newline c.line ≡ false
    whole = false-of-not (list_any is_newline c.line) (shape text c cs cut).whole

    no_newline : (t : List ℕ) (ds : List Cut) → cuts_of t ≡ c ∷ ds → last_or (Some 10) t ≡ Some 10 → list_any is_newline t ≡ false → ⊥
    no_newline [] ds e is none = absurd (cons_nil ds e)
      where
        cons_nil : (es : List Cut) → [] ≡ c ∷ es → ⊥
        cons_nil es f = cc
    no_newline (b ∷ bytes) ds e is none = false≢true (sym none ∙ last_newline b bytes is)

    on : ((text ≡ c.line ++ (10 ∷ c.behind)) × (cs ≡ cuts_of c.behind)) ⊎ ((text ≡ c.line) × (c.behind ≡ []) × (cs ≡ []))
        → (cuts_of c.behind ≡ cs → last_or (Some 10) c.behind ≡ Some 10 → find (λ (x : Cut). is_mark x.line) cs ≡ None → Marked c.behind printed) → Marked text printed
    on (inl (is, later)) more =
        one_more text printed c.line c.behind is whole both.0
        (more (sym later) (sym (last_behind (Some 10) c.line c.behind) ∙ (ap (last_or (Some 10)) (sym is) ∙ last)) both.1)
    on (inr (is, _, _)) more = absurd (no_newline text cs cut last (ap (list_any is_newline) is ∙ whole))

-- the parts of a world's text that ends with a newline, and of what is printed of a run
pub printed_parts : (text printed : List ℕ) (w : World) → world_reading (text ++ 10 ∷ []) ≡ Ok w
    → (lines : ℕ) × (parts_of (with_printed (text ++ 10 ∷ []) printed) ≡ Some (record { world = text ++ 10 ∷ []; lines = lines; history = printed }))
printed_parts text printed w is =
    let input = with_printed (text ++ 10 ∷ []) printed in
    let m = marked_from (cuts_of (text ++ 10 ∷ [])) (text ++ 10 ∷ []) printed refl (last_behind (Some 10) text []) (unmarked (text ++ 10 ∷ []) w is) in (
      length (lines_before input),
      ap (input_parts (lines_before input)) m.found
          ∙ ap (λ (world : List ℕ). Some (record { world = world; lines = length (lines_before input); history = printed })) m.before,
    )
