-- A world's text has one line for each step, in the order of the steps.
use Rattle.std.proofs.Common.{◌≡◌, ℕ, ◌==◌, inl, inr, Bool, true, false, cond, not, ◌&&◌, ◌||◌, List, [], ◌∷◌, ◌++◌, refl, sym, ap, subst, ◌∙◌, append_assoc, append-nil, arith}
use Rattle.std.specs.Prelude.{bytes_eq, codes, flat_map, map, if◌then◌else◌}
use Rattle.std.specs.List.{filter, list_all, list_any}
use Rattle.std.proofs.lemmas.Bool.{eqb-true, false≢true}
use Rattle.std.proofs.lemmas.List.Folds.{list_all-append}
use Rattle.net_base.specs.declared.timer.Timers.{Timers}
use Rattle.net_base.specs.declared.world.Step.{Step}
use Rattle.net_base.specs.declared.world.Step.TheVariants as step
use Rattle.net_base.specs.declared.world.World.{World}
use Rattle.net_base.specs.Addresses.{parts_at}
use Rattle.net_base.specs.NdbText.{is_newline}
use Rattle.net_base.proofs.Shared.{IsWithout, cut_at, without_one}
use Rattle.world_text.specs.declared.line.HostLine.{HostLine}
use Rattle.world_text.specs.declared.line.HostLine.TheVariants as host
use Rattle.world_text.specs.declared.line.MediumLine.{MediumLine}
use Rattle.world_text.specs.declared.line.MediumLine.TheVariants as medium
use Rattle.world_text.specs.declared.line.WorldLine.{WorldLine}
use Rattle.world_text.specs.declared.line.WorldLine.TheVariants as line
use Rattle.world_text.specs.WorldSpelling.{HostText, IsHeaded, IsWorldText, ScriptText, host_names, is_line, laid, line_of_step, line_spelling, lines_of_steps, lines_of_text, script_said, speaks}
use Rattle.replay_views.specs.declared.world_steps.StepLine.{StepLine}
use Rattle.replay_views.specs.StepLines.{EndsLine, step_spellings, steps_spelled, texts_of}
use Rattle.replay_views.specs.WorldSteps.{begins_script, goes_under, is_step_line, next_number, own_line, step_lines, step_lines_from}

-- ---- texts of lines

-- the texts of the lines that are steps
abbrev own_texts : Bool → List (List ℕ) → List (List ℕ)
own_texts under [] = []
own_texts under (l ∷ ls) = if is_step_line under l then l ∷ own_texts (goes_under under l) ls else own_texts (goes_under under l) ls

abbrev is_other : List ℕ → Bool
is_other l = not (bytes_eq l (codes "ndb"))

not_true : (b : Bool) → not b ≡ true → b ≡ false
not_true true e = absurd (false≢true e)
not_true false e = refl

first_true : (a b : Bool) → (a && b) ≡ true → a ≡ true
first_true true b e = refl
first_true false b e = absurd (false≢true e)

rest_true : (a b : Bool) → (a && b) ≡ true → b ≡ true
rest_true true b e = e
rest_true false b e = absurd (false≢true e)

-- a line that isn't `ndb`, and the next lines
texts_more : (under : Bool) (n : ℕ) (l : List ℕ) (ls rest : List (List ℕ)) → bytes_eq l (codes "ndb") ≡ false
    → texts_of (step_lines_from (goes_under under l) (next_number n) ls) ≡ rest
    → texts_of (step_lines_from under n (l ∷ ls)) ≡ (if is_step_line under l then l ∷ rest else rest)
texts_more under n l ls rest other is =
    ap (λ (b : Bool). texts_of (cond b [] (own_line under n l ++ step_lines_from (goes_under under l) (next_number n) ls))) other
    ∙ by (is_step_line under l)
  where
    left : List StepLine
    left = step_lines_from (goes_under under l) (next_number n) ls

    by : (b : Bool) → texts_of ((if b then record { number = n; text = l } ∷ [] else []) ++ left) ≡ (if b then l ∷ rest else rest)
    by true = ap (λ (xs : List (List ℕ)). l ∷ xs) is
    by false = is

lines_told : (under : Bool) (n : ℕ) (lines behind : List (List ℕ)) → list_all is_other lines ≡ true
    → texts_of (step_lines_from under n (lines ++ codes "ndb" ∷ behind)) ≡ own_texts under lines
lines_told under n [] behind other = refl
lines_told under n (l ∷ ls) behind other =
    texts_more under n l (ls ++ codes "ndb" ∷ behind) (own_texts (goes_under under l) ls)
    (not_true (bytes_eq l (codes "ndb")) (first_true (is_other l) (list_all is_other ls) other))
    (lines_told (goes_under under l) (next_number n) ls behind (rest_true (is_other l) (list_all is_other ls) other))

-- ---- lines that are ignored

-- an empty line, or a comment
passed_says : (under : Bool) (l : List ℕ) (ls : List (List ℕ)) → speaks l ≡ false → own_texts under (l ∷ ls) ≡ own_texts under ls
passed_says under [] ls silent = by under
  where
    by : (u : Bool) → own_texts u ([] ∷ ls) ≡ own_texts u ls
    by true = refl
    by false = refl
passed_says under (b ∷ bs) ls silent = at b (is_hash b silent)
  where
    is_hash : (c : ℕ) → not (c == 35) ≡ false → c ≡ 35
    is_hash c e = by (c == 35) refl
      where
        by : (v : Bool) → (c == 35) ≡ v → c ≡ 35
        by true is = eqb-true c 35 is
        by false is = absurd (false≢true (sym e ∙ ap not is))

    hash : (u : Bool) → own_texts u ((35 ∷ bs) ∷ ls) ≡ own_texts u ls
    hash true = refl
    hash false = refl

    at : (c : ℕ) → c ≡ 35 → own_texts under ((c ∷ bs) ∷ ls) ≡ own_texts under ls
    at c is = subst (λ (d : ℕ). own_texts under ((d ∷ bs) ∷ ls) ≡ own_texts under ls) (sym is) (hash under)

passed_other : (l : List ℕ) → speaks l ≡ false → is_other l ≡ true
passed_other [] silent = refl
passed_other (b ∷ bs) silent = at b (is_hash b silent)
  where
    is_hash : (c : ℕ) → not (c == 35) ≡ false → c ≡ 35
    is_hash c e = by (c == 35) refl
      where
        by : (v : Bool) → (c == 35) ≡ v → c ≡ 35
        by true is = eqb-true c 35 is
        by false is = absurd (false≢true (sym e ∙ ap not is))

    at : (c : ℕ) → c ≡ 35 → is_other (c ∷ bs) ≡ true
    at c is = subst (λ (d : ℕ). is_other (d ∷ bs) ≡ true) (sym is) refl

only_speaking : (under : Bool) (lines : List (List ℕ)) → own_texts under (filter speaks lines) ≡ own_texts under lines
only_speaking under [] = refl
only_speaking under (l ∷ ls) = by (speaks l) refl (only_speaking (goes_under under l) ls) (only_speaking under ls)
  where
    keep : (b : Bool) → own_texts (goes_under under l) (filter speaks ls) ≡ own_texts (goes_under under l) ls
        → (if b then l ∷ own_texts (goes_under under l) (filter speaks ls) else own_texts (goes_under under l) (filter speaks ls))
        ≡ (if b then l ∷ own_texts (goes_under under l) ls else own_texts (goes_under under l) ls)
    keep true e = ap (λ (xs : List (List ℕ)). l ∷ xs) e
    keep false e = e

    by : (b : Bool) → speaks l ≡ b → own_texts (goes_under under l) (filter speaks ls) ≡ own_texts (goes_under under l) ls
        → own_texts under (filter speaks ls) ≡ own_texts under ls
        → own_texts under (cond (speaks l) (l ∷ filter speaks ls) (filter speaks ls)) ≡ own_texts under (l ∷ ls)
    by true e next same =
        ap (λ (b : Bool). own_texts under (cond b (l ∷ filter speaks ls) (filter speaks ls))) e
        ∙ keep (is_step_line under l) next
    by false e next same =
        ap (λ (b : Bool). own_texts under (cond b (l ∷ filter speaks ls) (filter speaks ls))) e
        ∙ same ∙ sym (passed_says under l ls e)

all_other : (lines : List (List ℕ)) → list_all is_other (filter speaks lines) ≡ true → list_all is_other lines ≡ true
all_other [] other = refl
all_other (l ∷ ls) other = by (speaks l) refl (λ e. all_other ls e)
  where
    both : (a b : Bool) → a ≡ true → b ≡ true → (a && b) ≡ true
    both a b e f = ap (λ (v : Bool). v && b) e ∙ f

    by : (b : Bool) → speaks l ≡ b → (list_all is_other (filter speaks ls) ≡ true → list_all is_other ls ≡ true) → list_all is_other (l ∷ ls) ≡ true
    by true e rest =
        let all : list_all is_other (l ∷ filter speaks ls) ≡ true =
        subst (λ (b : Bool). list_all is_other (cond b (l ∷ filter speaks ls) (filter speaks ls)) ≡ true) e other in
        both (is_other l) (list_all is_other ls) (first_true (is_other l) (list_all is_other (filter speaks ls)) all)
        (rest (rest_true (is_other l) (list_all is_other (filter speaks ls)) all))
    by false e rest =
        let all : list_all is_other (filter speaks ls) ≡ true =
        subst (λ (b : Bool). list_all is_other (cond b (l ∷ filter speaks ls) (filter speaks ls)) ≡ true) e other in
        both (is_other l) (list_all is_other ls) (passed_other l e) (rest all)

-- ---- the lines of a world

-- before the first script
early : (l : List ℕ) (ls : List (List ℕ)) → begins_script l ≡ false → own_texts false (l ∷ ls) ≡ own_texts false ls
early l ls e = ap (λ (u : Bool). own_texts u ls) e

early_media : (media : List MediumLine) (rest : List WorldLine)
    → own_texts false (map line_spelling (map (λ (l : MediumLine). line.OfMedium l) media ++ rest)) ≡ own_texts false (map line_spelling rest)
early_media [] rest = refl
early_media (m ∷ ms) rest =
    early (line_spelling (line.OfMedium m)) (map line_spelling (map (λ (l : MediumLine). line.OfMedium l) ms ++ rest)) (by m) ∙ early_media ms rest
  where
    by : (l : MediumLine) → begins_script (line_spelling (line.OfMedium l)) ≡ false
    by (medium.Medium called mtu) = refl
    by (medium.Rates called loss twice later) = refl
    by (medium.Fate called f x) = refl

early_under : (under : List HostLine) (rest : List WorldLine)
    → own_texts false (map line_spelling (map (λ (l : HostLine). line.OfHost l) under ++ rest)) ≡ own_texts false (map line_spelling rest)
early_under [] rest = refl
early_under (m ∷ ms) rest =
    early (line_spelling (line.OfHost m)) (map line_spelling (map (λ (l : HostLine). line.OfHost l) ms ++ rest)) (by m) ∙ early_under ms rest
  where
    by : (l : HostLine) → begins_script (line_spelling (line.OfHost l)) ≡ false
    by (host.If called ip mask) = refl
    by (host.Route l) = refl
    by (host.Start start) = refl

early_hosts : (hosts : List HostText) (rest : List WorldLine)
    → own_texts false (map line_spelling (flat_map lines_of_text hosts ++ rest)) ≡ own_texts false (map line_spelling rest)
early_hosts [] rest = refl
early_hosts (h ∷ hs) rest =
    ap (λ (ls : List WorldLine). own_texts false (map line_spelling ls)) (append_assoc (lines_of_text h) (flat_map lines_of_text hs) rest)
    ∙ early_under h.under (flat_map lines_of_text hs ++ rest)
    ∙ early_hosts hs rest

-- a step
step_speaks : (s : Step) → is_step_line true (line_of_step s) ≡ true
step_speaks (step.Open name path mode) = refl
step_speaks (step.Read name count) = refl
step_speaks (step.Write name text) = refl
step_speaks (step.Writex name text) = refl
step_speaks (step.Close name) = refl
step_speaks (step.Ls path) = refl
step_speaks (step.Cs query) = refl
step_speaks (step.Until moment) = refl
step_speaks step.Refresh = refl
step_speaks (step.Dial name address) = refl
step_speaks (step.Announce name address) = refl
step_speaks (step.Listen name from) = refl
step_speaks (step.Accept name from) = refl
step_speaks (step.Reject name) = refl
step_speaks (step.Hangup name) = refl
step_speaks (step.Hread name count) = refl
step_speaks (step.Hwrite name bytes) = refl
step_speaks (step.Dns name times) = refl
step_speaks (step.Export name) = refl
step_speaks (step.Import name) = refl
step_speaks (step.Ropen name call path mode) = refl
step_speaks (step.Rread name count) = refl
step_speaks (step.Rwrite name text) = refl
step_speaks (step.Rclose name) = refl

of_steps : (steps : List Step) (rest : List WorldLine)
    → own_texts true (map line_spelling (map (λ (s : Step). line.OfScript s) steps ++ rest)) ≡ map line_of_step steps ++ own_texts true (map line_spelling rest)
of_steps [] rest = refl
of_steps (s ∷ ss) rest =
    let more = own_texts true (map line_spelling (map (λ (t : Step). line.OfScript t) ss ++ rest)) in
    ap (λ (b : Bool). if b then line_of_step s ∷ more else more) (step_speaks s) ∙ ap (λ (xs : List (List ℕ)). line_of_step s ∷ xs) (of_steps ss rest)

script_line : (under : Bool) (called : List ℕ) (ls : List (List ℕ)) → own_texts under (line_spelling (line.Script called) ∷ ls) ≡ own_texts true ls
script_line true called ls = refl
script_line false called ls = refl

abbrev said_steps : ScriptText → List (List ℕ)
said_steps s = map line_of_step s.steps

of_scripts : (under : Bool) (scripts : List ScriptText) → own_texts under (map line_spelling (flat_map lines_of_steps scripts)) ≡ flat_map said_steps scripts
of_scripts under [] = refl
of_scripts under (s ∷ ss) =
    script_line under s.host (map line_spelling (map (λ (t : Step). line.OfScript t) s.steps ++ flat_map lines_of_steps ss))
    ∙ of_steps s.steps (flat_map lines_of_steps ss)
    ∙ ap (λ (xs : List (List ℕ)). said_steps s ++ xs) (of_scripts true ss)

same_steps : (names : List (List ℕ)) (scripts : List ScriptText) → flat_map steps_spelled (map (script_said names) scripts) ≡ flat_map said_steps scripts
same_steps names [] = refl
same_steps names (s ∷ ss) = ap (λ (xs : List (List ℕ)). said_steps s ++ xs) (same_steps names ss)

-- no line of a world is `ndb`

both_other : (xs ys : List (List ℕ)) → list_all is_other xs ≡ true → list_all is_other ys ≡ true → list_all is_other (xs ++ ys) ≡ true
both_other xs ys e f = list_all-append is_other xs ys ∙ (ap (λ (v : Bool). v && list_all is_other ys) e ∙ f)

one_other : (l : List ℕ) (ls : List (List ℕ)) → is_other l ≡ true → list_all is_other ls ≡ true → list_all is_other (l ∷ ls) ≡ true
one_other l ls e f = ap (λ (v : Bool). v && list_all is_other ls) e ∙ f

media_other : (media : List MediumLine) (rest : List WorldLine) → list_all is_other (map line_spelling rest) ≡ true
    → list_all is_other (map line_spelling (map (λ (l : MediumLine). line.OfMedium l) media ++ rest)) ≡ true
media_other [] rest e = e
media_other (m ∷ ms) rest e = one_other (line_spelling (line.OfMedium m)) (map line_spelling (map (λ (l : MediumLine). line.OfMedium l) ms ++ rest)) (by m) (media_other ms rest e)
  where
    by : (l : MediumLine) → is_other (line_spelling (line.OfMedium l)) ≡ true
    by (medium.Medium called mtu) = refl
    by (medium.Rates called loss twice later) = refl
    by (medium.Fate called f x) = refl

under_other : (under : List HostLine) (rest : List WorldLine) → list_all is_other (map line_spelling rest) ≡ true
    → list_all is_other (map line_spelling (map (λ (l : HostLine). line.OfHost l) under ++ rest)) ≡ true
under_other [] rest e = e
under_other (m ∷ ms) rest e = one_other (line_spelling (line.OfHost m)) (map line_spelling (map (λ (l : HostLine). line.OfHost l) ms ++ rest)) (by m) (under_other ms rest e)
  where
    by : (l : HostLine) → is_other (line_spelling (line.OfHost l)) ≡ true
    by (host.If called ip mask) = refl
    by (host.Route l) = refl
    by (host.Start start) = refl

hosts_other : (hosts : List HostText) (rest : List WorldLine) → list_all is_other (map line_spelling rest) ≡ true
    → list_all is_other (map line_spelling (flat_map lines_of_text hosts ++ rest)) ≡ true
hosts_other [] rest e = e
hosts_other (h ∷ hs) rest e =
    subst (λ (ls : List WorldLine). list_all is_other (map line_spelling ls) ≡ true) (sym (append_assoc (lines_of_text h) (flat_map lines_of_text hs) rest))
    (one_other (line_spelling (line.Host h.name h.nets)) (map line_spelling (map (λ (l : HostLine). line.OfHost l) h.under ++ (flat_map lines_of_text hs ++ rest))) refl (under_other h.under (flat_map lines_of_text hs ++ rest) (hosts_other hs rest e)))

step_other : (s : Step) → is_other (line_of_step s) ≡ true
step_other (step.Open name path mode) = refl
step_other (step.Read name count) = refl
step_other (step.Write name text) = refl
step_other (step.Writex name text) = refl
step_other (step.Close name) = refl
step_other (step.Ls path) = refl
step_other (step.Cs query) = refl
step_other (step.Until moment) = refl
step_other step.Refresh = refl
step_other (step.Dial name address) = refl
step_other (step.Announce name address) = refl
step_other (step.Listen name from) = refl
step_other (step.Accept name from) = refl
step_other (step.Reject name) = refl
step_other (step.Hangup name) = refl
step_other (step.Hread name count) = refl
step_other (step.Hwrite name bytes) = refl
step_other (step.Dns name times) = refl
step_other (step.Export name) = refl
step_other (step.Import name) = refl
step_other (step.Ropen name call path mode) = refl
step_other (step.Rread name count) = refl
step_other (step.Rwrite name text) = refl
step_other (step.Rclose name) = refl

steps_other : (steps : List Step) (rest : List WorldLine) → list_all is_other (map line_spelling rest) ≡ true
    → list_all is_other (map line_spelling (map (λ (s : Step). line.OfScript s) steps ++ rest)) ≡ true
steps_other [] rest e = e
steps_other (s ∷ ss) rest e = one_other (line_of_step s) (map line_spelling (map (λ (t : Step). line.OfScript t) ss ++ rest)) (step_other s) (steps_other ss rest e)

scripts_other : (scripts : List ScriptText) → list_all is_other (map line_spelling (flat_map lines_of_steps scripts)) ≡ true
scripts_other [] = refl
scripts_other (s ∷ ss) = one_other (line_spelling (line.Script s.host)) (map line_spelling (map (λ (t : Step). line.OfScript t) s.steps ++ flat_map lines_of_steps ss)) refl (steps_other s.steps (flat_map lines_of_steps ss) (scripts_other ss))

-- ---- the lines of a text

cut_line : (l rest : List ℕ) → is_line l ≡ true → parts_at 10 (l ++ 10 ∷ rest) ≡ l ∷ parts_at 10 rest
cut_line l rest is = cut_at 10 l rest (parts_at 10 rest) (whole l (not_true (list_any is_newline l) is)) refl
  where
    neither : (a b : Bool) → (a || b) ≡ false → a ≡ false
    neither true b e = e
    neither false b e = refl

    other : (a b : Bool) → (a || b) ≡ false → b ≡ false
    other true b e = absurd (false≢true (sym e))
    other false b e = e

    whole : (xs : List ℕ) → list_any is_newline xs ≡ false → IsWithout 10 xs
    whole [] e = λ k d lt. absurd (omega (arith, lt))
    whole (x ∷ xs) e = without_one 10 x xs (neither (x == 10) (list_any is_newline xs) e) (whole xs (other (x == 10) (list_any is_newline xs) e))

cut_lines : (lines : List (List ℕ)) (rest : List ℕ) → list_all is_line lines ≡ true → parts_at 10 (laid lines ++ rest) ≡ lines ++ parts_at 10 rest
cut_lines [] rest are = refl
cut_lines (l ∷ ls) rest are =
    ap (parts_at 10) (append_assoc l (10 ∷ laid ls) rest)
    ∙ cut_line l (laid ls ++ rest) (first_true (is_line l) (list_all is_line ls) are)
    ∙ ap (λ (xs : List (List ℕ)). l ∷ xs) (cut_lines ls rest (rest_true (is_line l) (list_all is_line ls) are))

-- the lines before `ndb`
lines_in : (lines : List (List ℕ)) (behind : List ℕ) → list_all is_line lines ≡ true → list_all is_other lines ≡ true
    → texts_of (step_lines (laid lines ++ (codes "ndb\n" ++ behind))) ≡ own_texts false lines
lines_in lines behind are other =
    ap (λ (xs : List (List ℕ)). texts_of (step_lines_from false 1 xs)) (cut_lines lines (codes "ndb\n" ++ behind) are)
    ∙ ap (λ (xs : List (List ℕ)). texts_of (step_lines_from false 1 (lines ++ xs))) (cut_line (codes "ndb") behind refl)
    ∙ lines_told false 1 lines (parts_at 10 behind) other

lines_at_end : (lines : List (List ℕ)) → list_all is_line lines ≡ true → list_all is_other lines ≡ true
    → texts_of (step_lines (laid lines ++ codes "ndb")) ≡ own_texts false lines
lines_at_end lines are other =
    ap (λ (xs : List (List ℕ)). texts_of (step_lines_from false 1 xs)) (cut_lines lines (codes "ndb") are) ∙ lines_told false 1 lines [] other

-- the last byte
abbrev last_of : ℕ → List ℕ → ℕ
last_of b [] = b
last_of b (c ∷ cs) = last_of c cs

last_behind : (b : ℕ) (xs : List ℕ) (c : ℕ) (cs : List ℕ) → last_of b (xs ++ c ∷ cs) ≡ last_of c cs
last_behind b [] c cs = refl
last_behind b (x ∷ xs) c cs = last_behind x xs c cs

no_newline : (lines front : List ℕ) → lines ++ codes "ndb" ≡ front ++ 10 ∷ [] → ⊥
no_newline lines front same = apart (sym (last_behind 0 lines 110 (100 ∷ 98 ∷ [])) ∙ (ap (last_of 0) same ∙ last_behind 0 front 10 []))
  where
    apart : (last_of 98 [] ≡ last_of 10 []) → ⊥
    apart e = absurd (omega (arith, e))

module _ (text behind : List ℕ) (w : World) (is : IsWorldText text w) where
  -- the lines of links, hosts and scripts
  abbrev rest : List WorldLine
  rest = map (λ (l : MediumLine). line.OfMedium l) is.media ++ (flat_map lines_of_text is.hosts ++ flat_map lines_of_steps is.scripts)

  other : list_all is_other is.head ≡ true
  other =
      all_other is.head
      (subst (λ (ls : List (List ℕ)). list_all is_other ls ≡ true) (sym is.spelled)
      (one_other (line_spelling (line.Networld w.timers)) (line_spelling (line.End w.end) ∷ line_spelling (line.Seed w.seed) ∷ map line_spelling rest) (kind w.timers)
      (one_other (line_spelling (line.End w.end)) (line_spelling (line.Seed w.seed) ∷ map line_spelling rest) refl
      (one_other (line_spelling (line.Seed w.seed)) (map line_spelling rest) refl
      (media_other is.media (flat_map lines_of_text is.hosts ++ flat_map lines_of_steps is.scripts)
      (hosts_other is.hosts (flat_map lines_of_steps is.scripts) (scripts_other is.scripts)))))))
    where
      kind : (t : Timers) → is_other (line_spelling (line.Networld t)) ≡ true
      kind t = refl

  steps_are : own_texts false is.head ≡ step_spellings w
  steps_are =
      sym (only_speaking false is.head)
      ∙ ap (own_texts false) is.spelled
      ∙ early_media is.media (flat_map lines_of_text is.hosts ++ flat_map lines_of_steps is.scripts)
      ∙ early_hosts is.hosts (flat_map lines_of_steps is.scripts)
      ∙ of_scripts false is.scripts
      ∙ sym (ap (flat_map steps_spelled) is.scripts_are ∙ same_steps (host_names w.hosts) is.scripts)

  pub have_lines : EndsLine text behind → texts_of (step_lines (text ++ behind)) ≡ step_spellings w
  have_lines ends = by is.parts ends
    where
      by : IsHeaded text is.head is.bundle → EndsLine text behind → texts_of (step_lines (text ++ behind)) ≡ step_spellings w
      by (inl parts) e =
          ap (λ (t : List ℕ). texts_of (step_lines (t ++ behind))) parts
          ∙ ap (λ (t : List ℕ). texts_of (step_lines t)) (append_assoc (laid is.head) (codes "ndb\n" ++ is.bundle) behind)
          ∙ lines_in is.head (is.bundle ++ behind) is.whole other
          ∙ steps_are
      by (inr (parts, none)) (inl nothing) =
          ap (λ (t : List ℕ). texts_of (step_lines (text ++ t))) nothing
          ∙ ap (λ (t : List ℕ). texts_of (step_lines t)) (append-nil text ∙ parts)
          ∙ lines_at_end is.head is.whole other
          ∙ steps_are
      by (inr (parts, none)) (inr (front, ended)) = absurd (no_newline (laid is.head) front (sym parts ∙ ended))
