-- The text of a fit line is read as this line.
use Rattle.std.proofs.Common.{◌≡◌, ℕ, ◌<◌, ◌≤◌, ◌^◌, ◌||◌, Bool, true, false, List, [], ◌∷◌, ◌++◌, length, get_or, refl, sym, ap, ◌∙◌, arith, lit<, Option, Some, None, Ok, Err}
use Rattle.std.specs.Prelude.{bytes_eq, codes, decimal, nat_le, nat_lt, Result}
use Rattle.std.proofs.lemmas.Bool.{and_parts, or_parts}
use Rattle.std.proofs.lemmas.Bool.Decides.{nat_tests}
use Rattle.std.proofs.lemmas.Option.{none-some, same_Some}
use Rattle.net_base.specs.Addresses.{parts_at}
use Rattle.net_base.specs.StepWords.{is_step, is_within}
use Rattle.net_base.specs.declared.world.Step.{Step}
use Rattle.net_base.specs.declared.world.Step.TheVariants as step
use Rattle.net_base.proofs.Shared.{IsWithout, cut_at, decimal_without, number-back}
use Rattle.world_text.specs.LineFit.{is_fit}
use Rattle.world_text.specs.LineReading as line
use Rattle.world_text.specs.LineReading.{step_in_line, step_read, word_line, words_line}
use Rattle.world_text.specs.WorldSpelling.{line_spelling, line_of_step}
use Rattle.world_text.specs.declared.line.LineCause.{LineCause}
use Rattle.world_text.specs.declared.line.WorldLine.{WorldLine}
use Rattle.world_text.specs.declared.line.WorldLine.TheVariants as written
use Rattle.live_lines.specs.declared.action.Action.{Action}
use Rattle.live_lines.specs.declared.action.Action.TheVariants as action
use Rattle.live_lines.specs.declared.cause.LiveCause.{LiveCause}
use Rattle.live_lines.specs.declared.line.LiveLine.{LiveLine}
use Rattle.live_lines.specs.LiveLines.{action_of, deadline_in, deadlined, is_ignored, is_world_word, line_of, place_in, placed, read_line, some_line, step_of, step_result, stepped}
use Rattle.live_lines.specs.LiveSpelling.{action_spelling, is_fit_action, is_fit_line, line_spelled}
use Rattle.live_lines.proofs.Steps.{line_is_step}

-- Steps.

-- the text of each fit line of a world file is read as this line
abbrev pub AreRead : Type 0
AreRead = (l : WorldLine) → is_fit l ≡ true → line.read_line (line_spelling l) ≡ Ok l

-- a word that is no step and no action
abbrev is_other_word : List ℕ → Bool
is_other_word word = bytes_eq word (codes "by") || (bytes_eq word (codes "cancel") || (bytes_eq word (codes "end") || is_world_word word))

abbrev first_of : List (List ℕ) → List ℕ
first_of words = get_or words 0 []

-- a step begins with a word of its own
first-is : (s : Step) → is_other_word (first_of (parts_at 32 (line_of_step s))) ≡ false
first-is (step.Open name path mode) = refl
first-is (step.Read name count) = refl
first-is (step.Write name text) = refl
first-is (step.Writex name text) = refl
first-is (step.Close name) = refl
first-is (step.Ls path) = refl
first-is (step.Cs query) = refl
first-is (step.Until moment) = refl
first-is step.Refresh = refl
first-is (step.Dial name address) = refl
first-is (step.Announce name address) = refl
first-is (step.Listen name from) = refl
first-is (step.Accept name from) = refl
first-is (step.Reject name) = refl
first-is (step.Hangup name) = refl
first-is (step.Hread name count) = refl
first-is (step.Hwrite name bytes) = refl
first-is (step.Dns name times) = refl
first-is (step.Export name) = refl
first-is (step.Import name) = refl
first-is (step.Ropen name call path mode) = refl
first-is (step.Rread name count) = refl
first-is (step.Rwrite name text) = refl
first-is (step.Rclose name) = refl

abbrev ok_line : Result WorldLine LineCause → Option WorldLine
ok_line (Ok l) = Some l
ok_line (Err c) = None

abbrev step_of_line : WorldLine → Option Step
step_of_line (written.OfScript s) = Some s
step_of_line _ = None

-- a step that is read of a line
step-is : (o : Option (Option Step)) (s : Step) → ok_line (step_read o) ≡ Some (written.OfScript s) → step_result o ≡ Ok s
step-is None s e = absurd (none-some (written.OfScript s) e)
step-is (Some None) s e = absurd (none-some (written.OfScript s) e)
step-is (Some (Some t)) s e =
    let same = same_Some (written.OfScript t) (written.OfScript s) e in
    ap (λ (u : Step). Ok u) (same_Some t s (ap step_of_line same))

-- the words of a step, by the first one
abbrev IsStepWords : List (List ℕ) → Step → Type 0
IsStepWords words s = (step_of words ≡ Ok s) × (is_other_word (first_of words) ≡ false)

world-not : (word : List ℕ) → is_other_word word ≡ false → is_world_word word ≡ false
world-not word not =
    let a = or_parts (bytes_eq word (codes "by")) _ not in
    let b = or_parts (bytes_eq word (codes "cancel")) _ a.1 in
    (or_parts (bytes_eq word (codes "end")) (is_world_word word) b.1).1

step-back-by : (text : List ℕ) (words : List (List ℕ)) (s : Step) → parts_at 32 text ≡ words → line.read_line text ≡ Ok (written.OfScript s)
    → is_other_word (first_of words) ≡ false → step_of words ≡ Ok s
step-back-by text [] s are read not = absurd (none-some (written.OfScript s) (ap ok_line (ap words_line (sym are) ∙ read)))
step-back-by text (word ∷ args) s are read not =
    step-is (step_in_line word args) s (ap ok_line (sym (line_is_step args word (world-not word not)) ∙ (ap words_line (sym are) ∙ read)))

step-back : AreRead → (s : Step) → is_step s ≡ true → IsStepWords (parts_at 32 (line_of_step s)) s
step-back law s fit = (step-back-by (line_of_step s) (parts_at 32 (line_of_step s)) s refl (law (written.OfScript s) fit) (first-is s), first-is s)

-- Actions.

abbrev ok_step : Result Step LiveCause → Option Step
ok_step (Ok t) = Some t
ok_step (Err c) = None

plain-back : (words : List (List ℕ)) (s : Step) → IsStepWords words s → action_of words ≡ Ok (action.Step None s)
plain-back [] s is = absurd (none-some s (ap ok_step is.0))
plain-back (word ∷ args) s is =
    let a = or_parts (bytes_eq word (codes "by")) _ is.1 in
    let b = or_parts (bytes_eq word (codes "cancel")) _ a.1 in
    let c = or_parts (bytes_eq word (codes "end")) (is_world_word word) b.1 in
    rw (a.0, b.0, c.0) (ap stepped is.0)

by-back : (m : ℕ) (text : List ℕ) (s : Step) → is_within 1 1000000000 m ≡ true → m < 2 ^ 64 → step_of (parts_at 32 text) ≡ Ok s
    → action_of (parts_at 32 (codes "by" ++ 32 ∷ (decimal m ++ 32 ∷ text))) ≡ Ok (action.Step (Some m) s)
by-back m text s fit small is =
    let cut = cut_at 32 (decimal m) text (parts_at 32 text) (decimal_without m 32 small (omega arith)) refl in
    ap (λ (ws : List (List ℕ)). action_of (codes "by" ∷ ws)) cut
    ∙ (ap (λ (r : Result Step LiveCause). deadlined r (deadline_in (decimal m))) is
    ∙ ap (λ (o : Option ℕ). deadlined (Ok s) o) (number-back 1 1000000000 m (lit< tt) fit))

small-number : (least most n : ℕ) → most < 2 ^ 64 → is_within least most n ≡ true → n < 2 ^ 64
small-number least most n fits fit =
    let both = and_parts (nat_le least n) (nat_le n most) fit in
    grind (arith, nat_tests, fits, both.1)

action-back : AreRead → (a : Action) → is_fit_action a ≡ true → action_of (parts_at 32 (action_spelling a)) ≡ Ok a
action-back law (action.Step None s) fit = plain-back (parts_at 32 (line_of_step s)) s (step-back law s fit)
action-back law (action.Step (Some m) s) fit =
    let both = and_parts (is_within 1 1000000000 m) (is_step s) fit in
    by-back m (line_of_step s) s both.0 (small-number 1 1000000000 m (lit< tt) both.0) (step-back law s both.1).0
action-back law action.Cancel fit = refl
action-back law action.End fit = refl

-- Lines.

-- a line that begins with the number of a place is no comment
spoken : (number rest : List ℕ) → IsWithout 35 number → is_ignored (number ++ 32 ∷ rest) ≡ false
spoken [] rest without = refl
spoken (b ∷ bs) rest without = without 0 0 (omega arith)

line-words : AreRead → (p : ℕ) (a : Action) → is_within 0 31 p ≡ true → is_fit_action a ≡ true → line_of (parts_at 32 (decimal p ++ 32 ∷ action_spelling a)) ≡ Ok (record { place = p; action = a })
line-words law p a place fit =
    let cut = cut_at 32 (decimal p) (action_spelling a) (parts_at 32 (action_spelling a)) (decimal_without p 32 (small-number 0 31 p (lit< tt) place) (omega arith)) refl in
    ap line_of cut
    ∙ (ap (λ (r : Result Action LiveCause). placed r (place_in (decimal p))) (action-back law a fit)
    ∙ ap (λ (o : Option ℕ). placed (Ok a) o) (number-back 0 31 p (lit< tt) place))

read-by : (line : List ℕ) (l : LiveLine) → nat_lt 65536 (length line) ≡ false → is_ignored line ≡ false → line_of (parts_at 32 line) ≡ Ok l → read_line line ≡ Ok (Some l)
read-by line l short loud is = rw (short, loud) (ap some_line is)

not-long : (n : ℕ) → n ≤ 65536 → nat_lt 65536 n ≡ false
not-long n short = grind (arith, nat_tests, short)

pub line-back : AreRead → (l : LiveLine) → is_fit_line l ≡ true → length (line_spelled l) ≤ 65536 → read_line (line_spelled l) ≡ Ok (Some l)
line-back law l fit short =
    let both = and_parts (is_within 0 31 l.place) (is_fit_action l.action) fit in
    read-by (line_spelled l) l (not-long (length (line_spelled l)) short)
    (spoken (decimal l.place) (action_spelling l.action) (decimal_without l.place 35 (small-number 0 31 l.place (lit< tt) both.0) (omega arith)))
    (line-words law l.place l.action both.0 both.1)
