-- An accepted line is the one text of its value.
use Rattle.std.proofs.Common.{◌≡◌, ℕ, ◌==◌, Bool, true, false, cond, List, [], ◌∷◌, ◌++◌, length, get_or, drop, refl, sym, ap, ◌∙◌, subst, arith, lit<, Option, Some, None, Ok, Err}
use Rattle.std.specs.Prelude.{bytes_eq, codes, nat_lt, Result, if◌then◌else◌}
use Rattle.std.specs.List.{onto_first}
use Rattle.std.specs.Option.{option_and_then}
use Rattle.std.proofs.lemmas.Bool.{and_from, and_parts}
use Rattle.std.proofs.lemmas.Bool.Decides.{nat_tests}
use Rattle.std.proofs.lemmas.Option.{none-some, same_Some}
use Rattle.std.proofs.lemmas.List.Splits.{join_with_byte-slice_split}
use Rattle.net_base.specs.Addresses.{is_padded, number_in, parts_at, read_digits, within}
use Rattle.net_base.specs.StepWords.{is_step, is_within}
use Rattle.net_base.specs.declared.world.Step.{Step}
use Rattle.net_base.proofs.Shared.{equal_texts, number_in-spelled}
use Rattle.world_text.specs.LineFit.{is_fit}
use Rattle.world_text.specs.LineReading as line
use Rattle.world_text.specs.LineReading.{step_in_line, step_read, word_line, words_line}
use Rattle.world_text.specs.WorldSpelling.{line_spelling, line_of_step}
use Rattle.world_text.specs.WorldWords.{words_left}
use Rattle.world_text.specs.declared.line.WorldLine.{WorldLine}
use Rattle.world_text.specs.declared.line.WorldLine.TheVariants as written
use Rattle.live_lines.specs.declared.action.Action.{Action}
use Rattle.live_lines.specs.declared.action.Action.TheVariants as action
use Rattle.live_lines.specs.declared.cause.LiveCause.{LiveCause}
use Rattle.live_lines.specs.declared.cause.LiveCause.TheVariants as cause
use Rattle.live_lines.specs.declared.line.LiveLine.{LiveLine}
use Rattle.live_lines.specs.LiveLines.{action_of, alone, by_of, deadline_in, deadlined, is_ignored, is_world_word, line_of, place_in, placed, read_line, some_line, step_of, step_result, stepped}
use Rattle.live_lines.specs.LiveSpelling.{action_spelling, is_fit_action, is_fit_line, line_spelled}
use Rattle.live_lines.proofs.Steps.{line_is_step, no_step}

-- Lists and results.

head_is : (a b : List ℕ) (xs ys : List (List ℕ)) → a ∷ xs ≡ b ∷ ys → a ≡ b
head_is a b xs ys e = ap (λ (l : List (List ℕ)). get_or l 0 []) e

tail_is : (a b : List ℕ) (xs ys : List (List ℕ)) → a ∷ xs ≡ b ∷ ys → xs ≡ ys
tail_is a b xs ys e = ap (λ (l : List (List ℕ)). drop 1 l) e

abbrev ok_of : {A : Type 0} → Result A LiveCause → Option A
ok_of (Ok x) = Some x
ok_of (Err c) = None

same-ok : {A : Type 0} (x y : A) → ok_of (Ok x) ≡ ok_of (Ok y) → x ≡ y
same-ok x y e = same_Some x y e

-- A line that is cut at its first blank.

record Cut (text p : List ℕ) (words : List (List ℕ)) : Type 0 where
  pub rest : List ℕ
  pub is : text ≡ p ++ 32 ∷ rest
  pub words_are : parts_at 32 rest ≡ words

-- a text with one more byte, which is no blank
cut-more : (x : ℕ) (xs h p q : List ℕ) (words : List (List ℕ)) → Cut xs h (q ∷ words) → x ∷ h ≡ p → Cut (x ∷ xs) p (q ∷ words)
cut-more x xs h p q words cut is =
    record { rest = cut.rest; is = ap (λ (t : List ℕ). x ∷ t) cut.is ∙ ap (λ (t : List ℕ). t ++ 32 ∷ cut.rest) is; words_are = cut.words_are }

cut-at : (x : ℕ) (xs p q : List ℕ) (words : List (List ℕ)) → ((h : List ℕ) → parts_at 32 xs ≡ h ∷ q ∷ words → Cut xs h (q ∷ words))
    → (b : Bool) → (x == 32) ≡ b → (parts : List (List ℕ)) → parts_at 32 xs ≡ parts → cond b ([] ∷ parts) (onto_first x parts) ≡ p ∷ q ∷ words
    → Cut (x ∷ xs) p (q ∷ words)
cut-at x xs p q words again true blank parts are e =
    let x_is : x ≡ 32 = grind (arith, nat_tests, blank) in
    record {
      rest = xs;
      is = ap (λ (y : ℕ). y ∷ xs) x_is ∙ ap (λ (t : List ℕ). t ++ 32 ∷ xs) (head_is [] p parts (q ∷ words) e);
      words_are = are ∙ tail_is [] p parts (q ∷ words) e;
    }
cut-at x xs p q words again false blank [] are e =
    let n = ap (λ (l : List (List ℕ)). length l) e in absurd (omega (arith, n))
cut-at x xs p q words again false blank (h ∷ rest) are e =
    cut-more x xs h p q words (again h (are ∙ ap (λ (l : List (List ℕ)). h ∷ l) (tail_is (x ∷ h) p rest (q ∷ words) e)))
    (head_is (x ∷ h) p rest (q ∷ words) e)

cut-first : (text p q : List ℕ) (words : List (List ℕ)) → parts_at 32 text ≡ p ∷ q ∷ words → Cut text p (q ∷ words)
cut-first [] p q words e = let n = ap (λ (l : List (List ℕ)). length l) e in absurd (omega (arith, n))
cut-first (x ∷ xs) p q words e = cut-at x xs p q words (λ h is. cut-first xs h q words is) (x == 32) refl (parts_at 32 xs) refl e

-- a text without a blank is its only word
one-word : (text word : List ℕ) → parts_at 32 text ≡ word ∷ [] → text ≡ word
one-word text word e = sym (join_with_byte-slice_split 32 text) ∙ ap (λ (l : List (List ℕ)). words_left l) e

-- Numbers.

within-some : (least greatest : ℕ) (b : Bool) (m n : ℕ) → is_within least greatest m ≡ b → (if b then Some m else None) ≡ Some n → is_within least greatest n ≡ true
within-some least greatest true m n is e = subst (λ (k : ℕ). is_within least greatest k ≡ true) (same_Some m n e) is
within-some least greatest false m n is e = absurd (none-some n e)

digits-within : (least greatest : ℕ) (o : Option ℕ) (n : ℕ) → option_and_then (within least greatest) o ≡ Some n → is_within least greatest n ≡ true
digits-within least greatest None n e = absurd (none-some n e)
digits-within least greatest (Some m) n e = within-some least greatest (is_within least greatest m) m n refl e

padded-within : (least greatest : ℕ) (b : Bool) (o : Option ℕ) (n : ℕ) → (if b then None else option_and_then (within least greatest) o) ≡ Some n → is_within least greatest n ≡ true
padded-within least greatest true o n e = absurd (none-some n e)
padded-within least greatest false o n e = digits-within least greatest o n e

number-within : (least greatest : ℕ) (word : List ℕ) (n : ℕ) → number_in least greatest word ≡ Some n → is_within least greatest n ≡ true
number-within least greatest word n e = padded-within least greatest (is_padded word) (read_digits 20 word) n e

-- Steps.

-- an accepted line of a world file is the one text of its value
abbrev pub AreSpelled : Type 0
AreSpelled = (text : List ℕ) (l : WorldLine) → line.read_line text ≡ Ok l → (text ≡ line_spelling l) × (is_fit l ≡ true)

-- what is read of a step line
abbrev IsStepText : List ℕ → Step → Type 0
IsStepText text s = (text ≡ line_of_step s) × (is_step s ≡ true)

step-ok : (o : Option (Option Step)) (s : Step) → ok_of (step_result o) ≡ Some s → o ≡ Some (Some s)
step-ok None s e = absurd (none-some s e)
step-ok (Some None) s e = absurd (none-some s e)
step-ok (Some (Some t)) s e = ap (λ (u : Step). Some (Some u)) (same_Some t s e)

step-line : (args : List (List ℕ)) (word : List ℕ) (s : Step) → (b : Bool) → is_world_word word ≡ b → step_in_line word args ≡ Some (Some s) → word_line word args ≡ Ok (written.OfScript s)
step-line args word s true is e = absurd (none-some (Some s) (sym (no_step args word is) ∙ e))
step-line args word s false is e = line_is_step args word is ∙ ap step_read e

step-by : AreSpelled → (text : List ℕ) (words : List (List ℕ)) (s : Step) → parts_at 32 text ≡ words → ok_of (step_of words) ≡ Some s → IsStepText text s
step-by law text [] s are e = absurd (none-some s e)
step-by law text (word ∷ args) s are e =
    law text (written.OfScript s) (ap words_line are ∙ step-line args word s (is_world_word word) refl (step-ok (step_in_line word args) s e))

-- Actions.

abbrev IsActionText : List ℕ → Action → Type 0
IsActionText text a = (text ≡ action_spelling a) × (is_fit_action a ≡ true)

as-action : (text : List ℕ) (a b : Action) → a ≡ b → IsActionText text a → IsActionText text b
as-action text a b same is = subst (λ (c : Action). IsActionText text c) same is

alone-by : (text word : List ℕ) (args : List (List ℕ)) (a b : Action) → parts_at 32 text ≡ word ∷ args → ok_of (alone args a) ≡ Some b
    → (text ≡ word → IsActionText text a) → IsActionText text b
alone-by text word [] a b are e is = as-action text a b (same_Some a b e) (is (one-word text word are))
alone-by text word (arg ∷ args) a b are e is = absurd (none-some b e)

-- a step without a deadline
stepped-by : (text : List ℕ) (read : Result Step LiveCause) (b : Action) → ((s : Step) → ok_of read ≡ Some s → IsStepText text s) → ok_of (stepped read) ≡ Some b → IsActionText text b
stepped-by text (Err c) b is e = absurd (none-some b e)
stepped-by text (Ok s) b is e = as-action text (action.Step None s) b (same_Some (action.Step None s) b e) (is s refl)

-- a step with a deadline
record IsByText (text m : List ℕ) (s : Step) (n : ℕ) : Type 0 where
  pub is : text ≡ codes "by" ++ 32 ∷ (m ++ 32 ∷ line_of_step s)
  pub fit : is_step s ≡ true

deadlined-by : (text m : List ℕ) (o : Option ℕ) (read : Result Step LiveCause) (b : Action) → deadline_in m ≡ o
    → ((s : Step) (n : ℕ) → ok_of read ≡ Some s → IsByText text m s n) → ok_of (deadlined read o) ≡ Some b → IsActionText text b
deadlined-by text m o (Err c) b num is e = absurd (none-some b e)
deadlined-by text m None (Ok s) b num is e = absurd (none-some b e)
deadlined-by text m (Some n) (Ok s) b num is e =
    let at = is s n refl in
    let word_is = (number_in-spelled 1 1000000000 m n (lit< tt) num).is in
    as-action text (action.Step (Some n) s) b (same_Some (action.Step (Some n) s) b e) (
      at.is ∙ ap (λ (w : List ℕ). codes "by" ++ 32 ∷ (w ++ 32 ∷ line_of_step s)) word_is,
      and_from (is_within 1 1000000000 n) (is_step s) (number-within 1 1000000000 m n num) at.fit,
    )

-- the words after `by`
after-by : AreSpelled → (text word m : List ℕ) (words : List (List ℕ)) → word ≡ codes "by" → parts_at 32 text ≡ word ∷ m ∷ words
    → (s : Step) (n : ℕ) → ok_of (step_of words) ≡ Some s → IsByText text m s n
after-by law text word m [] by_is are s n e = absurd (none-some s e)
after-by law text word m (q ∷ words) by_is are s n e =
    let first = cut-first text word m (q ∷ words) are in
    let second = cut-first first.rest m q words first.words_are in
    let step = step-by law second.rest (q ∷ words) s second.words_are e in
    record {
      is = first.is ∙ (ap (λ (w : List ℕ). w ++ 32 ∷ first.rest) by_is
          ∙ (ap (λ (t : List ℕ). codes "by" ++ 32 ∷ t) second.is ∙ ap (λ (t : List ℕ). codes "by" ++ 32 ∷ (m ++ 32 ∷ t)) step.0));
      fit = step.1;
    }

by-by : AreSpelled → (text word : List ℕ) (args : List (List ℕ)) (b : Action) → word ≡ codes "by" → parts_at 32 text ≡ word ∷ args → ok_of (by_of args) ≡ Some b → IsActionText text b
by-by law text word [] b by_is are e = absurd (none-some b e)
by-by law text word (m ∷ words) b by_is are e = deadlined-by text m (deadline_in m) (step_of words) b refl (after-by law text word m words by_is are) e

word-by : AreSpelled → (text word : List ℕ) (args : List (List ℕ)) (b : Action) → parts_at 32 text ≡ word ∷ args
    → (x : Bool) → bytes_eq word (codes "by") ≡ x → (y : Bool) → bytes_eq word (codes "cancel") ≡ y → (z : Bool) → bytes_eq word (codes "end") ≡ z
    → ok_of (if x then by_of args else (if y then alone args action.Cancel else (if z then alone args action.End else stepped (step_of (word ∷ args))))) ≡ Some b
    → IsActionText text b
word-by law text word args b are true x y ey z ez e = by-by law text word args b (equal_texts word (codes "by") x) are e
word-by law text word args b are false x true ey z ez e =
    alone-by text word args action.Cancel b are e (λ is. (is ∙ equal_texts word (codes "cancel") ey, refl))
word-by law text word args b are false x false ey true ez e =
    alone-by text word args action.End b are e (λ is. (is ∙ equal_texts word (codes "end") ez, refl))
word-by law text word args b are false x false ey false ez e =
    stepped-by text (step_of (word ∷ args)) b (λ s is. step-by law text (word ∷ args) s are is) e

action-by : AreSpelled → (text : List ℕ) (words : List (List ℕ)) (b : Action) → parts_at 32 text ≡ words → ok_of (action_of words) ≡ Some b → IsActionText text b
action-by law text [] b are e = absurd (none-some b e)
action-by law text (word ∷ args) b are e =
    word-by law text word args b are (bytes_eq word (codes "by")) refl (bytes_eq word (codes "cancel")) refl (bytes_eq word (codes "end")) refl e

-- Lines.

abbrev IsLineText : List ℕ → LiveLine → Type 0
IsLineText text l = (text ≡ line_spelled l) × (is_fit_line l ≡ true)

abbrev line_at : ℕ → Action → LiveLine
line_at p a = record { place = p; action = a }

placed-by : (text word : List ℕ) (o : Option ℕ) (read : Result Action LiveCause) (l : LiveLine) → place_in word ≡ o
    → ((a : Action) → ok_of read ≡ Some a → (text ≡ word ++ 32 ∷ action_spelling a) × (is_fit_action a ≡ true)) → ok_of (placed read o) ≡ Some l → IsLineText text l
placed-by text word o (Err c) l num is e = absurd (none-some l e)
placed-by text word None (Ok a) l num is e = absurd (none-some l e)
placed-by text word (Some p) (Ok a) l num is e =
    let at = is a refl in
    let word_is = (number_in-spelled 0 31 word p (lit< tt) num).is in
    subst (λ (k : LiveLine). IsLineText text k) (same_Some (line_at p a) l e) (
      at.0 ∙ ap (λ (w : List ℕ). w ++ 32 ∷ action_spelling a) word_is,
      and_from (is_within 0 31 p) (is_fit_action a) (number-within 0 31 word p num) at.1,
    )

after-place : AreSpelled → (text word : List ℕ) (words : List (List ℕ)) → parts_at 32 text ≡ word ∷ words
    → (a : Action) → ok_of (action_of words) ≡ Some a → (text ≡ word ++ 32 ∷ action_spelling a) × (is_fit_action a ≡ true)
after-place law text word [] are a e = absurd (none-some a e)
after-place law text word (q ∷ words) are a e =
    let cut = cut-first text word q words are in
    let rest = action-by law cut.rest (q ∷ words) a cut.words_are e in
    (cut.is ∙ ap (λ (t : List ℕ). word ++ 32 ∷ t) rest.0, rest.1)

line-by : AreSpelled → (text : List ℕ) (words : List (List ℕ)) (l : LiveLine) → parts_at 32 text ≡ words → ok_of (line_of words) ≡ Some l → IsLineText text l
line-by law text [] l are e = absurd (none-some l e)
line-by law text (word ∷ words) l are e = placed-by text word (place_in word) (action_of words) l refl (after-place law text word words are) e

abbrev some_of : {A : Type 0} → Result (Option A) LiveCause → Option A
some_of (Ok o) = o
some_of (Err c) = None

some-by : (read : Result LiveLine LiveCause) (l : LiveLine) → some_of (some_line read) ≡ Some l → ok_of read ≡ Some l
some-by (Err c) l e = e
some-by (Ok k) l e = e

read-by : AreSpelled → (text : List ℕ) (l : LiveLine) → (x : Bool) (y : Bool)
    → some_of (if x then Err cause.TooLong else (if y then Ok None else some_line (line_of (parts_at 32 text)))) ≡ Some l → IsLineText text l
read-by law text l true y e = absurd (none-some l e)
read-by law text l false true e = absurd (none-some l e)
read-by law text l false false e = line-by law text (parts_at 32 text) l refl (some-by (line_of (parts_at 32 text)) l e)

pub line-sound : AreSpelled → (text : List ℕ) (l : LiveLine) → read_line text ≡ Ok (Some l) → IsLineText text l
line-sound law text l e = read-by law text l (nat_lt 65536 (length text)) (is_ignored text) (ap some_of e)

-- What fits.

action-fits : (l : LiveLine) → is_fit_line l ≡ true → is_fit_action l.action ≡ true
action-fits l fit = (and_parts (is_within 0 31 l.place) (is_fit_action l.action) fit).1

step-of-fit : (by : Option ℕ) (s : Step) → is_fit_action (action.Step by s) ≡ true → is_step s ≡ true
step-of-fit None s fit = fit
step-of-fit (Some m) s fit = (and_parts (is_within 1 1000000000 m) (is_step s) fit).1

pub step-fits : (l : LiveLine) (by : Option ℕ) (s : Step) → l.action ≡ action.Step by s → is_fit_line l ≡ true → is_step s ≡ true
step-fits l by s is fit = step-of-fit by s (ap is_fit_action (sym is) ∙ action-fits l fit)

pub deadline-fits : (l : LiveLine) (m : ℕ) (s : Step) → l.action ≡ action.Step (Some m) s → is_fit_line l ≡ true → is_within 1 1000000000 m ≡ true
deadline-fits l m s is fit = (and_parts (is_within 1 1000000000 m) (is_step s) (ap is_fit_action (sym is) ∙ action-fits l fit)).0
