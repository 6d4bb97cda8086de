-- The lines of a text, one after the other.
use Rattle.std.proofs.Common.{◌≡◌, ℕ, ◌<◌, Bool, true, false, cond, List, [], ◌∷◌, ◌++◌, length, Option, Some, None, Bor, sym, ap, subst, ◌∙◌, append_assoc, append-nil, arith}
use Rattle.std.specs.Prelude.{MatchOption, bytes_eq, codes, option_copied}
use Rattle.net_base.specs.Addresses.{parts_at}
use Rattle.replay_views.specs.declared.world_steps.StepLine.{StepLine}
use Rattle.replay_views.specs.WorldSteps.{goes_under, lines_count, step_lines_from, lines_left, next_number, own_line}

-- a line, and what is left behind it
abbrev pub Cuts : List ℕ → List ℕ → Option (List ℕ) → Type 0
Cuts text line None = parts_at 10 text ≡ line ∷ []
Cuts text line (Some rest) = parts_at 10 text ≡ line ∷ parts_at 10 rest

pub cut_by : (text line : List ℕ) (o : Option (Bor (List ℕ)))
    → MatchOption o (parts_at 10 text ≡ line ∷ []) (λ (rest : Bor (List ℕ)). parts_at 10 text ≡ line ∷ parts_at 10 rest.now)
    → Cuts text line (option_copied o)
cut_by text line None cut = cut
cut_by text line (Some rest) cut = cut

behind_is : (text line : List ℕ) (rest : Option (List ℕ)) (under : Bool) (n : ℕ) → Cuts text line rest
    → step_lines_from under n (parts_at 10 text) ≡ cond (bytes_eq line (codes "ndb")) [] (own_line under n line ++ lines_left (goes_under under line) (next_number n) rest)
behind_is text line None under n cut = ap (step_lines_from under n) cut
behind_is text line (Some rest) under n cut = ap (step_lines_from under n) cut

-- a line more
pub line_more : (lines new all : List StepLine) (under : Bool) (n : ℕ) (text line : List ℕ) (rest : Option (List ℕ)) → Cuts text line rest
    → bytes_eq line (codes "ndb") ≡ false → new ≡ lines ++ own_line under n line → lines ++ step_lines_from under n (parts_at 10 text) ≡ all
    → new ++ lines_left (goes_under under line) (next_number n) rest ≡ all
line_more lines new all under n text line rest cut other is whole =
    let left = lines_left (goes_under under line) (next_number n) rest in
    ap (λ (xs : List StepLine). xs ++ left) is
    ∙ append_assoc lines (own_line under n line) left
    ∙ ap (λ (b : Bool). lines ++ cond b [] (own_line under n line ++ left)) (sym other)
    ∙ ap (λ (xs : List StepLine). lines ++ xs) (sym (behind_is text line rest under n cut))
    ∙ whole

-- the last line is `ndb`
pub line_last : (lines all : List StepLine) (under : Bool) (n : ℕ) (text line : List ℕ) (rest : Option (List ℕ)) → Cuts text line rest
    → bytes_eq line (codes "ndb") ≡ true → lines ++ step_lines_from under n (parts_at 10 text) ≡ all → lines ≡ all
line_last lines all under n text line rest cut last whole =
    sym (append-nil lines)
    ∙ ap (λ (b : Bool). lines ++ cond b [] (own_line under n line ++ lines_left (goes_under under line) (next_number n) rest)) (sym last)
    ∙ ap (λ (xs : List StepLine). lines ++ xs) (sym (behind_is text line rest under n cut))
    ∙ whole

-- fewer lines are left
pub fewer : (text line : List ℕ) (rest : Option (List ℕ)) → Cuts text line rest → lines_count rest < length (parts_at 10 text)
fewer text line None cut = omega (arith, ap (λ (ls : List (List ℕ)). length ls) cut)
fewer text line (Some rest) cut = omega (arith, ap (λ (ls : List (List ℕ)). length ls) cut)

-- The lines of a text that was the rest.

rest_is : (o : Option (Bor (List ℕ))) (part : Bor (List ℕ)) (under : Bool) (n : ℕ) → o ≡ Some part
    → lines_left under n (option_copied o) ≡ step_lines_from under n (parts_at 10 part.now)
rest_is o part under n is = ap (λ (p : Option (Bor (List ℕ))). lines_left under n (option_copied p)) is

pub goes_on : (lines new all : List StepLine) (under u : Bool) (n m : ℕ) (o rest : Option (Bor (List ℕ))) (part : Bor (List ℕ)) (line : List ℕ) → o ≡ Some part
    → MatchOption rest (parts_at 10 part.now ≡ line ∷ []) (λ (r : Bor (List ℕ)). parts_at 10 part.now ≡ line ∷ parts_at 10 r.now)
    → bytes_eq line (codes "ndb") ≡ false → new ≡ lines ++ own_line under n line → u ≡ goes_under under line → m ≡ next_number n
    → lines ++ lines_left under n (option_copied o) ≡ all → new ++ lines_left u m (option_copied rest) ≡ all
goes_on lines new all under u n m o rest part line is cut other more under_is n_is whole =
    ap (λ (v : Bool). new ++ lines_left v m (option_copied rest)) under_is
    ∙ ap (λ (k : ℕ). new ++ lines_left (goes_under under line) k (option_copied rest)) n_is
    ∙ line_more lines new all under n part.now line (option_copied rest) (cut_by part.now line rest cut) other more
    (ap (λ (xs : List StepLine). lines ++ xs) (sym (rest_is o part under n is)) ∙ whole)

pub ends : (lines all : List StepLine) (under : Bool) (n : ℕ) (o rest : Option (Bor (List ℕ))) (part : Bor (List ℕ)) (line : List ℕ) → o ≡ Some part
    → MatchOption rest (parts_at 10 part.now ≡ line ∷ []) (λ (r : Bor (List ℕ)). parts_at 10 part.now ≡ line ∷ parts_at 10 r.now)
    → bytes_eq line (codes "ndb") ≡ true → lines ++ lines_left under n (option_copied o) ≡ all → lines ≡ all
ends lines all under n o rest part line is cut last whole =
    line_last lines all under n part.now line (option_copied rest) (cut_by part.now line rest cut) last
    (ap (λ (xs : List StepLine). lines ++ xs) (sym (rest_is o part under n is)) ∙ whole)

pub fewer_left : (o rest : Option (Bor (List ℕ))) (part : Bor (List ℕ)) (line : List ℕ) → o ≡ Some part
    → MatchOption rest (parts_at 10 part.now ≡ line ∷ []) (λ (r : Bor (List ℕ)). parts_at 10 part.now ≡ line ∷ parts_at 10 r.now)
    → lines_count (option_copied rest) < lines_count (option_copied o)
fewer_left o rest part line is cut =
    subst (λ (p : Option (Bor (List ℕ))). lines_count (option_copied rest) < lines_count (option_copied p)) (sym is)
    (fewer part.now line (option_copied rest) (cut_by part.now line rest cut))
