-- Steps of the loops.
use Rattle.std.proofs.Common.{◌≡◌, ℕ, zero, suc, ◌+◌, ◌<◌, ◌≤◌, ◌||◌, Bool, true, false, cond, List, [], ◌∷◌, ◌++◌, length, drop, get_or, Option, refl, ap, sym, subst, ◌∙◌, append_assoc, arith}
use Rattle.std.specs.List.{list_any}
use Rattle.net_base.specs.declared.history.Entry.{Entry}
use Rattle.net_chart.specs.declared.place.Page.{Page}
use Rattle.net_chart.specs.declared.thing.Thing.{Thing}
use Rattle.net_chart.specs.Drawing.{drawing_of, drawn_text}
use Rattle.net_chart.specs.Frames.{same_frame}
use Rattle.net_chart.specs.Sights.{sight_of}
use Rattle.net_chart.specs.Things.{Drawn, Past, arrives_in, drawn_of, is_copy, past_after, thing_at, things_from}
use Rattle.net_base.proofs.Shared.{past_all}

-- Lists.

dropped_next : {A : Type 0} (es : List A) (i : ℕ) (x : A) → i < length es → x ≡ get_or es i x → drop i es ≡ x ∷ drop (suc i) es
dropped_next [] i x lt is = absurd (omega (arith, lt))
dropped_next (y ∷ ys) zero x lt is = ap (λ z. z ∷ ys) (sym is)
dropped_next (y ∷ ys) (suc i) x lt is = dropped_next ys i x (omega (arith, lt)) is

-- an element and those behind it
pub dropped : {A : Type 0} (es : List A) (i : ℕ) (x : A) → i < length es → x ≡ get_or es i x → drop i es ≡ x ∷ drop (i + 1) es
dropped es i x lt is = let e : suc i ≡ i + 1 = omega arith in dropped_next es i x lt is ∙ ap (λ (k : ℕ). x ∷ drop k es) e

-- Copies that come.

-- a key that is found so far, at this entry or later
found_more : (found here later all : Bool) → (found || (here || later)) ≡ all → (cond here true found || later) ≡ all
found_more true true later all is = is
found_more true false later all is = is
found_more false true later all is = is
found_more false false later all is = is

or_false : (b : Bool) → b ≡ (b || false)
or_false true = refl
or_false false = refl

pub copies_more : (es : List Entry) (i : ℕ) (x : Entry) (old new : List (ℕ × ℕ)) → i < length es → x ≡ get_or es i x
    → ((key : ℕ × ℕ) → list_any (same_frame key) new ≡ cond (is_copy key (sight_of x)) true (list_any (same_frame key) old))
    → ((key : ℕ × ℕ) → (list_any (same_frame key) old || arrives_in (drop i es) key) ≡ arrives_in es key)
    → (key : ℕ × ℕ) → (list_any (same_frame key) new || arrives_in (drop (i + 1) es) key) ≡ arrives_in es key
copies_more es i x old new lt is more are key =
    ap (λ (b : Bool). b || arrives_in (drop (i + 1) es) key) (more key)
    ∙ found_more (list_any (same_frame key) old) (is_copy key (sight_of x)) (arrives_in (drop (i + 1) es) key) (arrives_in es key)
    (subst (λ (ys : List Entry). (list_any (same_frame key) old || arrives_in ys key) ≡ arrives_in es key) (dropped es i x lt is) (are key))

pub copies_all : (es : List Entry) (i : ℕ) (keys : List (ℕ × ℕ)) → length es ≤ i
    → ((key : ℕ × ℕ) → (list_any (same_frame key) keys || arrives_in (drop i es) key) ≡ arrives_in es key)
    → (key : ℕ × ℕ) → list_any (same_frame key) keys ≡ arrives_in es key
copies_all es i keys le are key =
    or_false (list_any (same_frame key) keys)
    ∙ ap (λ (ys : List Entry). list_any (same_frame key) keys || arrives_in ys key) (sym (past_all es i le))
    ∙ are key

-- Things.

-- things behind others are drawn behind them
pub drawn_both : (page : Page) (xs ys : List Drawn) → drawing_of page (xs ++ ys) ≡ drawing_of page xs ++ drawing_of page ys
drawn_both page [] ys = refl
drawn_both page (x ∷ xs) ys =
    ap (λ rest. drawn_text page x ++ rest) (drawn_both page xs ys) ∙ sym (append_assoc (drawn_text page x) (drawing_of page xs) (drawing_of page ys))

pub things_more : (page : Page) (brief : Bool) (h es : List Entry) (i : ℕ) (x : Entry) (past after : Past) (thing : Option Thing) (out new all : List ℕ)
    → i < length es → x ≡ get_or es i x → thing ≡ thing_at brief h past x → after ≡ past_after brief h past x
    → new ≡ out ++ drawing_of page (drawn_of x thing) → out ++ drawing_of page (things_from brief h past (drop i es)) ≡ all
    → new ++ drawing_of page (things_from brief h after (drop (i + 1) es)) ≡ all
things_more page brief h es i x past after thing out new all lt is thing_is after_is more whole =
    let rest = drawing_of page (things_from brief h (past_after brief h past x) (drop (i + 1) es)) in
    ap (λ (p : Past). new ++ drawing_of page (things_from brief h p (drop (i + 1) es))) after_is
    ∙ ap (λ (xs : List ℕ). xs ++ rest) (more ∙ ap (λ (t : Option Thing). out ++ drawing_of page (drawn_of x t)) thing_is)
    ∙ append_assoc out (drawing_of page (drawn_of x (thing_at brief h past x))) rest
    ∙ ap (λ (xs : List ℕ). out ++ xs)
    (sym (drawn_both page (drawn_of x (thing_at brief h past x)) (things_from brief h (past_after brief h past x) (drop (i + 1) es))))
    ∙ ap (λ (ys : List Entry). out ++ drawing_of page (things_from brief h past ys)) (sym (dropped es i x lt is))
    ∙ whole
