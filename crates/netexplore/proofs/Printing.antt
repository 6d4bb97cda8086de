-- The text of outcomes, one after another.
use Rattle.std.proofs.Common.{◌≡◌, ℕ, zero, suc, ◌+◌, ◌<◌, ◌≤◌, List, [], ◌∷◌, ◌++◌, drop, length, Option, Some, slice_get, refl, sym, ap, subst, ◌∙◌, arith}
use Rattle.std.specs.Prelude.{Err, IfOk, None, Ok, Result, codes}
use Rattle.std.proofs.lemmas.List.{append-nil, append_assoc, drop_all}
use Rattle.std.proofs.lemmas.Option.{none-some, same_Some}
use Rattle.net_base.specs.declared.world.World.{World}
use Rattle.net_model.specs.Answers.{Answer}
use Rattle.order_search.specs.Exact.{IsExact, IsPlain}
use Rattle.order_search.specs.Tellings.{IsSound}
use Rattle.order_search.specs.declared.search.Found.{Found}
use Rattle.order_search.specs.declared.search.Sought.{Sought}
use Rattle.order_search.specs.declared.tellings.Telling.{Telling}
use Rattle.netexplore.specs.Answers.{IsOutcomesAnswer}
use Rattle.netexplore.specs.Lines.{head_line, labelled, last_line, lines_at, losses_words, telling_text, tellings_text, told_status}
use Rattle.netexplore.specs.Words.{Span, parts_in}

-- three texts, one after another
joined : (out a b e one two three : List ℕ) → one ≡ out ++ a → two ≡ one ++ b → three ≡ two ++ e → three ≡ out ++ (a ++ (b ++ e))
joined out a b e one two three first second third =
    third
    ∙ (ap (λ (l : List ℕ). l ++ e) (second ∙ ap (λ (l : List ℕ). l ++ b) first) ∙ (append_assoc (out ++ a) b e ∙ append_assoc out a (b ++ e)))

-- four
joined_four : (out a b d e one two three four : List ℕ) → one ≡ out ++ a → two ≡ one ++ b → three ≡ two ++ d → four ≡ three ++ e
    → four ≡ out ++ (a ++ (b ++ (d ++ e)))
joined_four out a b d e one two three four first second third fourth =
    fourth
    ∙ (ap (λ (l : List ℕ). l ++ e) third
    ∙ (append_assoc two d e ∙ joined out a b (d ++ e) one two (two ++ (d ++ e)) first second refl))

pub head_written : (out one two three four : List ℕ) (n : ℕ) (losses : Option ℕ) (p : ℕ) → one ≡ out ++ labelled (codes "outcome ") n
    → two ≡ one ++ losses_words losses → three ≡ two ++ labelled (codes " preemptions ") p → four ≡ three ++ 10 ∷ [] → four ≡ out ++ head_line n losses p
unfolding head_line
head_written out one two three four n losses p first second third fourth =
    joined_four out (labelled (codes "outcome ") n) (losses_words losses) (labelled (codes " preemptions ") p) (10 ∷ []) one two three four first second third
    fourth

pub telling_written : (out one two three summary rest : List ℕ) (n : ℕ) (t : Telling) → one ≡ out ++ head_line n t.losses t.preemptions → summary ≡ t.summary
    → two ≡ one ++ summary → three ≡ two ++ rest → three ≡ out ++ telling_text n t rest
telling_written out one two three summary rest n t first is second third =
    joined out (head_line n t.losses t.preemptions) t.summary rest one two three first (second ∙ ap (λ (l : List ℕ). one ++ l) is) third

drop_one : (xs : List Telling) (n : ℕ) (x : Telling) → slice_get xs n ≡ Some x → drop n xs ≡ x ∷ drop (suc n) xs
drop_one [] n x is = absurd (none-some x is)
drop_one (y ∷ ys) zero x is = ap (λ (z : Telling). z ∷ ys) (same_Some y x is)
drop_one (y ∷ ys) (suc n) x is = drop_one ys n x is

drop_next : (xs : List Telling) (n : ℕ) (x : Telling) → slice_get xs n ≡ Some x → drop n xs ≡ x ∷ drop (n + 1) xs
drop_next xs n x is = let e : suc n ≡ n + 1 = omega arith in subst (λ (k : ℕ). drop n xs ≡ x ∷ drop k xs) e (drop_one xs n x is)

-- one outcome more is written
pub told_next : (lines : List (List ℕ)) (n : ℕ) (ts : List Telling) (t : Telling) (rest out new was : List ℕ) → slice_get ts n ≡ Some t
    → rest ≡ lines_at lines n → new ≡ out ++ telling_text n t rest → out ++ tellings_text lines n (drop n ts) ≡ was
    → new ++ tellings_text lines (n + 1) (drop (n + 1) ts) ≡ was
told_next lines n ts t rest out new was is lines_are more all =
    ap (λ (l : List ℕ). l ++ tellings_text lines (n + 1) (drop (n + 1) ts)) (more ∙ ap (λ (l : List ℕ). out ++ telling_text n t l) lines_are)
    ∙ (append_assoc out (telling_text n t (lines_at lines n)) (tellings_text lines (n + 1) (drop (n + 1) ts))
    ∙ (ap (λ (xs : List Telling). out ++ tellings_text lines n xs) (sym (drop_next ts n t is)) ∙ all))

-- all are
pub told_done : (lines : List (List ℕ)) (n : ℕ) (ts : List Telling) (out was : List ℕ) → length ts ≤ n
    → out ++ tellings_text lines n (drop n ts) ≡ was → out ≡ was
told_done lines n ts out was le all =
    sym (append-nil out) ∙ (ap (λ (xs : List Telling). out ++ tellings_text lines n xs) (sym (drop_all n ts le)) ∙ all)

-- the answer
pub outcomes_are : (w : World) (losses : Option ℕ) (span : Span) (found : Found) (ts : List Telling) (lines : List (List ℕ)) (text first middle : List ℕ) (status : ℕ)
    (answer : Answer) → IsSound w losses span.preemptions found → (losses ≡ None → parts_in span.part ≤ 1 → IsExact w span.preemptions span.limit found)
    → ts ≡ found.told.items → first ≡ [] → middle ≡ first ++ tellings_text lines 0 ts → text ≡ middle ++ last_line found.histories found.entries found.whole
    → status ≡ told_status found.whole ts → answer ≡ record { status = status; text = text } → IsOutcomesAnswer w losses span answer
outcomes_are w losses span found ts lines text first middle status answer sound exact same none one two status_is is = record {
  found = found;
  sound = sound.told;
  exact = exact;
  lines = lines;
  text = ap (λ (a : Answer). a.text) is
      ∙ (two ∙ ap (λ (l : List ℕ). l ++ last_line found.histories found.entries found.whole)
      (one ∙ (ap (λ (l : List ℕ). l ++ tellings_text lines 0 ts) none ∙ ap (tellings_text lines 0) same)));
  status = ap (λ (a : Answer). a.status) is ∙ (status_is ∙ ap (told_status found.whole) same);
}

-- the answer to what was found
pub found_answer : {E : Type 0} (given : Result Answer E) (w : World) (losses : Option ℕ) (span : Span) (s : Sought) (found : Found) → s.losses ≡ losses
    → s.preemptions ≡ span.preemptions → s.limit ≡ span.limit → (losses ≡ None → parts_in span.part ≤ 1 → IsPlain s) → IsSound w s.losses s.preemptions found
    → (IsPlain s → IsExact w s.preemptions s.limit found)
    → IfOk given (λ (a : Answer). (v : World) (l : Option ℕ) (sp : Span) → IsSound v l sp.preemptions found
    → (l ≡ None → parts_in sp.part ≤ 1 → IsExact v sp.preemptions sp.limit found) → IsOutcomesAnswer v l sp a)
    → IfOk given (λ (a : Answer). IsOutcomesAnswer w losses span a)
found_answer (Ok a) w losses span s found losses_are bound limit plain sound exact so =
    so w losses span
    (subst (λ (p : ℕ). IsSound w losses p found) bound (subst (λ (l : Option ℕ). IsSound w l s.preemptions found) losses_are sound))
    (λ none le. subst (λ (n : ℕ). IsExact w span.preemptions n found) limit (subst (λ (p : ℕ). IsExact w p s.limit found) bound (exact (plain none le))))
found_answer (Err e) w losses span s found losses_are bound limit plain sound exact so = so
