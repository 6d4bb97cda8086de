-- Words that stand behind one another.
use Rattle.std.proofs.Common.{◌≡◌, ℕ, ◌+◌, ◌<◌, List, [], ◌∷◌, ◌++◌, length, drop, get_or, Result, OnOk, refl, sym, ap, ◌∙◌, append_assoc}
use Rattle.std.proofs.lemmas.List.{drop_more}
use Rattle.std.proofs.lemmas.Result.{on_ok_weaker}
use Rattle.net_base.specs.declared.actor.Call.{Call}
use Rattle.net_base.specs.Transcript.{spaced}
use Rattle.history_words.specs.HistoryWords.{each_call_shown, slot}

pub spaced_both : (xs ys : List (List ℕ)) → spaced (xs ++ ys) ≡ spaced xs ++ spaced ys
spaced_both [] ys = refl
spaced_both (x ∷ xs) ys = simp (spaced_both xs ys, append_assoc) refl

pub next : (old mid new : List ℕ) (xs ys : List (List ℕ)) → mid ≡ old ++ spaced xs → new ≡ mid ++ spaced ys → new ≡ old ++ spaced (xs ++ ys)
next old mid new xs ys one two =
    two
    ∙ (ap (λ (front : List ℕ). front ++ spaced ys) one
    ∙ (append_assoc old (spaced xs) (spaced ys) ∙ ap (λ (rest : List ℕ). old ++ rest) (sym (spaced_both xs ys))))

-- so of words that a call writes
pub ok_next : {T E : Type 0} (r : Result T E) (old mid new : List ℕ) (xs ys : List (List ℕ)) → mid ≡ old ++ spaced xs → OnOk r (new ≡ mid ++ spaced ys)
    → OnOk r (new ≡ old ++ spaced (xs ++ ys))
ok_next r old mid new xs ys one two = on_ok_weaker r (λ (is : new ≡ mid ++ spaced ys). next old mid new xs ys one is) two

-- a call more
pub call_more : (calls : List Call) (i : ℕ) (d : Call) (out new all : List ℕ) → i < length calls → out ++ spaced (each_call_shown (drop i calls)) ≡ all
    → new ≡ out ++ spaced (slot (get_or calls i d).slot (get_or calls i d).generation) → new ++ spaced (each_call_shown (drop (i + 1) calls)) ≡ all
call_more calls i d out new all lt before is =
    let here : List (List ℕ) = slot (get_or calls i d).slot (get_or calls i d).generation in
    let later : List (List ℕ) = each_call_shown (drop (i + 1) calls) in
    ap (λ (front : List ℕ). front ++ spaced later) is
    ∙ (append_assoc out (spaced here) (spaced later)
    ∙ (ap (λ (rest : List ℕ). out ++ rest) (sym (spaced_both here later))
    ∙ (ap (λ (cs : List Call). out ++ spaced (each_call_shown cs)) (sym (drop_more calls i d lt)) ∙ before)))
