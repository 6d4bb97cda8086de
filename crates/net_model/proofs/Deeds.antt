-- Each read and write of a history stands among those of a walk over it.
use Rattle.std.proofs.Common.{◌≡◌, ℕ, zero, suc, ◌+◌, Bool, true, false, cond, List, [], ◌∷◌, Some, filter, slice_get, inl, inr, refl, sym, subst, arith}
use Rattle.std.proofs.lemmas.Option.{none-some, same_Some}
use Rattle.net_base.specs.declared.history.Entry.{Entry}
use Rattle.net_base.specs.Stamped.{In}
use Rattle.net_base.specs.Written.{Conversation}
use Rattle.prefix_law.specs.ImportLaw.{AreAll, is_deed}
use Rattle.prefix_law.specs.Spans.{entries_numbered}

-- those of these entries that read or write at the conversation
abbrev pub deeds : Conversation → List (ℕ × Entry) → List (ℕ × Entry)
deeds e xs = filter (λ (x : ℕ × Entry). is_deed e x.1) xs

first : (e : Conversation) (n : ℕ) (x : Entry) (rest : List (ℕ × Entry)) → is_deed e x ≡ true → In (n, x) (cond (is_deed e x) ((n, x) ∷ rest) rest)
first e n x rest deed = subst (λ (b : Bool). In (n, x) (cond b ((n, x) ∷ rest) rest)) (sym deed) (inl refl)

more : (b : Bool) (y z : ℕ × Entry) (rest : List (ℕ × Entry)) → In y rest → In y (cond b (z ∷ rest) rest)
more true y z rest there = inr there
more false y z rest there = there

numbered_deeds : (e : Conversation) (h : List Entry) (n k : ℕ) (x : Entry) → slice_get h k ≡ Some x → is_deed e x ≡ true → In (n + k, x) (deeds e (entries_numbered n h))
numbered_deeds e [] n k x is deed = absurd (none-some x is)
numbered_deeds e (y ∷ ys) n zero x is deed =
    let here : n ≡ n + 0 = omega arith in
    let same = same_Some y x is in
    subst (λ (z : Entry). In (n + 0, z) (deeds e (entries_numbered n (y ∷ ys)))) same
    (subst (λ (i : ℕ). In (i, y) (deeds e (entries_numbered n (y ∷ ys)))) here
    (first e n y (deeds e (entries_numbered (n + 1) ys)) (subst (λ (z : Entry). is_deed e z ≡ true) (sym same) deed)))
numbered_deeds e (y ∷ ys) n (suc k) x is deed =
    let next : n + 1 + k ≡ n + suc k = omega arith in
    more (is_deed e y) (n + suc k, x) (n, y) (deeds e (entries_numbered (n + 1) ys))
    (subst (λ (i : ℕ). In (i, x) (deeds e (entries_numbered (n + 1) ys))) next (numbered_deeds e ys (n + 1) k x is deed))

among : (e : Conversation) (xs : List (ℕ × Entry)) (y : ℕ × Entry) → In y (deeds e xs) → In y xs
among e [] y there = there
among e (x ∷ xs) y there = by (is_deed e x.1) there (among e xs y)
  where
    by : (b : Bool) → In y (cond b (x ∷ deeds e xs) (deeds e xs)) → (In y (deeds e xs) → In y xs) → In y (x ∷ xs)
    by true (inl same) rest = inl same
    by true (inr later) rest = inr (rest later)
    by false later rest = inr (rest later)

-- these are all, where their reads and writes are those of the whole history
pub all_deeds : (h : List Entry) (e : Conversation) (xs : List (ℕ × Entry)) → deeds e (entries_numbered 0 h) ≡ deeds e xs → AreAll h e xs
all_deeds h e xs same k x is deed =
    let here : 0 + k ≡ k = omega arith in
    among e xs (k, x) (subst (λ (ys : List (ℕ × Entry)). In (k, x) ys) same (subst (λ (i : ℕ). In (i, x) (deeds e (entries_numbered 0 h))) here (numbered_deeds e h 0 k x is deed)))
