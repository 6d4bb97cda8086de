-- What stands behind what was found so far, a line or a pair at a time.
use Rattle.std.proofs.Common.{◌≡◌, ℕ, ◌+◌, ◌<◌, ◌≤◌, Bool, true, false, List, [], ◌∷◌, ◌++◌, length, take, get_or, refl, sym, ap, ◌∙◌, arith, append_assoc, Some, None}
use Rattle.std.specs.Prelude.{find}
use Rattle.std.proofs.lemmas.List.{take_all}
use Rattle.net_base.specs.Ndb.{NdbPair}
use Rattle.net_base.specs.Search.{has_attr, values_on, values_in}
use Rattle.net_base.proofs.Shared.{find-here, find-on, own-default}
use Rattle.ndb_search.proofs.Copied.{on_more, on_less, in_more}

-- Values.

pub on-yes : (attr : List ℕ) (line : List NdbPair) (n : ℕ) (pair : NdbPair) (first before after : List (List ℕ)) (value : List ℕ) → n < length line → pair ≡ get_or line n pair → has_attr attr pair ≡ true → value ≡ pair.value → after ≡ before ++ value ∷ []
    → before ≡ first ++ values_on attr (take n line) → after ≡ first ++ values_on attr (take (n + 1) line)
on-yes attr line n pair first before after value h here named ev put so_far =
    put
    ∙ ap (λ (vs : List (List ℕ)). vs ++ value ∷ []) so_far
    ∙ append_assoc first (values_on attr (take n line)) (value ∷ [])
    ∙ ap (λ (v : List ℕ). first ++ (values_on attr (take n line) ++ v ∷ [])) ev
    ∙ ap (λ (vs : List (List ℕ)). first ++ vs) (sym (on_more attr line n pair h here named))

pub on-no : (attr : List ℕ) (line : List NdbPair) (n : ℕ) (pair : NdbPair) (first before : List (List ℕ)) → n < length line → pair ≡ get_or line n pair → has_attr attr pair ≡ false
    → before ≡ first ++ values_on attr (take n line) → before ≡ first ++ values_on attr (take (n + 1) line)
on-no attr line n pair first before h here named so_far = so_far ∙ ap (λ (vs : List (List ℕ)). first ++ vs) (sym (on_less attr line n pair h here named))

pub in-next : (attr : List ℕ) (tuple : List (List NdbPair)) (n : ℕ) (line : List NdbPair) (first before after : List (List ℕ)) → n < length tuple → line ≡ get_or tuple n [] → after ≡ before ++ values_on attr line
    → before ≡ first ++ values_in attr (take n tuple) → after ≡ first ++ values_in attr (take (n + 1) tuple)
in-next attr tuple n line first before after h here put so_far =
    put
    ∙ ap (λ (vs : List (List ℕ)). vs ++ values_on attr line) so_far
    ∙ append_assoc first (values_in attr (take n tuple)) (values_on attr line)
    ∙ ap (λ (l : List NdbPair). first ++ (values_in attr (take n tuple) ++ values_on attr l)) here
    ∙ ap (λ (vs : List (List ℕ)). first ++ vs) (sym (in_more attr tuple n (get_or tuple n []) h (own-default tuple n (get_or tuple n []) [] h refl)))

-- the first that passes a test
pub first-here : {X : Type 0} (test : X → Bool) (xs : List X) (i : ℕ) (x d : X) → i < length xs → find test (take i xs) ≡ None → x ≡ get_or xs i d → test x ≡ true → Some x ≡ find test xs
first-here test xs i x d h none here holds =
    ap Some here
    ∙ sym (find-here test xs i (length xs) d h h none (ap test (sym here) ∙ holds))
    ∙ ap (find test) (take_all (length xs) xs (omega arith))

pub first-on : {X : Type 0} (test : X → Bool) (xs : List X) (i : ℕ) (x d : X) → i < length xs → find test (take i xs) ≡ None → x ≡ get_or xs i d → test x ≡ false → find test (take (i + 1) xs) ≡ None
first-on test xs i x d h none here fails = find-on test xs i d h none (ap test (sym here) ∙ fails)

-- what a function gives of all, and nothing of all
pub of-all : {X Y : Type 0} (f : List X → Y) (xs : List X) (n : ℕ) (y : Y) → length xs ≤ n → y ≡ f (take n xs) → y ≡ f xs
of-all f xs n y all is = is ∙ ap f (take_all n xs all)

-- behind others
pub join-more : {X : Type 0} (first piece now more before after : List X) → before ≡ first ++ piece → after ≡ before ++ more → now ≡ piece ++ more → after ≡ first ++ now
join-more {X = X} first piece now more before after is put joined =
    put ∙ ap (λ (xs : List X). xs ++ more) is ∙ append_assoc first piece more ∙ ap (λ (xs : List X). first ++ xs) (sym joined)

pub join-less : {X : Type 0} (first piece now before : List X) → before ≡ first ++ piece → now ≡ piece → before ≡ first ++ now
join-less {X = X} first piece now before is same = is ∙ ap (λ (xs : List X). first ++ xs) (sym same)
