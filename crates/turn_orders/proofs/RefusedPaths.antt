-- Refusals along a path, step by step.
use Rattle.std.proofs.Common.{◌≡◌, ℕ, zero, suc, ◌+◌, ◌-◌, ◌<◌, ◌≤◌, ◌||◌, nat_le, inl, inr, Bool, true, false, cond, List, [], ◌∷◌, ◌++◌, length, refl, sym, ap, subst, ◌∙◌, length-append, arith}
use Rattle.std.specs.List.{list_any}
use Rattle.std.proofs.lemmas.Bool.{le-leb, leb-true}
use Rattle.std.proofs.lemmas.Bool.Decides.{nat_tests}
use Rattle.net_base.specs.declared.history.Entry.{Entry}
use Rattle.net_base.specs.declared.world.World.{World}
use Rattle.net_base.specs.Stamped.{In}
use Rattle.net_base.proofs.Shared.{or_none, or_true}
use Rattle.turn_orders.specs.Orders.{refused_at, refuses, refuses_with, too_many}
use Rattle.turn_orders.specs.Paths.{IsLowest, beginning, from_on, left, left_of, refused_ahead, refused_ahead_from, refused_from, refused_to_come}
use Rattle.turn_orders.specs.Preemptions.{cost}
use Rattle.turn_orders.specs.Turns.{IsEnded, comes, with_turn, with_turns}
use Rattle.turn_orders.proofs.Growing.{turns-append}
use Rattle.turn_orders.proofs.Searching.{Up, comes_up, left-append, on_all, up_in}

or_assoc : (a b c : Bool) → ((a || b) || c) ≡ (a || (b || c))
or_assoc true b c = refl
or_assoc false b c = refl

-- The callers from a number on.

any_split : (f : ℕ → Bool) (b k c : ℕ) (xs : List ℕ) → Up b xs → In c xs → k ≤ c → ((d : ℕ) → In d xs → k ≤ d → c ≤ d)
    → list_any f (from_on k xs) ≡ (f c || list_any f (from_on (c + 1) xs))
any_split f b k c [] up there le lowest = absurd there
any_split f b k c (x ∷ xs) up (inl is) le lowest =
    let passes : nat_le k x ≡ true = le-leb k x (omega (arith, le, is)) in
    let fails : nat_le (c + 1) x ≡ false = grind (arith, nat_tests) in
    rw (passes, fails, on_all k (suc x) xs (omega (arith, le, is)) up.1, on_all (c + 1) (suc x) xs (omega (arith, is)) up.1)
    (ap (λ (d : ℕ). f d || list_any f xs) (sym is))
any_split f b k c (x ∷ xs) up (inr there) le lowest =
    at (nat_le k x) refl (any_split f (suc x) k c xs up.1 there le (λ d in_xs. lowest d (inr in_xs)))
  where
    above : x < c
    above = let far = up_in (suc x) xs c up.1 there in omega (arith, far)

    fails : nat_le (c + 1) x ≡ false
    fails = let far = above in grind (arith, nat_tests)

    at : (t : Bool) → nat_le k x ≡ t → list_any f (from_on k xs) ≡ (f c || list_any f (from_on (c + 1) xs))
        → list_any f (from_on k (x ∷ xs)) ≡ (f c || list_any f (from_on (c + 1) (x ∷ xs)))
    at true is rest = let low = lowest x (inl refl) (leb-true k x is) in let far = above in absurd (omega (arith, low, far))
    at false is rest = rw (is, fails) rest

any_none : (f : ℕ → Bool) (k : ℕ) (xs : List ℕ) → ((d : ℕ) → In d xs → k ≤ d → ⊥) → list_any f (from_on k xs) ≡ false
any_none f k [] none = refl
any_none f k (x ∷ xs) none = at (nat_le k x) refl (any_none f k xs (λ d there. none d (inr there)))
  where
    at : (t : Bool) → nat_le k x ≡ t → list_any f (from_on k xs) ≡ false → list_any f (from_on k (x ∷ xs)) ≡ false
    at true is rest = absurd (none x (inl refl) (leb-true k x is))
    at false is rest = rw is rest

any_there : (f : ℕ → Bool) (xs : List ℕ) (c : ℕ) → In c xs → f c ≡ true → list_any f xs ≡ true
any_there f [] c there is = absurd there
any_there f (x ∷ xs) c (inl same) is = ap (λ (b : Bool). b || list_any f xs) (ap f (sym same) ∙ is)
any_there f (x ∷ xs) c (inr there) is = ap (λ (b : Bool). f x || b) (any_there f xs c there is) ∙ or_true (f x)

paid_refuses : (w : World) (n : ℕ) (h : List Entry) (p c : ℕ) → cost w h c ≤ p
    → refused_at w p h (refuses w n) c ≡ refuses w n (with_turn w h c) (p - cost w h c)
paid_refuses w n h p c le = let passes : nat_le (cost w h c) p ≡ true = le-leb (cost w h c) p le in rw passes refl

refused_lowest : (w : World) (n : ℕ) (h : List Entry) (p k c : ℕ) → IsLowest w h p k c
    → refused_from w n h p k ≡ (refuses w n (with_turn w h c) (p - cost w h c) || refused_from w n h p (c + 1))
refused_lowest w n h p k c low =
    any_split (refused_at w p h (refuses w n)) 0 k c (comes w h) (comes_up w h) low.there low.from low.lowest
    ∙ ap (λ (b : Bool). b || refused_from w n h p (c + 1)) (paid_refuses w n h p c low.paid)

-- Paths.

ahead-append : (w : World) (n m : ℕ) (h : List Entry) (p : ℕ) (cs : List ℕ) (c : ℕ) → n ≡ suc (length cs + m)
    → refused_ahead_from w n h p (cs ++ c ∷ []) ≡ (refused_from w m (with_turns w h cs) (left_of w h p cs) (c + 1) || refused_ahead_from w n h p cs)
ahead-append w zero m h p cs c is = absurd (omega (arith, is))
ahead-append w (suc n) m h p [] c is =
    let same : n ≡ m = omega (arith, is) in
    subst (λ (k : ℕ). refused_from w n h p (c + 1) ≡ (refused_from w k h p (c + 1) || false)) same (sym (or_none (refused_from w n h p (c + 1))))
ahead-append w (suc n) m h p (d ∷ cs) c is =
    ap (λ (b : Bool). b || refused_from w n h p (d + 1)) (ahead-append w n m (with_turn w h d) (p - cost w h d) cs c (omega (arith, is)))
    ∙ or_assoc (refused_from w m (with_turns w (with_turn w h d) cs) (left_of w (with_turn w h d) (p - cost w h d) cs) (c + 1))
    (refused_ahead_from w n (with_turn w h d) (p - cost w h d) cs) (refused_from w n h p (d + 1))

abbrev room : List ℕ → ℕ
room path = too_many - length path - 1

abbrev behind : World → ℕ → List ℕ → ℕ → Bool
behind w p path k = refused_from w (room path) (beginning w path) (left w p path) k

ahead_push : (w : World) (p : ℕ) (path : List ℕ) (c : ℕ) → length path < too_many
    → refused_ahead w p (path ++ c ∷ []) ≡ (behind w p path (c + 1) || refused_ahead w p path)
ahead_push w p path c lt = ahead-append w too_many (room path) [] p path c (omega (arith, lt))

behind_lowest : (w : World) (p : ℕ) (path : List ℕ) (k c : ℕ) → length path < too_many → IsLowest w (beginning w path) (left w p path) k c
    → (behind w p path k || refused_ahead w p path) ≡ refused_to_come w p (path ++ c ∷ [])
behind_lowest w p path k c lt low =
    ap (λ (b : Bool). b || refused_ahead w p path) (refused_lowest w (room path) (beginning w path) (left w p path) k c low)
    ∙ or_assoc (refuses w (room path) (with_turn w (beginning w path) c) (left w p path - cost w (beginning w path) c))
    (behind w p path (c + 1)) (refused_ahead w p path)
    ∙ ap (λ (b : Bool). refuses w (room path) (with_turn w (beginning w path) c) (left w p path - cost w (beginning w path) c) || b)
    (sym (ahead_push w p path c lt))
    ∙ ap (λ (n : ℕ). refuses w n (with_turn w (beginning w path) c) (left w p path - cost w (beginning w path) c) || refused_ahead w p (path ++ c ∷ []))
    (omega (arith, lt, length-append path (c ∷ [])))
    ∙ ap (λ (h : List Entry). refuses w (too_many - length (path ++ c ∷ [])) h (left w p path - cost w (beginning w path) c) || refused_ahead w p (path ++ c ∷ []))
    (sym (turns-append w [] path c))
    ∙ ap (λ (q : ℕ). refuses w (too_many - length (path ++ c ∷ [])) (beginning w (path ++ c ∷ [])) q || refused_ahead w p (path ++ c ∷ []))
    (sym (left-append w [] p path c))

-- The steps of a search.

pub refusals_begin : (w : World) (p : ℕ) → refuses_with w p ≡ refused_to_come w p []
refusals_begin w p = sym (or_none (refuses w too_many [] p))

-- the refusals at the end of a path, by the callers that can continue
at_end : (w : World) (p : ℕ) (path : List ℕ) → length path < too_many
    → refused_to_come w p path
    ≡ (list_any (refused_at w (left w p path) (beginning w path) (refuses w (room path))) (comes w (beginning w path)) || refused_ahead w p path)
at_end w p path lt =
    let more : too_many - length path ≡ suc (room path) = omega (arith, lt) in
    ap (λ (n : ℕ). refuses w n (beginning w path) (left w p path) || refused_ahead w p path) more

pub refusals_go_on : (w : World) (p : ℕ) (path : List ℕ) (c : ℕ) → length path < too_many → IsLowest w (beginning w path) (left w p path) 0 c
    → refused_to_come w p path ≡ refused_to_come w p (path ++ c ∷ [])
refusals_go_on w p path c lt low =
    at_end w p path lt
    ∙ ap (λ (cs : List ℕ). list_any (refused_at w (left w p path) (beginning w path) (refuses w (room path))) cs || refused_ahead w p path)
    (sym (on_all 0 0 (comes w (beginning w path)) (omega arith) (comes_up w (beginning w path))))
    ∙ behind_lowest w p path 0 c lt low

pub refusals_show : (w : World) (p : ℕ) (path : List ℕ) (d : ℕ) → length path < too_many → In d (comes w (beginning w path))
    → left w p path < cost w (beginning w path) d → refused_to_come w p path ≡ true
refusals_show w p path d lt there dear =
    at_end w p path lt
    ∙ ap (λ (b : Bool). b || refused_ahead w p path)
    (any_there (refused_at w (left w p path) (beginning w path) (refuses w (room path))) (comes w (beginning w path)) d there refused)
  where
    fails : nat_le (cost w (beginning w path) d) (left w p path) ≡ false
    fails = grind (arith, nat_tests, dear)

    refused : refused_at w (left w p path) (beginning w path) (refuses w (room path)) d ≡ true
    refused =
        ap (λ (b : Bool). cond b (refuses w (room path) (with_turn w (beginning w path) d) (left w p path - cost w (beginning w path) d)) true) fails

pub refusals_end : (w : World) (p : ℕ) (path : List ℕ) → length path < too_many → IsEnded w (beginning w path)
    → refused_to_come w p path ≡ refused_ahead w p path
refusals_end w p path lt ended =
    at_end w p path lt
    ∙ ap (λ (cs : List ℕ). list_any (refused_at w (left w p path) (beginning w path) (refuses w (room path))) cs || refused_ahead w p path) ended

pub refusals_turn : (w : World) (p : ℕ) (path : List ℕ) (c d : ℕ) → length path < too_many
    → IsLowest w (beginning w path) (left w p path) (c + 1) d
    → refused_ahead w p (path ++ c ∷ []) ≡ refused_to_come w p (path ++ d ∷ [])
refusals_turn w p path c d lt low = ahead_push w p path c lt ∙ behind_lowest w p path (c + 1) d lt low

pub refusals_go_back : (w : World) (p : ℕ) (path : List ℕ) (c : ℕ) → length path < too_many
    → ((d : ℕ) → In d (comes w (beginning w path)) → c + 1 ≤ d → ⊥) → refused_ahead w p (path ++ c ∷ []) ≡ refused_ahead w p path
refusals_go_back w p path c lt none =
    ahead_push w p path c lt
    ∙ ap (λ (b : Bool). b || refused_ahead w p path)
    (any_none (refused_at w (left w p path) (beginning w path) (refuses w (room path))) (c + 1) (comes w (beginning w path)) none)
