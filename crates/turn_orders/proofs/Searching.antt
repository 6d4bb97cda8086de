-- A depth-first search, step by step.
use Rattle.std.proofs.Common.{◌≡◌, ℕ, zero, suc, ◌+◌, ◌-◌, ◌<◌, ◌≤◌, nat_le, inl, inr, Bool, true, false, cond, List, [], ◌∷◌, ◌++◌, length, refl, sym, ap, subst, ◌∙◌, append_assoc, length-append, arith}
use Rattle.std.specs.Prelude.{filter, flat_map}
use Rattle.std.specs.List.{range_with_len}
use Rattle.std.proofs.lemmas.Bool.{leb-true, le-leb}
use Rattle.std.proofs.lemmas.Bool.Decides.{nat_tests}
use Rattle.std.proofs.lemmas.List.{append-nil}
use Rattle.net_base.specs.declared.history.Entry.{Entry}
use Rattle.net_base.specs.declared.world.World.{World}
use Rattle.net_base.specs.Callers.{caller_count}
use Rattle.net_base.specs.Net.{after}
use Rattle.net_base.specs.Stamped.{In}
use Rattle.turn_orders.specs.Orders.{below, branch, by_comers, if_paid, if_spent, too_many}
use Rattle.turn_orders.specs.Paths.{IsFirst, IsNone, ahead, ahead_from, beginning, branches, from_on, left, left_of, to_come}
use Rattle.turn_orders.specs.Preemptions.{cost}
use Rattle.turn_orders.specs.Turns.{comes, goes, with_turn, with_turns}
use Rattle.turn_orders.proofs.Growing.{turns-append}

-- Callers upwards.

-- each is at least k, and greater than those before it
abbrev pub Up : ℕ → List ℕ → Type 0
Up k [] = Unit {0}
Up k (x ∷ xs) = (k ≤ x) × Up (suc x) xs

pub up_less : (j k : ℕ) (xs : List ℕ) → j ≤ k → Up k xs → Up j xs
up_less j k [] le up = tt
up_less j k (x ∷ xs) le up = (omega (arith, le, up.0), up.1)

up_range : (test : ℕ → Bool) (a n : ℕ) → Up a (filter test (range_with_len a n))
up_range test a zero = tt
up_range test a (suc n) = at (test a) (up_range test (a + 1) n)
  where
    at : (b : Bool) → Up (a + 1) (filter test (range_with_len (a + 1) n))
        → Up a (cond b (a ∷ filter test (range_with_len (a + 1) n)) (filter test (range_with_len (a + 1) n)))
    at true up = (omega arith, up_less (suc a) (a + 1) (filter test (range_with_len (a + 1) n)) (omega arith) up)
    at false up = up_less a (a + 1) (filter test (range_with_len (a + 1) n)) (omega arith) up

pub comes_up : (w : World) (h : List Entry) → Up 0 (comes w h)
comes_up w h = up_range (goes w (after w h)) 0 (caller_count w)

pub up_in : (k : ℕ) (xs : List ℕ) (c : ℕ) → Up k xs → In c xs → k ≤ c
up_in k [] c up there = absurd there
up_in k (x ∷ xs) c up (inl is) = omega (arith, is, up.0)
up_in k (x ∷ xs) c up (inr there) = let rest = up_in (suc x) xs c up.1 there in omega (arith, rest, up.0)

pub on_all : (j k : ℕ) (xs : List ℕ) → j ≤ k → Up k xs → from_on j xs ≡ xs
on_all j k [] le up = refl
on_all j k (x ∷ xs) le up =
    let passes : nat_le j x ≡ true = le-leb j x (omega (arith, le, up.0)) in
    rw passes (ap (λ (ys : List ℕ). x ∷ ys) (on_all j (suc x) xs (omega (arith, le, up.0)) up.1))

-- The branches of callers from a number on.

abbrev Branches : Type 0
Branches = ℕ → List (List Entry)

first_split : (f : Branches) (b k c : ℕ) (xs : List ℕ) → Up b xs → In c xs → k ≤ c → ((d : ℕ) → In d xs → k ≤ d → d < c → f d ≡ [])
    → flat_map f (from_on k xs) ≡ f c ++ flat_map f (from_on (c + 1) xs)
first_split f b k c [] up there le lower = absurd there
first_split f b k c (x ∷ xs) up (inl is) le lower =
    let passes : nat_le k x ≡ true = le-leb k x (omega (arith, le, is)) in
    let fails : nat_le (c + 1) x ≡ false = grind (arith, nat_tests) in
    rw (passes, fails, on_all k (suc x) xs (omega (arith, le, is)) up.1, on_all (c + 1) (suc x) xs (omega (arith, is)) up.1)
    (ap (λ (d : ℕ). f d ++ flat_map f xs) (sym is))
first_split f b k c (x ∷ xs) up (inr there) le lower = at (nat_le k x) refl (first_split f (suc x) k c xs up.1 there le (λ d in_xs. lower d (inr in_xs)))
  where
    above : x < c
    above = let far = up_in (suc x) xs c up.1 there in omega (arith, far)

    fails : nat_le (c + 1) x ≡ false
    fails = let far = above in grind (arith, nat_tests)

    at : (t : Bool) → nat_le k x ≡ t → flat_map f (from_on k xs) ≡ f c ++ flat_map f (from_on (c + 1) xs)
        → flat_map f (from_on k (x ∷ xs)) ≡ f c ++ flat_map f (from_on (c + 1) (x ∷ xs))
    at true is rest = rw (is, fails, lower x (inl refl) (leb-true k x is) above) rest
    at false is rest = rw (is, fails) rest

none_left : (f : Branches) (k : ℕ) (xs : List ℕ) → ((d : ℕ) → In d xs → k ≤ d → f d ≡ []) → flat_map f (from_on k xs) ≡ []
none_left f k [] none = refl
none_left f k (x ∷ xs) none = at (nat_le k x) refl (none_left f k xs (λ d there. none d (inr there)))
  where
    at : (t : Bool) → nat_le k x ≡ t → flat_map f (from_on k xs) ≡ [] → flat_map f (from_on k (x ∷ xs)) ≡ []
    at true is rest = rw (is, none x (inl refl) (leb-true k x is)) rest
    at false is rest = rw is rest

-- A turn for which enough preemptions are left, and one for which they are not.

pub paid_so : (price p : ℕ) (go_on : ℕ → List (List Entry)) → price ≤ p → if_paid price p go_on ≡ go_on (p - price)
paid_so price p go_on le = let passes : nat_le price p ≡ true = le-leb price p le in rw passes refl

unpaid : (price p : ℕ) (go_on : ℕ → List (List Entry)) → p < price → if_paid price p go_on ≡ []
unpaid price p go_on lt = let fails : nat_le price p ≡ false = grind (arith, nat_tests) in rw fails refl

pub branches_first : (w : World) (n : ℕ) (h : List Entry) (p k c : ℕ) → IsFirst w h p k c
    → branches w n h p k ≡ below w n (with_turn w h c) (p - cost w h c) ++ branches w n h p (c + 1)
branches_first w n h p k c first =
    first_split (branch w p h (below w n)) 0 k c (comes w h) (comes_up w h) first.there first.from
    (λ d there from lower. unpaid (cost w h d) p (below w n (with_turn w h d)) (first.lower d there from lower))
    ∙ ap (λ (hs : List (List Entry)). hs ++ branches w n h p (c + 1)) (paid_so (cost w h c) p (below w n (with_turn w h c)) first.paid)

pub branches_none : (w : World) (n : ℕ) (h : List Entry) (p k : ℕ) → IsNone w h p k → branches w n h p k ≡ []
branches_none w n h p k none =
    none_left (branch w p h (below w n)) k (comes w h)
    (λ d there from. unpaid (cost w h d) p (below w n (with_turn w h d)) (none.none d there from))

-- The histories that begin with this one, by the callers that can continue.

pub below_ended : (w : World) (n : ℕ) (h : List Entry) (p : ℕ) → comes w h ≡ [] → below w (suc n) h p ≡ if_spent p h
below_ended w n h p ended = ap (by_comers w p h (below w n)) ended

pub some_comers : (w : World) (p : ℕ) (h : List Entry) (go_on : List Entry → ℕ → List (List Entry)) (c : ℕ) (cs : List ℕ) → In c cs
    → by_comers w p h go_on cs ≡ flat_map (branch w p h go_on) cs
some_comers w p h go_on c [] there = absurd there
some_comers w p h go_on c (d ∷ cs) there = refl

pub below_goes : (w : World) (n : ℕ) (h : List Entry) (p c : ℕ) → In c (comes w h) → below w (suc n) h p ≡ branches w n h p 0
below_goes w n h p c there =
    some_comers w p h (below w n) c (comes w h) there
    ∙ ap (flat_map (branch w p h (below w n))) (sym (on_all 0 0 (comes w h) (omega arith) (comes_up w h)))

-- Paths.

pub left-append : (w : World) (h : List Entry) (p : ℕ) (cs : List ℕ) (c : ℕ)
    → left_of w h p (cs ++ c ∷ []) ≡ left_of w h p cs - cost w (with_turns w h cs) c
left-append w h p [] c = refl
left-append w h p (d ∷ cs) c = left-append w (with_turn w h d) (p - cost w h d) cs c

ahead-append : (w : World) (n m : ℕ) (h : List Entry) (p : ℕ) (cs : List ℕ) (c : ℕ) → n ≡ suc (length cs + m)
    → ahead_from w n h p (cs ++ c ∷ []) ≡ branches w m (with_turns w h cs) (left_of w h p cs) (c + 1) ++ ahead_from w n h p cs
ahead-append w zero m h p cs c is = absurd (omega (arith, is))
ahead-append w (suc n) m h p [] c is =
    let same : n ≡ m = omega (arith, is) in
    subst (λ (k : ℕ). branches w n h p (c + 1) ≡ branches w k h p (c + 1) ++ []) same (sym (append-nil (branches w n h p (c + 1))))
ahead-append w (suc n) m h p (d ∷ cs) c is =
    ap (λ (hs : List (List Entry)). hs ++ branches w n h p (d + 1))
    (ahead-append w n m (with_turn w h d) (p - cost w h d) cs c (omega (arith, is)))
    ∙ append_assoc (branches w m (with_turns w (with_turn w h d) cs) (left_of w (with_turn w h d) (p - cost w h d) cs) (c + 1))
    (ahead_from w n (with_turn w h d) (p - cost w h d) cs) (branches w n h p (d + 1))

-- one less than the number of further entries that a history after a path can have
abbrev room : List ℕ → ℕ
room path = too_many - length path - 1

room_is : (path : List ℕ) → length path < too_many → too_many - length path ≡ suc (room path)
room_is path lt = omega (arith, lt)

room_next : (path : List ℕ) (c : ℕ) → length path < too_many → room path ≡ too_many - length (path ++ c ∷ [])
room_next path c lt = omega (arith, lt, length-append path (c ∷ []))

-- the histories that begin with a path and one further caller
abbrev behind : World → ℕ → List ℕ → ℕ → List (List Entry)
behind w p path k = branches w (room path) (beginning w path) (left w p path) k

ahead_push : (w : World) (p : ℕ) (path : List ℕ) (c : ℕ) → length path < too_many → ahead w p (path ++ c ∷ []) ≡ behind w p path (c + 1) ++ ahead w p path
ahead_push w p path c lt = ahead-append w too_many (room path) [] p path c (omega (arith, lt))

-- the callers from k on: the lowest one for which enough preemptions are left, and the higher ones
behind_first : (w : World) (p : ℕ) (path : List ℕ) (k c : ℕ) → length path < too_many → IsFirst w (beginning w path) (left w p path) k c
    → behind w p path k ++ ahead w p path ≡ to_come w p (path ++ c ∷ [])
behind_first w p path k c lt first =
    ap (λ (hs : List (List Entry)). hs ++ ahead w p path) (branches_first w (room path) (beginning w path) (left w p path) k c first)
    ∙ append_assoc (below w (room path) (with_turn w (beginning w path) c) (left w p path - cost w (beginning w path) c))
    (behind w p path (c + 1)) (ahead w p path)
    ∙ ap (λ (hs : List (List Entry)). below w (room path) (with_turn w (beginning w path) c) (left w p path - cost w (beginning w path) c) ++ hs)
    (sym (ahead_push w p path c lt))
    ∙ ap (λ (n : ℕ). below w n (with_turn w (beginning w path) c) (left w p path - cost w (beginning w path) c) ++ ahead w p (path ++ c ∷ []))
    (room_next path c lt)
    ∙ ap (λ (h : List Entry). below w (too_many - length (path ++ c ∷ [])) h (left w p path - cost w (beginning w path) c) ++ ahead w p (path ++ c ∷ []))
    (sym (turns-append w [] path c))
    ∙ ap (λ (q : ℕ). below w (too_many - length (path ++ c ∷ [])) (beginning w (path ++ c ∷ [])) q ++ ahead w p (path ++ c ∷ []))
    (sym (left-append w [] p path c))

-- The steps of a search.

pub search_begins : (w : World) (p : ℕ) → below w too_many [] p ≡ to_come w p []
search_begins w p = sym (append-nil (below w too_many [] p))

pub search_goes_on : (w : World) (p : ℕ) (path : List ℕ) (c : ℕ) → length path < too_many → IsFirst w (beginning w path) (left w p path) 0 c
    → to_come w p path ≡ to_come w p (path ++ c ∷ [])
search_goes_on w p path c lt first =
    ap (λ (n : ℕ). below w n (beginning w path) (left w p path) ++ ahead w p path) (room_is path lt)
    ∙ ap (λ (hs : List (List Entry)). hs ++ ahead w p path) (below_goes w (room path) (beginning w path) (left w p path) c first.there)
    ∙ behind_first w p path 0 c lt first

pub search_ends : (w : World) (p : ℕ) (path : List ℕ) → length path < too_many → comes w (beginning w path) ≡ []
    → to_come w p path ≡ if_spent (left w p path) (beginning w path) ++ ahead w p path
search_ends w p path lt ended =
    ap (λ (n : ℕ). below w n (beginning w path) (left w p path) ++ ahead w p path) (room_is path lt)
    ∙ ap (λ (hs : List (List Entry)). hs ++ ahead w p path) (below_ended w (room path) (beginning w path) (left w p path) ended)

pub search_turns : (w : World) (p : ℕ) (path : List ℕ) (c d : ℕ) → length path < too_many → IsFirst w (beginning w path) (left w p path) (c + 1) d
    → ahead w p (path ++ c ∷ []) ≡ to_come w p (path ++ d ∷ [])
search_turns w p path c d lt first = ahead_push w p path c lt ∙ behind_first w p path (c + 1) d lt first

pub search_goes_back : (w : World) (p : ℕ) (path : List ℕ) (c : ℕ) → length path < too_many → IsNone w (beginning w path) (left w p path) (c + 1)
    → ahead w p (path ++ c ∷ []) ≡ ahead w p path
search_goes_back w p path c lt none =
    ahead_push w p path c lt
    ∙ ap (λ (hs : List (List Entry)). hs ++ ahead w p path) (branches_none w (room path) (beginning w path) (left w p path) (c + 1) none)
