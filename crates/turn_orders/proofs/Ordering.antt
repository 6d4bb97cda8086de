-- The order of the list: fewer preemptions first, and with the same number the lower list of callers. So no history comes twice.
use Rattle.std.proofs.Common.{◌≡◌, ℕ, zero, suc, ◌+◌, ◌-◌, ◌<◌, ◌==◌, nat_le, inl, inr, Bool, true, false, cond, List, [], ◌∷◌, ◌++◌, refl, sym, ap, subst, ◌∙◌, arith}
use Rattle.std.specs.Prelude.{AllPairs}
use Rattle.std.specs.List.{range_with_len}
use Rattle.std.proofs.lemmas.List.{map-append}
use Rattle.net_base.specs.declared.history.Entry.{Entry}
use Rattle.net_base.specs.declared.world.World.{World}
use Rattle.net_base.specs.Legal.{IsLegal, IsTimed}
use Rattle.net_base.specs.Stamped.{In}
use Rattle.net_base.specs.World.{IsWorld}
use Rattle.net_base.proofs.Shared.{append_one}
use Rattle.history_laws.proofs.Shared.{Each, Later, each_any, each_both, later_flat_map, legal_push, pairs_from_later, timed_push}
use Rattle.turn_orders.specs.Orders.{ComesBefore, IsLower, below, branch, by_comers, histories, histories_with, if_spent, too_many}
use Rattle.turn_orders.specs.Preemptions.{cost, preemptions}
use Rattle.turn_orders.specs.Turns.{callers_of, comes, grown, with_turn}
use Rattle.turn_orders.proofs.Following.{Comes, comes_follows}
use Rattle.turn_orders.proofs.Listing.{IsListed, in_if_paid, listed_from, listed_with, none_legal, none_timed}
use Rattle.turn_orders.proofs.Searching.{Up, comes_up, up_in, up_less}

-- Lists.

pub each_from_in : {X : Type 0} (P : X → Type 0) (xs : List X) → ((x : X) → In x xs → P x) → Each P xs
each_from_in P [] holds = tt
each_from_in P (x ∷ xs) holds = (holds x (inl refl), each_from_in P xs (λ y there. holds y (inr there)))

later_with : {X : Type 0} (R S : X → X → Type 0) (P : X → Type 0) → ((x y : X) → P x → P y → R x y → S x y) → (xs : List X) → Each P xs → Later R xs → Later S xs
later_with R S P gives [] ps rs = tt
later_with R S P gives (x ∷ xs) ps rs = (
  each_both P (R x) (S x) (λ y py r. gives x y ps.0 py r) xs ps.1 rs.0,
  later_with R S P gives xs ps.1 rs.1,
)

abbrev Below : ℕ → ℕ → Type 0
Below c d = c < d

up_later : (k : ℕ) (xs : List ℕ) → Up k xs → Later Below xs
up_later k [] up = tt
up_later k (x ∷ xs) up = (each_from_in (Below x) xs (λ y there. let le = up_in (suc x) xs y up.1 there in omega (arith, le)), up_later (suc x) xs up.1)

range_up : (a n : ℕ) → Up a (range_with_len a n)
range_up a zero = tt
range_up a (suc n) = (omega arith, up_less (suc a) (a + 1) (range_with_len (a + 1) n) (omega arith) (range_up (a + 1) n))

-- Callers.

lower_at : (cs : List ℕ) (c d : ℕ) (more others : List ℕ) → c < d → IsLower (cs ++ c ∷ more) (cs ++ d ∷ others)
lower_at [] c d more others lt = inl lt
lower_at (b ∷ cs) c d more others lt = inr (refl, lower_at cs c d more others lt)

-- a listed history after a turn has the caller of the turn in that place
callers_behind : (w : World) (n : ℕ) (b : List Entry) (p c : ℕ) (h : List Entry) → IsWorld w → IsLegal w b → IsTimed w b → In c (comes w b)
    → In h (branch w p b (below w n) c) → (rest : List Entry) × (callers_of h ≡ callers_of b ++ c ∷ callers_of rest)
callers_behind w n b p c h world legal timed there in_branch =
    let next : Comes w b c = comes_follows w b c world legal there in
    let paid = in_if_paid (cost w b c) p (below w n (with_turn w b c)) h in_branch in
    let grows : with_turn w b c ≡ b ++ next.entry ∷ [] = ap (grown b) next.is_next in
    let listed : IsListed w (b ++ next.entry ∷ []) (p - cost w b c) h =
    listed_from w world n (b ++ next.entry ∷ []) (p - cost w b c) h (legal_push w b next.entry legal next.may) (timed_push w b next.entry timed next.in_time)
    (subst (λ (l : List Entry). In h (below w n l (p - cost w b c))) grows paid.1) in (
      listed.rest,
      ap callers_of listed.begins
          ∙ map-append (λ (x : Entry). x.caller) (b ++ next.entry ∷ []) listed.rest
          ∙ ap (λ (cs : List ℕ). cs ++ callers_of listed.rest) (map-append (λ (x : Entry). x.caller) b (next.entry ∷ []))
          ∙ ap (λ (d : ℕ). (callers_of b ++ d ∷ []) ++ callers_of listed.rest) next.caller_is
          ∙ append_one (callers_of b) c (callers_of listed.rest),
    )

abbrev LowerCallers : List Entry → List Entry → Type 0
LowerCallers h k = IsLower (callers_of h) (callers_of k)

spent_later : (p : ℕ) (b : List Entry) → Later LowerCallers (if_spent p b)
spent_later p b = at (p == 0)
  where
    at : (t : Bool) → Later LowerCallers (cond t (b ∷ []) [])
    at true = (tt, tt)
    at false = tt

later_below : (w : World) → IsWorld w → (n : ℕ) (b : List Entry) (p : ℕ) → IsLegal w b → IsTimed w b → Later LowerCallers (below w n b p)
later_below w world zero b p legal timed = tt
later_below w world (suc n) b p legal timed =
    by_list (within (λ l q legal timed. later_below w world n l q legal timed)) (comes w b) (λ c there. there) (comes_up w b)
  where
    within : ((l : List Entry) (q : ℕ) → IsLegal w l → IsTimed w l → Later LowerCallers (below w n l q)) → (c : ℕ) → In c (comes w b)
        → Later LowerCallers (branch w p b (below w n) c)
    within further c there = at (nat_le (cost w b c) p)
      where
        next : Comes w b c
        next = comes_follows w b c world legal there

        rest : Later LowerCallers (below w n (with_turn w b c) (p - cost w b c))
        rest =
            subst (λ (l : List Entry). Later LowerCallers (below w n l (p - cost w b c))) (sym (ap (grown b) next.is_next))
            (further (b ++ next.entry ∷ []) (p - cost w b c) (legal_push w b next.entry legal next.may)
            (timed_push w b next.entry timed next.in_time))

        at : (t : Bool) → Later LowerCallers (cond t (below w n (with_turn w b c) (p - cost w b c)) [])
        at true = rest
        at false = tt

    across : (c d : ℕ) → In c (comes w b) → In d (comes w b) → Below c d
        → Each (λ h. Each (LowerCallers h) (branch w p b (below w n) d)) (branch w p b (below w n) c)
    across c d first second lt =
        each_from_in (λ h. Each (LowerCallers h) (branch w p b (below w n) d)) (branch w p b (below w n) c) (λ h in_first.
        each_from_in (LowerCallers h) (branch w p b (below w n) d) (λ k in_second.
        let left = callers_behind w n b p c h world legal timed first in_first in
        let right = callers_behind w n b p d k world legal timed second in_second in
        subst (λ (cs : List ℕ). IsLower cs (callers_of k)) (sym left.1)
        (subst (λ (cs : List ℕ). IsLower (callers_of b ++ c ∷ callers_of left.0) cs) (sym right.1)
        (lower_at (callers_of b) c d (callers_of left.0) (callers_of right.0) lt))))

    by_list : ((c : ℕ) → In c (comes w b) → Later LowerCallers (branch w p b (below w n) c)) → (cs : List ℕ)
        → ((c : ℕ) → In c cs → In c (comes w b)) → Up 0 cs → Later LowerCallers (by_comers w p b (below w n) cs)
    by_list each [] these up = spent_later p b
    by_list each (c ∷ cs) these up =
        later_flat_map LowerCallers Below (λ (d : ℕ). In d (comes w b)) (branch w p b (below w n)) each across (c ∷ cs)
        (each_from_in (λ (d : ℕ). In d (comes w b)) (c ∷ cs) these) (up_later 0 (c ∷ cs) up)

-- All histories.

with_so_many : (w : World) → IsWorld w → (p : ℕ) (h : List Entry) → In h (histories_with w p) → preemptions w h ≡ p
with_so_many w world p h there = let spent = (listed_with w p h world there).spent in omega (arith, spent)

pub later_histories : (w : World) → IsWorld w → (p : ℕ) → Later (ComesBefore w) (histories w p)
later_histories w world p =
    later_flat_map (ComesBefore w) Below (λ (q : ℕ). Unit {0}) (histories_with w) within across (range_with_len 0 (p + 1))
    (each_any (λ (q : ℕ). Unit {0}) (λ q. tt) (range_with_len 0 (p + 1))) (up_later 0 (range_with_len 0 (p + 1)) (range_up 0 (p + 1)))
  where
    within : (q : ℕ) → Unit {0} → Later (ComesBefore w) (histories_with w q)
    within q any =
        later_with LowerCallers (ComesBefore w) (λ (h : List Entry). preemptions w h ≡ q)
        (λ h k first second lower. inr (first ∙ sym second, lower)) (histories_with w q)
        (each_from_in (λ (h : List Entry). preemptions w h ≡ q) (histories_with w q) (with_so_many w world q))
        (later_below w world too_many [] q (none_legal w) (none_timed w))

    across : (q r : ℕ) → Unit {0} → Unit {0} → Below q r → Each (λ h. Each (ComesBefore w h) (histories_with w r)) (histories_with w q)
    across q r any also lt =
        each_from_in (λ h. Each (ComesBefore w h) (histories_with w r)) (histories_with w q) (λ h in_first.
        each_from_in (ComesBefore w h) (histories_with w r) (λ k in_second.
        let few = with_so_many w world q h in_first in
        let more = with_so_many w world r k in_second in
        inl (omega (arith, few, more, lt))))

pub in_order : (w : World) (p : ℕ) → IsWorld w → AllPairs (ComesBefore w) (histories w p)
in_order w p world = pairs_from_later (ComesBefore w) (histories w p) (later_histories w world p)

-- A history doesn't come before itself.

not_lower : (cs : List ℕ) → IsLower cs cs → ⊥
not_lower [] lower = absurd lower
not_lower (c ∷ cs) (inl lt) = absurd (omega (arith, lt))
not_lower (c ∷ cs) (inr same) = not_lower cs same.1

pub not_before : (w : World) (h : List Entry) → ComesBefore w h h → ⊥
not_before w h (inl fewer) = absurd (omega (arith, fewer))
not_before w h (inr same) = not_lower (callers_of h) same.1
