-- The list has the ended histories within the bound, and no other.
use Rattle.std.proofs.Common.{◌≡◌, ℕ, zero, suc, ◌+◌, ◌-◌, ◌<◌, ◌≤◌, ◌==◌, nat_le, inl, inr, Bool, true, false, cond, List, [], ◌∷◌, ◌++◌, length, take, drop, refl, sym, ap, subst, ◌∙◌, append_assoc, arith}
use Rattle.std.specs.Prelude.{flat_map}
use Rattle.std.specs.List.{range_with_len}
use Rattle.std.proofs.lemmas.Bool.{cases_lt, eqb-true, leb-true}
use Rattle.std.proofs.lemmas.Option.{none-some}
use Rattle.std.proofs.lemmas.List.{append-nil, take_all, take-append-drop}
use Rattle.net_base.specs.declared.history.Entry.{Entry}
use Rattle.net_base.specs.declared.world.World.{World}
use Rattle.net_base.specs.Legal.{IsInTime, IsLegal, IsTimed, MayFollow}
use Rattle.net_base.specs.Net.{after}
use Rattle.net_base.specs.Stamped.{In}
use Rattle.net_base.specs.World.{IsWorld}
use Rattle.net_base.proofs.Shared.{in_flat, in_parts}
use Rattle.history_laws.proofs.Shared.{in_range, legal_push, one_more, timed_push}
use Rattle.turn_orders.specs.Orders.{below, branch, by_comers, histories, histories_with, if_paid, if_spent, too_many}
use Rattle.turn_orders.specs.Preemptions.{IsWithin, cost, preemptions}
use Rattle.turn_orders.specs.Turns.{IsEnded, comes, grown, with_turn}
use Rattle.turn_orders.proofs.Costs.{is_short}
use Rattle.turn_orders.proofs.Following.{Comes, comes_follows}
use Rattle.turn_orders.proofs.Growing.{preempts_more, preempts_push}
use Rattle.turn_orders.proofs.Searching.{below_ended, paid_so, some_comers}
use Rattle.turn_orders.proofs.Turning.{comes_next, grows_so}

-- Each is in it.

record IsEndedOf (w : World) (h : List Entry) : Type 0 where
  legal : IsLegal w h
  timed : IsTimed w h
  ended : IsEnded w h

found_from : (w : World) (h : List Entry) (n k p : ℕ) → IsEndedOf w h → k ≤ length h → length h < n + k → preemptions w (take k h) + p ≡ preemptions w h
    → In h (below w n (take k h) p)
found_from w h zero k p is le lt sum = absurd (omega (arith, le, lt))
found_from w h (suc n) k p is le lt sum = elim (cases_lt k (length h)) [
  | inl more ↦ goes_on more (λ q le lt sum. found_from w h n (suc k) q is le lt sum)
  | inr all ↦ stops all
]
  where
    stops : length h ≤ k → In h (below w (suc n) (take k h) p)
    stops all =
        let whole : take k h ≡ h = take_all k h all in
        let same = ap (preemptions w) whole in
        let spent : p ≡ 0 = omega (arith, sum, same) in
        subst (λ (b : List Entry). In h (below w (suc n) b p)) (sym whole)
        (subst (λ (q : ℕ). In h (below w (suc n) h q)) (sym spent) (subst (In h) (sym (below_ended w n h 0 is.ended)) (inl refl)))

    goes_on : k < length h
        → ((q : ℕ) → suc k ≤ length h → length h < n + suc k → preemptions w (take (suc k) h) + q ≡ preemptions w h → In h (below w n (take (suc k) h) q))
        → In h (below w (suc n) (take k h) p)
    goes_on more further =
        let x = one_more h k more in
        let may : MayFollow w (take k h) x.0 = is.legal k x.0 x.1 in
        let in_time : IsInTime (after w (take k h)) w x.0.event = is.timed k x.0 x.1 in
        let there : In x.0.caller (comes w (take k h)) = comes_next w (take k h) x.0 may in_time in
        let grows : with_turn w (take k h) x.0.caller ≡ take (suc k) h = grows_so w (take k h) x.0 may in_time ∙ sym x.2 in
        let paid = ap (preemptions w) x.2 ∙ preempts_push w (take k h) x.0 in
        let rest = ap (preemptions w) (take-append-drop (suc k) h) in
        let within = preempts_more w (take (suc k) h) (drop (suc k) h) in
        let fits : cost w (take k h) x.0.caller ≤ p = omega (arith, paid, rest, within, sum) in
        let later : In h (below w n (take (suc k) h) (p - cost w (take k h) x.0.caller)) =
        further (p - cost w (take k h) x.0.caller) (omega (arith, more)) (omega (arith, lt)) (omega (arith, paid, fits, sum)) in
        let in_branch : In h (branch w p (take k h) (below w n) x.0.caller) =
        subst (In h) (sym (paid_so (cost w (take k h) x.0.caller) p (below w n (with_turn w (take k h) x.0.caller)) fits))
        (subst (λ (b : List Entry). In h (below w n b (p - cost w (take k h) x.0.caller))) (sym grows) later) in
        subst (In h) (sym (some_comers w p (take k h) (below w n) x.0.caller (comes w (take k h)) there))
        (in_flat (branch w p (take k h) (below w n)) (comes w (take k h)) x.0.caller h there in_branch)

pub found_with : (w : World) (h : List Entry) → IsWorld w → IsLegal w h → IsTimed w h → IsEnded w h → In h (histories_with w (preemptions w h))
found_with w h world legal timed ended =
    let short = is_short w h world legal in
    found_from w h too_many 0 (preemptions w h) (record { legal = legal; timed = timed; ended = ended }) (omega arith) (omega (arith, short)) (omega arith)

pub found_all : (w : World) (p : ℕ) (h : List Entry) → IsWorld w → IsWithin w p h → In h (histories w p)
found_all w p h world is =
    in_flat (histories_with w) (range_with_len 0 (p + 1)) (preemptions w h) h
    (in_range 0 (p + 1) (preemptions w h) (omega arith) (let le = is.bounded in omega (arith, le)))
    (found_with w h world is.legal is.timed is.ended)

-- No other history is in it.

pub in_flat_map : {A B : Type 0} (f : A → List B) (xs : List A) (y : B) → In y (flat_map f xs) → (x : A) × In x xs × In y (f x)
in_flat_map f [] y there = absurd there
in_flat_map f (x ∷ xs) y there = elim (in_parts y (f x) (flat_map f xs) there) [
  | inl here ↦ (x, inl refl, here)
  | inr later ↦ let p = in_flat_map f xs y later in (p.0, inr p.1, p.2)
]

-- a listed history that begins with b
pub record IsListed (w : World) (b : List Entry) (p : ℕ) (h : List Entry) : Type 0 where
  pub legal : IsLegal w h
  pub timed : IsTimed w h
  pub ended : IsEnded w h
  pub spent : preemptions w h ≡ preemptions w b + p
  pub rest : List Entry
  pub begins : h ≡ b ++ rest

pub in_if_paid : (price p : ℕ) (go_on : ℕ → List (List Entry)) (h : List Entry) → In h (if_paid price p go_on) → (price ≤ p) × In h (go_on (p - price))
in_if_paid price p go_on h there = at (nat_le price p) refl there
  where
    at : (b : Bool) → nat_le price p ≡ b → In h (cond b (go_on (p - price)) []) → (price ≤ p) × In h (go_on (p - price))
    at true is here = (leb-true price p is, here)
    at false is none = absurd none

in_if_spent : (p : ℕ) (b h : List Entry) → In h (if_spent p b) → (p ≡ 0) × (h ≡ b)
in_if_spent p b h there = at (p == 0) refl there
  where
    at : (t : Bool) → (p == 0) ≡ t → In h (cond t (b ∷ []) []) → (p ≡ 0) × (h ≡ b)
    at true is (inl same) = (eqb-true p 0 is, same)
    at true is (inr none) = absurd none
    at false is none = absurd none

pub listed_from : (w : World) → IsWorld w → (n : ℕ) (b : List Entry) (p : ℕ) (h : List Entry) → IsLegal w b → IsTimed w b → In h (below w n b p) → IsListed w b p h
listed_from w world zero b p h legal timed there = absurd there
listed_from w world (suc n) b p h legal timed there = by_list (comes w b) refl there (λ l q legal timed there. listed_from w world n l q h legal timed there)
  where
    ended : comes w b ≡ [] → In h (if_spent p b) → IsListed w b p h
    ended none here =
        let s = in_if_spent p b h here in
        subst (IsListed w b p) (sym s.1)
        (record { legal = legal; timed = timed; ended = none; spent = let z = s.0 in omega (arith, z); rest = []; begins = sym (append-nil b) })

    later : (c : ℕ) → In c (comes w b) → In h (branch w p b (below w n) c)
        → ((l : List Entry) (q : ℕ) → IsLegal w l → IsTimed w l → In h (below w n l q) → IsListed w l q h) → IsListed w b p h
    later c in_list in_branch further =
        let paid = in_if_paid (cost w b c) p (below w n (with_turn w b c)) h in_branch in
        let next : Comes w b c = comes_follows w b c world legal in_list in
        let grows : with_turn w b c ≡ b ++ next.entry ∷ [] = ap (grown b) next.is_next in
        let more : IsListed w (b ++ next.entry ∷ []) (p - cost w b c) h =
        further (b ++ next.entry ∷ []) (p - cost w b c) (legal_push w b next.entry legal next.may) (timed_push w b next.entry timed next.in_time)
        (subst (λ (l : List Entry). In h (below w n l (p - cost w b c))) grows paid.1) in
        let pushed = preempts_push w b next.entry in
        let price = ap (cost w b) next.caller_is in
        let le = paid.0 in
        let spent = more.spent in
        record {
          legal = more.legal;
          timed = more.timed;
          ended = more.ended;
          spent = omega (arith, pushed, price, le, spent);
          rest = next.entry ∷ more.rest;
          begins = more.begins ∙ append_assoc b (next.entry ∷ []) more.rest;
        }

    by_list : (cs : List ℕ) → comes w b ≡ cs → In h (by_comers w p b (below w n) cs)
        → ((l : List Entry) (q : ℕ) → IsLegal w l → IsTimed w l → In h (below w n l q) → IsListed w l q h) → IsListed w b p h
    by_list [] is here further = ended is here
    by_list (c ∷ cs) is here further =
        let found = in_flat_map (branch w p b (below w n)) (c ∷ cs) h here in
        later found.0 (subst (In found.0) (sym is) found.1) found.2 further

pub none_legal : (w : World) → IsLegal w []
none_legal w k x is = absurd (none-some x is)

pub none_timed : (w : World) → IsTimed w []
none_timed w k x is = absurd (none-some x is)

pub listed_with : (w : World) (p : ℕ) (h : List Entry) → IsWorld w → In h (histories_with w p) → IsListed w [] p h
listed_with w p h world there = listed_from w world too_many [] p h (none_legal w) (none_timed w) there

pub listed_within : (w : World) (p : ℕ) (h : List Entry) → IsWorld w → In h (histories w p) → IsWithin w p h
listed_within w p h world there =
    let found = in_flat_map (histories_with w) (range_with_len 0 (p + 1)) h there in
    let listed = listed_with w found.0 h world found.2 in
    let lt = range_below 0 (p + 1) found.0 found.1 in
    let spent = listed.spent in
    record { legal = listed.legal; timed = listed.timed; bounded = omega (arith, lt, spent); ended = listed.ended }
  where
    range_below : (a n c : ℕ) → In c (range_with_len a n) → c < a + n
    range_below a zero c there = absurd there
    range_below a (suc n) c (inl is) = omega (arith, is)
    range_below a (suc n) c (inr there) = let rest = range_below (a + 1) n c there in omega (arith, rest)
