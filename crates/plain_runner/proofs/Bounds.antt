-- A history has few entries, its actors have few works, and its moments are early.
use Rattle.std.proofs.Common.{◌≡◌, ℕ, zero, suc, ◌+◌, ◌*◌, ◌^◌, ◌<◌, ◌≤◌, ◌==◌, Bool, true, false, List, [], ◌∷◌, ◌++◌, length, take, Some, None, slice_get, filter, Option, inl, inr, refl, sym, ap, subst, arith, nat_lt, nat_le}
use Rattle.std.proofs.lemmas.Bool.{and_parts, lt-ltb, le-ltb, ltb-true, ltb-false, leb-true, eqb-true, eqb-false}
use Rattle.std.proofs.lemmas.Bool.Decides.{eqb_tells}
use Rattle.std.proofs.lemmas.List.{take_all}
use Rattle.net_base.specs.declared.actor.ActorName.{ActorName}
use Rattle.net_base.specs.declared.event.Event.{Event}
use Rattle.net_base.specs.declared.event.Event.TheVariants as event
use Rattle.net_base.specs.declared.history.Entry.{Entry}
use Rattle.net_base.specs.declared.world.World.{World}
use Rattle.net_base.specs.ActorStep.{Step}
use Rattle.net_base.specs.Actors.{Actor}
use Rattle.net_base.specs.Calm.{most_entries}
use Rattle.net_base.specs.Callers.{caller_count}
use Rattle.net_base.specs.Legal.{IsLegal, IsTimed, IsInTime}
use Rattle.net_base.specs.Net.{Net, after, moment, moment_after, net_after, next_net, opening_net, step_of, works, works_from}
use Rattle.net_base.specs.Next.{by}
use Rattle.net_base.specs.Stamped.{same_actor}
use Rattle.net_base.specs.World.{IsWorld}
use Rattle.net_base.proofs.Shared.{within_last}

-- Entries.

-- the entries of the first n callers
below : ℕ → List Entry → List Entry
below n h = filter (λ (x : Entry). nat_lt x.caller n) h

-- a number apart from n is below the next number where it is below n
next_test : (k n : ℕ) → (k ≡ n → ⊥) → (b : Bool) → nat_lt k n ≡ b → nat_lt k (suc n) ≡ b
next_test k n apart true is = lt-ltb k (suc n) (omega (arith, ltb-true k n is))
next_test k n apart false is = le-ltb k (suc n) (by_equal (k == n) refl)
  where
    by_equal : (e : Bool) → (k == n) ≡ e → suc n ≤ k
    by_equal true same = absurd (apart (eqb-true k n same))
    by_equal false other = omega (arith, ltb-false k n is, eqb-false k n other)

one_more : (n : ℕ) (h : List Entry) → length (below (suc n) h) ≡ length (below n h) + length (by h n)
unfolding below
one_more n [] = refl
one_more n (x ∷ h) = elim (eqb_tells x.caller n) [
  | inl same ↦ rw (lt-ltb x.caller (suc n) (omega (arith, same.1)), le-ltb x.caller n (omega (arith, same.1)), same.0) (omega (arith, one_more n h))
  | inr apart ↦ other_one n x h (nat_lt x.caller n) (one_more n h) refl apart.0 apart.1
]
  where
    other_one : (n : ℕ) (x : Entry) (h : List Entry) (b : Bool) → length (below (suc n) h) ≡ length (below n h) + length (by h n) → nat_lt x.caller n ≡ b
        → (x.caller == n) ≡ false → (x.caller ≡ n → ⊥)
        → length (below (suc n) (x ∷ h)) ≡ length (below n (x ∷ h)) + length (by (x ∷ h) n)
    other_one n x h true rest is other apart = rw (next_test x.caller n apart true is, is, other) (omega (arith, rest))
    other_one n x h false rest is other apart = rw (next_test x.caller n apart false is, is, other) rest

none_below : (h : List Entry) → length (below 0 h) ≡ 0
unfolding below
none_below [] = refl
none_below (x ∷ h) = rw (le-ltb x.caller 0 (omega arith)) (none_below h)

all_below : (n : ℕ) (h : List Entry) → ((k : ℕ) (x : Entry) → slice_get h k ≡ Some x → x.caller < n) → length (below n h) ≡ length h
unfolding below
all_below n [] all = refl
all_below n (x ∷ h) all = rw (lt-ltb x.caller n (all 0 x refl)) (ap suc (all_below n h (λ k y is. all (suc k) y is)))

most_below : (n : ℕ) (h : List Entry) → ((c : ℕ) → length (by h c) ≤ 131072) → length (below n h) ≤ n * 131072
most_below zero h few = omega (arith, none_below h)
most_below (suc n) h few = omega (arith, one_more n h, few n, most_below n h few)

-- a caller records at most so many
abbrev pub Within : Type 0
Within = (w : World) (h : List Entry) (c : ℕ) → IsLegal w h → length (by h c) ≤ most_entries

-- at most 32 scripts, four couriers and the clock record
pub few_entries : Within → (w : World) (h : List Entry) → IsWorld w → IsLegal w h → length h < 2 ^ 30
few_entries within w h world legal =
    omega (
      arith,
      most_below (caller_count w) h (λ c. within w h c legal),
      all_below (caller_count w) h (λ k x is. (legal k x is).is_known.1),
      leb-true (length w.media) 4 (and_parts (nat_le 1 (length w.media)) (nat_le (length w.media) 4) world.some_media).1,
      leb-true (length w.scripts) 32 world.few_scripts,
    )

-- Works.

works_within : (w : World) (a : ActorName) (net : Net) (h : List Entry) → length (works_from w a net h) ≤ length h
works_within w a net [] = omega arith
works_within w a net (x ∷ xs) = by_actor (same_actor x.actor a) refl (works_within w a (next_net w net x) xs)
  where
    by_actor : (b : Bool) → same_actor x.actor a ≡ b → length (works_from w a (next_net w net x) xs) ≤ length xs
        → length (works_from w a net (x ∷ xs)) ≤ suc (length xs)
    by_actor true is rest = rw is (omega (arith, rest))
    by_actor false is rest = rw is (omega (arith, rest))

pub few_works : Within → (w : World) (h : List Entry) (a : ActorName) → IsWorld w → IsLegal w h → length (works w h a) < 2 ^ 30
few_works within w h a world legal = omega (arith, works_within w a (opening_net w) h, few_entries within w h world legal)

-- Moments.

one_more_entry : (h : List Entry) (k : ℕ) → k < length h → (x : Entry) × (slice_get h k ≡ Some x) × (take (suc k) h ≡ take k h ++ x ∷ [])
one_more_entry [] k lt = absurd (omega (arith, lt))
one_more_entry (y ∷ h) zero lt = (y, refl, refl)
one_more_entry (y ∷ h) (suc k) lt = let rest = one_more_entry h k (omega (arith, lt)) in (rest.0, rest.1, ap (λ (xs : List Entry). y ∷ xs) rest.2)

pub move_within : (w : World) (net : Net) (e : Event) → IsInTime net w e → net.moment ≤ w.end → moment_after net.moment e ≤ w.end
move_within w net (event.Move m) in_time before = subst (λ (n : ℕ). n ≤ w.end) (sym in_time.1) (within_last w.end _)
move_within w net _ in_time before = before

step_within : (w : World) (net : Net) (x : Entry) (s : Option (Step Actor)) → IsInTime net w x.event → net.moment ≤ w.end
    → (net_after w net x s).moment ≤ w.end
step_within w net x None in_time before = before
step_within w net x (Some s) in_time before = move_within w net x.event in_time before

-- the net after an entry more is the next one
abbrev pub Grows : Type 0
Grows = (w : World) (h : List Entry) (x : Entry) → after w (h ++ x ∷ []) ≡ next_net w (after w h) x

moment_within : Grows → (w : World) (h : List Entry) → IsTimed w h → moment w h ≤ w.end
moment_within grows w h timed = subst (λ (k : List Entry). moment w k ≤ w.end) (take_all (length h) h (omega arith)) (up_to (length h) (omega arith))
  where
    up_to : (k : ℕ) → k ≤ length h → moment w (take k h) ≤ w.end
    up_to zero le = omega arith
    up_to (suc k) le =
        let x = one_more_entry h k (omega (arith, le)) in
        let net : after w (take (suc k) h) ≡ next_net w (after w (take k h)) x.0 =
        subst (λ (past : List Entry). after w past ≡ next_net w (after w (take k h)) x.0) (sym x.2) (grows w (take k h) x.0) in
        subst (λ (n : Net). n.moment ≤ w.end) (sym net)
        (step_within w (after w (take k h)) x.0 (step_of w (after w (take k h)) x.0) (timed k x.0 x.1) (up_to k (omega (arith, le))))

pub is_early : Grows → (w : World) (h : List Entry) → IsWorld w → IsTimed w h → moment w h < 2 ^ 63
is_early grows w h world timed =
    omega (arith, moment_within grows w h timed, leb-true w.end 1000000000 (and_parts (nat_le 1 w.end) (nat_le w.end 1000000000) world.end).1)
