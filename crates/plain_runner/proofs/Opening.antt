-- A run before anything is recorded.
use Rattle.std.proofs.Common.{◌≡◌, ℕ, zero, suc, ◌+◌, ◌≤◌, ◌==◌, Bool, true, false, List, [], ◌∷◌, ◌++◌, length, Some, slice_get, refl, sym, ap, subst, ◌∙◌, arith, length-append}
use Rattle.std.proofs.lemmas.Bool.{and_parts, eqb-true, eqb-false, leb-true}
use Rattle.std.proofs.lemmas.Option.{none-some, same_Some}
use Rattle.std.specs.Prelude.{nat_le}
use Rattle.net_base.specs.declared.world.World.{World}
use Rattle.net_base.specs.Actors.{opening_actor}
use Rattle.net_base.specs.Callers.{caller_count}
use Rattle.net_base.specs.World.{IsWorld}
use Rattle.duties.specs.WaysOf.{AreWaysOfWorld}
use Rattle.net_actors.specs.Together.{AreActors}
use Rattle.plain_runner.specs.Callers.{IsCallerKept}
use Rattle.plain_runner.specs.Tracks.{AreCallers, Tracks}
use Rattle.plain_runner.specs.declared.caller.Caller.{Caller}
use Rattle.plain_runner.specs.declared.runner.Runner.{Runner}

-- these are the first n callers
pub record AreFirst (w : World) (n : ℕ) (ks : List Caller) : Type 0 where
  pub count : length ks ≡ n
  pub each : (c : ℕ) (k : Caller) → slice_get ks c ≡ Some k → IsCallerKept w [] c k

pub none_yet : (w : World) (ks : List Caller) → ks ≡ [] → AreFirst w 0 ks
none_yet w ks is = record { count = ap length is; each = λ c k at. absurd (none-some k (sym (ap (λ xs. slice_get xs c) is) ∙ at)) }

last_or_before : {A : Type 0} (xs : List A) (x y : A) (i : ℕ) (same : Bool) → (i == length xs) ≡ same → slice_get (xs ++ x ∷ []) i ≡ Some y
    → ((i ≡ length xs) × (x ≡ y) → ⊥) → slice_get xs i ≡ Some y
last_or_before [] x y zero same is at other = absurd (other (refl, same_Some x y at))
last_or_before [] x y (suc i) same is at other = absurd (none-some y at)
last_or_before (z ∷ xs) x y zero same is at other = at
last_or_before (z ∷ xs) x y (suc i) same is at other = last_or_before xs x y i (i == length xs) refl at (λ p. other (ap suc p.0, p.1))

pub one_more : (w : World) (n : ℕ) (ks : List Caller) (k : Caller) → AreFirst w n ks → IsCallerKept w [] n k → AreFirst w (n + 1) (ks ++ k ∷ [])
one_more w n ks k first is = record {
  count = omega (arith, length-append ks (k ∷ []), first.count);
  each = λ c e at. by_place c e (c == n) refl at;
}
  where
    at_last : {A : Type 0} (xs : List A) (x y : A) → slice_get (xs ++ x ∷ []) (length xs) ≡ Some y → x ≡ y
    at_last [] x y at = same_Some x y at
    at_last (z ∷ xs) x y at = at_last xs x y at

    by_place : (c : ℕ) (e : Caller) (same : Bool) → (c == n) ≡ same → slice_get (ks ++ k ∷ []) c ≡ Some e → IsCallerKept w [] c e
    by_place c e true same at =
        let here : c ≡ n = eqb-true c n same in
        let there : k ≡ e = at_last ks k e (ap (slice_get (ks ++ k ∷ [])) (first.count ∙ sym here) ∙ at) in
        subst (λ (m : ℕ). IsCallerKept w [] m e) (sym here) (subst (IsCallerKept w [] n) there is)
    by_place c e false same at = first.each c e (last_or_before ks k e c (c == length ks) refl at (λ p. eqb-false c n same (p.0 ∙ first.count)))

pub all_callers : (w : World) (n : ℕ) (ks : List Caller) → n ≡ caller_count w → AreFirst w n ks → AreCallers w [] ks
all_callers w n ks is first = record { count = first.count ∙ is; each = first.each }

pub few_media : (w : World) → IsWorld w → length w.media ≤ 4
few_media w world = leb-true (length w.media) 4 (and_parts (nat_le 1 (length w.media)) (nat_le (length w.media) 4) world.some_media).1

pub opening_tracks : (w : World) (r : Runner) → IsWorld w → r.history.entries ≡ [] → r.count ≡ 0 → r.moment ≡ 0 → AreCallers w [] r.callers.items → AreActors w r.net (opening_actor w.timers)
    → AreWaysOfWorld w r.ways → Tracks w r
opening_tracks w r world history none moment callers are ways = record {
  history = rw history record { world = world; legal = λ k x is. absurd (none-some x is); timed = λ k x is. absurd (none-some x is) };
  count_is = rw (history, none) refl;
  callers_are = rw history callers;
  are = rw history are;
  ways_are = ways;
  moment_is = rw (history, moment) refl;
}
