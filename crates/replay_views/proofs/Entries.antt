-- A run that follows a history entry by entry.
use Rattle.std.proofs.Common.{◌≡◌, ℕ, zero, suc, ◌+◌, ◌<◌, List, [], ◌∷◌, ◌++◌, length, take, get_or, sym, ap, subst, ◌∙◌, arith}
use Rattle.net_base.specs.declared.history.Entry.{Entry}
use Rattle.net_base.specs.declared.world.World.{World}
use Rattle.net_base.specs.Legal.{IsInTime, IsLegal, IsTimed, MayFollow}
use Rattle.net_base.specs.Net.{after}
use Rattle.plain_runner.specs.Followed.{Followed, FollowsRun}
use Rattle.plain_runner.specs.declared.runner.Runner.{Runner}
use Rattle.plain_runner.proofs.Shared.{got}

-- one element more
taken : {A : Type 0} (xs : List A) (n : ℕ) (x : A) → n < length xs → x ≡ get_or xs n x → take n xs ++ x ∷ [] ≡ take (suc n) xs
taken [] n x lt is = absurd (omega (arith, lt))
taken (y ∷ ys) zero x lt is = ap (λ z. z ∷ []) is
taken (y ∷ ys) (suc n) x lt is = ap (λ zs. y ∷ zs) (taken ys n x (omega (arith, lt)) is)

-- the next entry of a history may come next
pub may_come : (w : World) (h : List Entry) (r : Runner) (n : ℕ) (x : Entry) → IsLegal w h → IsTimed w h → n < length h → x ≡ get_or h n x
    → Followed w (take n h) r → FollowsRun w r x
may_come w h r n x legal timed lt is f = record {
  tracks = f.tracks;
  may = subst (λ (p : List Entry). MayFollow w p x) (sym f.history_is) (legal n x (got h n x lt is));
  in_time = subst (λ (p : List Entry). IsInTime (after w p) w x.event) (sym f.history_is) (timed n x (got h n x lt is));
}

-- and the run then followed one more
pub one_further : (w : World) (h : List Entry) (old new : Runner) (n : ℕ) (x : Entry) → n < length h → x ≡ get_or h n x
    → Followed w (take n h) old → Followed w (old.history.entries ++ x ∷ []) new → Followed w (take (n + 1) h) new
one_further w h old new n x lt is before now = record {
  tracks = now.tracks;
  history_is =
      let e : suc n ≡ n + 1 = omega arith in
      now.history_is ∙ ap (λ (p : List Entry). p ++ x ∷ []) before.history_is ∙ taken h n x lt is ∙ ap (λ (k : ℕ). take k h) e;
}

-- its caller is one of the run's
pub has_caller : (w : World) (r : Runner) (x : Entry) → FollowsRun w r x → x.caller < length r.callers.items
has_caller w r x f = omega (arith, f.may.is_known.1, f.tracks.callers_are.count)
