-- A history has one fault at most, and a caller that the world hasn't has nothing to record.
use Rattle.std.proofs.Common.{◌≡◌, ℕ, zero, suc, ◌<◌, ◌≤◌, List, [], ◌∷◌, take, Some, None, slice_get, ◌⊎◌, inl, inr, sym, ap, subst, ◌∙◌, arith}
use Rattle.std.proofs.lemmas.Bool.{cases_order}
use Rattle.std.proofs.lemmas.List.{take-take}
use Rattle.std.proofs.lemmas.Option.{same_Some}
use Rattle.net_base.specs.declared.history.Entry.{Entry}
use Rattle.net_base.specs.declared.world.World.{World}
use Rattle.net_base.specs.Callers.{Caller, caller_count}
use Rattle.net_base.specs.Legal.{IsFault, IsLegal, IsTimed, Rule, rule_number}
use Rattle.net_base.specs.Next.{next_recorded, next_of}
use Rattle.history_laws.proofs.Shared.{fault_is_not_legal, nobody}
use Rattle.netcheck.specs.Judged.{KeepsAt}
use Rattle.netcheck.proofs.Least.{same_rule}

-- One fault.

got_take : (h : List Entry) (t s : ℕ) (x : Entry) → s < t → slice_get h s ≡ Some x → slice_get (take t h) s ≡ Some x
got_take h t s x lt is = go t h s lt is
  where
    go : (n : ℕ) (xs : List Entry) (k : ℕ) → k < n → slice_get xs k ≡ Some x → slice_get (take n xs) k ≡ Some x
    go zero xs k lt is = absurd (omega (arith, lt))
    go (suc n) [] k lt is = is
    go (suc n) (y ∷ xs) zero lt is = is
    go (suc n) (y ∷ xs) (suc k) lt is = go n xs k (omega (arith, lt)) is

-- a fault lies in each longer beginning, which then isn't legal and timed
never_earlier : (w : World) (h : List Entry) (s t : ℕ) (r q : Rule) → s < t → IsFault w h s r → IsFault w h t q → ⊥
never_earlier w h s t r q lt f g = fault_is_not_legal w (take t h) s r inside g.legal g.timed
  where
    same : take s h ≡ take s (take t h)
    same = sym (take-take s t h (omega (arith, lt)))

    inside : IsFault w (take t h) s r
    inside = record {
      entry = f.entry;
      stands = got_take h t s f.entry lt f.stands;
      legal = subst (IsLegal w) same f.legal;
      timed = subst (IsTimed w) same f.timed;
      lower = λ p below. subst (λ (past : List Entry). KeepsAt p w past f.entry) same (f.lower p below);
      broken = λ keeps. f.broken (subst (λ (past : List Entry). KeepsAt r w past f.entry) (sym same) keeps);
    }

-- at one stamp the least rule is one
one_rule : (w : World) (h : List Entry) (s : ℕ) (r q : Rule) → IsFault w h s r → IsFault w h s q → r ≡ q
one_rule w h s r q f g = by_order (cases_order (rule_number r) (rule_number q))
  where
    same : f.entry ≡ g.entry
    same = same_Some f.entry g.entry (sym f.stands ∙ g.stands)

    by_order : (rule_number r ≡ rule_number q) ⊎ ((rule_number r < rule_number q) ⊎ (rule_number q < rule_number r)) → r ≡ q
    by_order (inl is) = same_rule r q is
    by_order (inr (inl lower)) = absurd (f.broken (subst (λ (x : Entry). KeepsAt r w (take s h) x) (sym same) (g.lower r lower)))
    by_order (inr (inr higher)) = absurd (g.broken (subst (λ (x : Entry). KeepsAt q w (take s h) x) same (f.lower q higher)))

pub one_fault : (w : World) (h : List Entry) (s t : ℕ) (r q : Rule) → IsFault w h s r → IsFault w h t q → (s ≡ t) × (r ≡ q)
one_fault w h s t r q f g = by_order (cases_order s t)
  where
    by_order : (s ≡ t) ⊎ ((s < t) ⊎ (t < s)) → (s ≡ t) × (r ≡ q)
    by_order (inl is) = (is, one_rule w h t r q (subst (λ (n : ℕ). IsFault w h n r) is f) g)
    by_order (inr (inl before)) = absurd (never_earlier w h s t r q before f g)
    by_order (inr (inr after)) = absurd (never_earlier w h t s q r after g f)

-- Nobody.

pub nothing_next : (w : World) (h : List Entry) (c : ℕ) → caller_count w ≤ c → next_recorded w h c ≡ None
nothing_next w h c past = ap (λ (k : Caller). next_of w k h c) (nobody w c past)
