-- Guests get their players one after the other.
use Rattle.std.proofs.Common.{◌≡◌, ℕ, ◌+◌, List, ◌∷◌, length, refl, sym, ap, subst, arith}
use Rattle.net_base.specs.Versions.{Tuples}
use Rattle.net_guests.specs.Visits.{AreFresh, IsFresh, Visit}

-- The first n guests have players. These are left: those of the callers from n on.
pub record Dealing (zone : Tuples) (total n : ℕ) (left : List Visit) (len : ℕ) : Type 0 where
  pub fresh : AreFresh zone n left
  pub many : n + length left ≡ total
  pub len_is : len ≡ length left

module _ (zone : Tuples) (total n : ℕ) (old new : List Visit) (v : Visit) (len : ℕ) (deals : Dealing zone total n old len) (next : old ≡ v ∷ new) where
  front : AreFresh zone n (v ∷ new)
  front = subst (λ (l : List Visit). AreFresh zone n l) next deals.fresh

  -- the next guest is that of the next caller
  pub next_caller : v.caller ≡ n
  next_caller = front.0.caller

  pub next_fresh : IsFresh zone v.caller v
  next_fresh = record { caller = refl; now = front.0.now; seen = front.0.seen; owed = front.0.owed; names = front.0.names }

  pub deals_more : (m after : ℕ) → m ≡ n + 1 → after + 1 ≡ len → Dealing zone total m new after
  deals_more m after more shorter = record {
    fresh = subst (λ (i : ℕ). AreFresh zone i new) (sym more) front.1;
    many = omega (arith, more, deals.many, ap length next);
    len_is = omega (arith, shorter, deals.len_is, ap length next);
  }
