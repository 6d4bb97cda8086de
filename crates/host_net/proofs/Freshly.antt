-- Guests to whom nothing has happened.
use Rattle.std.proofs.Common.{◌≡◌, ℕ, ◌+◌, ◌<◌, ◌==◌, true, not, List, [], ◌∷◌, ◌++◌, length}
use Rattle.std.proofs.Common.{filter, sym, subst, arith}
use Rattle.std.proofs.lemmas.Bool.{true≢false}
use Rattle.std.proofs.lemmas.Bool.Decides.{nat_tests}
use Rattle.net_base.specs.declared.noted.Number.TheVariants as number
use Rattle.net_base.specs.declared.world.Version.{Version}
use Rattle.net_base.specs.declared.world.World.{World}
use Rattle.net_base.specs.Callers.{Caller}
use Rattle.net_base.specs.Stamped.{In}
use Rattle.net_base.specs.Versions.{Tuples, are_timed}
use Rattle.net_base.specs.World.{IsWorld}
use Rattle.journal.specs.Rule.{Held, same_number}
use Rattle.net_guests.specs.Visits.{AreFresh, IsFresh, Visit}
use Rattle.net_base.proofs.Shared.{number_itself, in_filter}

apart : (c d : ℕ) → c < d → not (d == c) ≡ true
apart c d lt = grind (arith, nat_tests)

-- the number that is handed over
pub given_own : (c : ℕ) (hs : List Held) → In (number.Caller c, []) hs → In (number.Caller c, []) (filter (λ (h : Held). same_number h.0 (number.Caller c)) hs)
given_own c hs there = in_filter (λ (h : Held). same_number h.0 (number.Caller c)) (number.Caller c, []) hs there (number_itself c)

-- the later numbers stay
pub kept_later : (c d : ℕ) (hs : List Held) → c < d → In (number.Caller d, []) hs
    → In (number.Caller d, []) (filter (λ (h : Held). not (same_number h.0 (number.Caller c))) hs)
kept_later c d hs lt there = in_filter (λ (h : Held). not (same_number h.0 (number.Caller c))) (number.Caller d, []) hs there (apart c d lt)

-- one guest more
pub fresh_more : (zone : Tuples) (n : ℕ) (vs : List Visit) (v : Visit) → AreFresh zone n vs → IsFresh zone (n + length vs) v → AreFresh zone n (vs ++ v ∷ [])
fresh_more zone n [] v are is = (subst (λ (k : ℕ). IsFresh zone k v) (omega arith) is, tt)
fresh_more zone n (x ∷ vs) v are is = (are.0, fresh_more zone (n + 1) vs v are.1 (subst (λ (k : ℕ). IsFresh zone k v) (omega arith) is))

-- Databases.

timed_some : (vs : List Version) → are_timed vs ≡ true → 0 < length vs
timed_some [] timed = absurd (true≢false (sym timed))
timed_some (v ∷ vs) timed = omega arith

-- a world has a version of its database
pub some_versions : (w : World) (vs : List Version) → IsWorld w → vs ≡ w.dbs → 0 < length vs
some_versions w vs is same = subst (λ (l : List Version). 0 < length l) (sym same) (timed_some w.dbs is.versions_timed)

-- Scripts.
