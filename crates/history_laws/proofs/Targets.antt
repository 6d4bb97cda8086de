-- The least of some moments, and the target of the clock.
use Rattle.std.proofs.Common.{◌≡◌, ℕ, ◌≤◌, List, [], ◌∷◌, ◌++◌, filter_map, Option, ◌⊎◌, inl, inr, refl, arith}
use Rattle.net_base.specs.declared.actor.ActorName.{ActorName}
use Rattle.net_base.specs.declared.world.World.{World}
use Rattle.net_base.specs.Callers.{caller_of, caller_count}
use Rattle.net_base.specs.Calm.{awaited_moment, callers, least, target_by}
use Rattle.net_base.specs.Duties.{conversations, due_of}
use Rattle.net_base.specs.Net.{Net}
use Rattle.net_base.specs.Next.{next_of_by}
use Rattle.net_base.specs.Stamped.{In}
use Rattle.net_base.specs.Tasks.{Tasks}
use Rattle.history_laws.specs.Moments.{IsAwaited, IsDue}
use Rattle.history_laws.proofs.Members.{filter_map_in, in_either, in_filter_map, in_left, in_right, range_in}
use Rattle.net_base.proofs.Shared.{within_last, within_each}
use Rattle.history_laws.proofs.Ordered.{in_range}

-- The least.

below_all : (last : ℕ) (ms : List ℕ) (t : ℕ) → t ≤ last → ((m : ℕ) → In m ms → t ≤ m) → t ≤ least last ms
below_all last [] t le all = le
below_all last (m ∷ ms) t le all = omega (arith, all m (inl refl), below_all last ms t le (λ k there. all k (inr there)))

is_least : (last : ℕ) (ms : List ℕ) (t : ℕ) → t ≤ last → ((m : ℕ) → In m ms → t ≤ m) → (t ≡ last) ⊎ In t ms → t ≡ least last ms
is_least last ms t le all (inl is) = omega (arith, is, below_all last ms t le all, within_last last ms)
is_least last ms t le all (inr there) = omega (arith, below_all last ms t le all, within_each last ms t there)

-- The target.

abbrev dues : World → Net → List ℕ
dues w net = filter_map (λ (a : ActorName). due_of (net.actors a)) (conversations w)

abbrev awaited : Tasks → World → Net → ℕ → Option ℕ
awaited ts w net c = awaited_moment (next_of_by ts w (caller_of w c) net.past c)

abbrev awaits : Tasks → World → Net → List ℕ
awaits ts w net = filter_map (awaited ts w net) (callers w)

pub is_target : (ts : Tasks) (w : World) (net : Net) (t : ℕ) → t ≤ w.end → ((m : ℕ) → IsDue w net m → t ≤ m) → ((m : ℕ) → IsAwaited ts w net m → t ≤ m)
    → (t ≡ w.end) ⊎ (IsDue w net t ⊎ IsAwaited ts w net t) → t ≡ target_by ts w net
is_target ts w net t le due_later awaited_later some = is_least w.end (dues w net ++ awaits ts w net) t le all (one some)
  where
    due_in : (m : ℕ) → In m (dues w net) → t ≤ m
    due_in m there =
        let found = filter_map_in (λ (a : ActorName). due_of (net.actors a)) (conversations w) m there in
        due_later m (record { actor = found.from; there = found.there; due = found.gives })

    awaited_in : (m : ℕ) → In m (awaits ts w net) → t ≤ m
    awaited_in m there =
        let found = filter_map_in (awaited ts w net) (callers w) m there in
        let below = range_in 0 (caller_count w) found.from found.there in
        awaited_later m (record { caller = found.from; known = omega (arith, below.1); awaits = found.gives })

    all : (m : ℕ) → In m (dues w net ++ awaits ts w net) → t ≤ m
    all m there = elim (in_either (dues w net) (awaits ts w net) m there) [ inl left ↦ due_in m left | inr right ↦ awaited_in m right ]

    one : (t ≡ w.end) ⊎ (IsDue w net t ⊎ IsAwaited ts w net t) → (t ≡ w.end) ⊎ In t (dues w net ++ awaits ts w net)
    one (inl is) = inl is
    one (inr (inl d)) =
        inr (in_left (dues w net) (awaits ts w net) t (in_filter_map (λ (a : ActorName). due_of (net.actors a)) (conversations w) d.actor t d.there d.due))
    one (inr (inr a)) =
        let there : In a.caller (callers w) = in_range 0 (caller_count w) a.caller (omega arith) (omega (arith, a.known)) in
        inr (in_right (dues w net) (awaits ts w net) t (in_filter_map (awaited ts w net) (callers w) a.caller t there a.awaits))
