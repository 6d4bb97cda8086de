-- The number of the version in force is that of a version, where there is one.
use Rattle.std.proofs.Common.{ℕ, suc, ◌+◌, ◌<◌, Bool, true, false, List, [], ◌∷◌, length, nat_le, if◌then◌else◌, arith}
use Rattle.net_base.specs.declared.world.Version.{Version}
use Rattle.net_base.specs.Versions.{in_force, last_come}

one_of : (b : Bool) (before n left : ℕ) → before < n + suc left → (if b then n else before) < n + 1 + left
one_of true before n left lt = omega arith
one_of false before n left lt = omega (arith, lt)

last_below : (before n now : ℕ) (vs : List Version) → before < n + length vs → last_come before n now vs < n + length vs
last_below before n now [] lt = lt
last_below before n now (v ∷ vs) lt =
    let come = nat_le v.moment now in
    let rest = last_below (if come then n else before) (n + 1) now vs (one_of come before n (length vs) lt) in
    omega (arith, rest)

pub in_force_below : (now : ℕ) (vs : List Version) → 0 < length vs → in_force now vs < length vs
in_force_below now vs some = let below = last_below 0 0 now vs (omega (arith, some)) in omega (arith, below)
