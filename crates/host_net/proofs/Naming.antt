-- Who the caller of a number is.
use Rattle.std.proofs.Common.{◌≡◌, ℕ, ◌-◌, ◌<◌, ◌≤◌, ◌==◌, nat_lt, Bool, true, false, length, Option, None}
use Rattle.std.proofs.Common.{slice_get, if◌then◌else◌, refl, ap, sym, ◌∙◌, arith}
use Rattle.std.specs.Option.{option_map_or}
use Rattle.std.proofs.lemmas.Bool.{eq-eqb, lt-ltb}
use Rattle.std.proofs.lemmas.Bool.Decides.{nat_tests}
use Rattle.std.proofs.lemmas.Option.{slice_get_past}
use Rattle.net_base.specs.declared.world.Script.{Script}
use Rattle.net_base.specs.declared.world.World.{World}
use Rattle.net_base.specs.Callers.{IsClock, IsCourier, IsNobody, IsScript, caller_count, caller_of, clock_number, first_courier, other_caller}
use Rattle.net_locks.proofs.Shared.{clock_at}

by_script : (w : World) (c : ℕ) (o : Option Script) → slice_get w.scripts c ≡ o
    → caller_of w c ≡ option_map_or (λ (s : Script). IsScript s) o (other_caller w c)
by_script w c o is = ap (λ (q : Option Script). option_map_or (λ (s : Script). IsScript s) q (other_caller w c)) is

by_number : (w : World) (c : ℕ) (a b : Bool) → nat_lt c (clock_number w) ≡ a → (c == clock_number w) ≡ b
    → other_caller w c ≡ (if a then IsCourier (c - first_courier w) else (if b then IsClock else IsNobody))
by_number w c a b lt is =
    ap (λ (x : Bool). if x then IsCourier (c - first_courier w) else (if c == clock_number w then IsClock else IsNobody)) lt
    ∙ ap (λ (x : Bool). if a then IsCourier (c - first_courier w) else (if x then IsClock else IsNobody)) is

not_below : (m n : ℕ) → m ≡ n → nat_lt m n ≡ false
not_below m n is = grind (arith, nat_tests)

pub courier_of : (w : World) (c : ℕ) → length w.scripts ≤ c → c - length w.scripts < length w.media → caller_of w c ≡ IsCourier (c - length w.scripts)
courier_of w c le lt =
    by_script w c None (slice_get_past w.scripts c le) ∙ by_number w c true (c == clock_number w) (lt-ltb c (clock_number w) (omega (arith, le, lt))) refl

pub clock_of : (w : World) (c : ℕ) → length w.scripts ≤ c → length w.media ≤ c - length w.scripts → c < caller_count w → caller_of w c ≡ IsClock
clock_of w c le ge lt =
    let is : c ≡ clock_number w = omega (arith, le, ge, lt) in
    by_script w c None (slice_get_past w.scripts c le) ∙ by_number w c false true (not_below c (clock_number w) is) (eq-eqb c (clock_number w) is)

-- there is one clock
pub one_clock : (w : World) (a b : ℕ) → caller_of w a ≡ IsClock → caller_of w b ≡ IsClock → a ≡ b
one_clock w a b first second = clock_at w a first ∙ sym (clock_at w b second)
