-- Callers by their places.
use Rattle.std.proofs.Common.{◌≡◌, ℕ, ◌-◌, ◌<◌, ◌≤◌, true, length, nat_lt, Option, ap, arith}
use Rattle.std.specs.Option.{option_map_or}
use Rattle.std.proofs.lemmas.Bool.{lt-ltb}
use Rattle.std.proofs.lemmas.Option.{slice_get_past}
use Rattle.net_base.specs.declared.world.Script.{Script}
use Rattle.net_base.specs.declared.world.World.{World}
use Rattle.net_base.specs.Callers.{IsScript, IsCourier, caller_of, clock_number, other_caller}

pub is_courier : (w : World) (c place : ℕ) → place ≡ c - length w.scripts → length w.scripts ≤ c → place < length w.media
    → other_caller w c ≡ IsCourier place
is_courier w c place is past within =
    let before : nat_lt c (clock_number w) ≡ true = lt-ltb c (clock_number w) (omega (arith, is, past, within)) in
    rw before (ap (λ (i : ℕ). IsCourier i) same)
  where
    same : c - length w.scripts ≡ place
    same = omega (arith, is)

pub is_no_script : (w : World) (c : ℕ) → length w.scripts ≤ c → caller_of w c ≡ other_caller w c
is_no_script w c past =
    ap (λ (o : Option Script). option_map_or (λ (t : Script). IsScript t) o (other_caller w c)) (slice_get_past w.scripts c past)
