-- The callers of a world: its scripts from 0, then the couriers of its media, then the clock.
use Rattle.std.specs.Prelude.{ℕ, ◌+◌, ◌-◌, length, slice_get, nat_lt, if◌then◌else◌, ◌==◌}
use Rattle.std.specs.Option.{option_map_or}
use Rattle.net_base.specs.declared.world.Script.{Script}
use Rattle.net_base.specs.declared.world.World.{World}

pub data Caller : Type 0 where
  IsScript : Script → Caller
  -- the courier of the medium of this number
  IsCourier : ℕ → Caller
  IsClock : Caller
  IsNobody : Caller

abbrev pub first_courier : World → ℕ
first_courier w = length w.scripts

abbrev pub clock_number : World → ℕ
clock_number w = first_courier w + length w.media

-- how many callers there are
abbrev pub caller_count : World → ℕ
caller_count w = clock_number w + 1

-- the caller of a number that no script has
abbrev pub other_caller : World → ℕ → Caller
other_caller w c =
    if nat_lt c (clock_number w)
    then IsCourier (c - first_courier w)
    else (if c == clock_number w then IsClock else IsNobody)

-- the caller of a number
abbrev pub caller_of : World → ℕ → Caller
caller_of w c = option_map_or (λ (s : Script). IsScript s) (slice_get w.scripts c) (other_caller w c)
