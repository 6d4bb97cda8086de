-- Two IL ends, and a network that may lose, repeat and reorder what they say.
use Rattle.std.specs.Prelude.{ℕ, ◌≡◌, ◌-◌, ◌<◌, ◌≤◌, ◌^◌, Bool, true, false, List, [], ◌∷◌, ◌++◌, length, Option, Some, None, is_none, slice_get, nat_lt, if◌then◌else◌, ◌&&◌}
use Rattle.net_base.specs.declared.il.IlKind.{IlKind}
use Rattle.net_base.specs.declared.il.IlKind.TheVariants.{Sync}
use Rattle.net_base.specs.declared.il.IlMsg.{IlMsg}
use Rattle.net_base.specs.declared.il.IlState.{IlState}
use Rattle.net_base.specs.declared.il.IlState.TheVariants.{Established}
use Rattle.net_base.specs.declared.timer.Timers.{Timers}
use Rattle.net_base.specs.IlEnd.{End, Turn, fresh_end}
use Rattle.net_base.specs.IlTable.{arrives, connects, is_born, announced, writes, reads, hangs_up, ticks}

-- an end, and every packet that it ever emitted
pub record Side : Type 0 where
  pub end : End
  pub out : List IlMsg

pub record Talk : Type 0 where
  pub near : Side
  pub far : Side

-- what may happen at an end. A loss is an arrival that never comes
pub data Deed : Type 0 where
  Connects : (now start : ℕ) → Deed
  -- which packet of the other end brings it forth
  Is_born : (now start which : ℕ) → Deed
  Is_announced : Deed
  Writes : (now : ℕ) → (text : List ℕ) → Deed
  Reads : (count : ℕ) → Deed
  -- which packet of the other end comes, again or for the first time
  Arrives : (now which : ℕ) → Deed
  Hangs_up : (now : ℕ) → Deed
  Ticks : (now : ℕ) → Deed

pub data Event : Type 0 where
  Near : Deed → Event
  Far : Deed → Event

abbrev pub out_with : Option IlMsg → List IlMsg → List IlMsg
out_with None out = out
out_with (Some m) out = m ∷ out

abbrev pub leaves : Side → Turn → Side
leaves s t = record { end = t.end; out = out_with t.emits s.out }

-- an end that nothing happened to
abbrev pub is_new : End → Bool
is_new e = e.fresh && is_none e.cause

abbrev pub is_start : ℕ → Bool
is_start n = nat_lt 0 n && nat_lt n (2 ^ 32)

abbrev pub is_sync : IlKind → Bool
is_sync Sync = true
is_sync _ = false

abbrev pub may_write : IlState → Bool
may_write Established = true
may_write _ = false

abbrev pub born_from : ℕ → ℕ → Side → Option IlMsg → Side
born_from now start s None = s
born_from now start s (Some m) = if is_new s.end && is_start start && is_sync m.kind then leaves s (is_born now start m.id s.end) else s

abbrev pub comes_to : ℕ → Side → Option IlMsg → Side
comes_to now s None = s
comes_to now s (Some m) = leaves s (arrives now m s.end)

-- the side after the deed, where the other end's packets are these
abbrev pub does : Side → List IlMsg → Deed → Side
does s out (Connects now start) = if is_new s.end && is_start start then leaves s (connects now start s.end) else s
does s out (Is_born now start which) = born_from now start s (slice_get out which)
does s out Is_announced = if s.end.fresh then record s { end = announced s.end } else s
does s out (Writes now text) =
    if may_write s.end.state && nat_lt (length s.end.sent - s.end.acked) 20 then leaves s (writes now text s.end) else s
does s out (Reads count) = if nat_lt s.end.read_count (length s.end.got) then record s { end = reads count s.end } else s
does s out (Arrives now which) = comes_to now s (slice_get out which)
does s out (Hangs_up now) = leaves s (hangs_up now s.end)
does s out (Ticks now) = leaves s (ticks now s.end)

abbrev pub happens : Talk → Event → Talk
happens t (Near deed) = record t { near = does t.near t.far.out deed }
happens t (Far deed) = record t { far = does t.far t.near.out deed }

abbrev pub run : Talk → List Event → Talk
run t [] = t
run t (e ∷ es) = run (happens t e) es

-- two ends that nothing happened to, with such timers
abbrev pub opening : Timers → Timers → Talk
opening k k' = record { near = record { end = fresh_end k; out = [] }; far = record { end = fresh_end k'; out = [] } }

abbrev pub IsPrefixOf : List (List ℕ) → List (List ℕ) → Type 0
IsPrefixOf xs ys = (rest : List (List ℕ)) × (xs ++ rest ≡ ys)

-- What was accepted at an end was written at the other, in order. What an end counts as acknowledged was accepted.
abbrev pub InOrder : Type 0
InOrder =
    (k k' : Timers) (es : List Event) → length es < 2 ^ 31
    → IsPrefixOf (run (opening k k') es).near.end.got (run (opening k k') es).far.end.sent
    × IsPrefixOf (run (opening k k') es).far.end.got (run (opening k k') es).near.end.sent
    × ((run (opening k k') es).near.end.acked ≤ length (run (opening k k') es).far.end.got)
    × ((run (opening k k') es).far.end.acked ≤ length (run (opening k k') es).near.end.got)
