-- Which entries a step of a script recorded itself.
use Rattle.std.specs.Prelude.{◌≡◌, ℕ, zero, suc, ◌==◌, ◌&&◌, Bool, true, false, List, [], ◌∷◌, length, take, Option, Some, None, is_none, slice_get, if◌then◌else◌}
use Rattle.std.specs.Map.{lookup}
use Rattle.net_base.specs.declared.event.Event.{Event}
use Rattle.net_base.specs.declared.event.Event.TheVariants as event
use Rattle.net_base.specs.declared.history.Entry.{Entry}
use Rattle.net_base.specs.declared.world.Script.{Script}
use Rattle.net_base.specs.declared.world.World.{World}
use Rattle.net_base.specs.Next.{finished_by, own_replies, zone_of}
use Rattle.replay_views.specs.declared.recorded.Latest.{Latest}

-- an entry of this caller that nothing owed
abbrev pub is_own_entry : ℕ → Entry → Bool
is_own_entry c x = (x.caller == c) && is_none x.cites

-- behind these entries it belongs to the script's step n: so many steps were finished
abbrev pub is_of_step : World → List Entry → ℕ → Script → ℕ → Entry → Bool
is_of_step w past c s n x = is_own_entry c x && (finished_by (zone_of w) (own_replies past c) s == n)

abbrev pub stands_there : World → List Entry → ℕ → Script → ℕ → Option Entry → Bool
stands_there w past c s n None = false
stands_there w past c s n (Some x) = is_of_step w past c s n x

abbrev pub with_stamp : Bool → ℕ → List ℕ → List ℕ
with_stamp own k stamps = if own then k ∷ stamps else stamps

-- the stamps below k of the entries that the step n of the script c recorded itself, newest first
abbrev pub stamps_below : World → List Entry → ℕ → Script → ℕ → ℕ → List ℕ
stamps_below w h c s n zero = []
stamps_below w h c s n (suc k) = with_stamp (stands_there w (take k h) c s n (slice_get h k)) k (stamps_below w h c s n k)

-- all of a history
abbrev pub stamps_of : World → List Entry → ℕ → Script → ℕ → List ℕ
stamps_of w h c s n = stamps_below w h c s n (length h)

-- the newest and the oldest of stamps
abbrev pub newest : List ℕ → Option ℕ
newest [] = None
newest (k ∷ ks) = Some k

abbrev pub oldest : ℕ → List ℕ → ℕ
oldest k [] = k
oldest k (j ∷ js) = oldest j js

-- the newest of stamps whose entry closes no file
abbrev pub is_close : Event → Bool
is_close (event.Close g) = true
is_close _ = false

abbrev pub closes_file : Option Entry → Bool
closes_file None = false
closes_file (Some x) = is_close x.event

abbrev pub deed_noted : Bool → ℕ → Option ℕ → Option ℕ
deed_noted closes k deed = if closes then deed else Some k

abbrev pub deed_among : List Entry → List ℕ → Option ℕ
deed_among h [] = None
deed_among h (k ∷ ks) = deed_noted (closes_file (slice_get h k)) k (deed_among h ks)

abbrev pub latest_of : List Entry → List ℕ → Option Latest
latest_of h [] = None
latest_of h (k ∷ ks) = Some (record { first = oldest k ks; last = k; before = newest ks; deed = deed_among h (k ∷ ks) })

-- Kept by script and step.

abbrev pub same_step : ℕ × ℕ → ℕ × ℕ → Bool
same_step a b = (a.0 == b.0) && (a.1 == b.1)

abbrev pub latest_at : List ((ℕ × ℕ) × Latest) → ℕ × ℕ → Option Latest
latest_at kept key = lookup (same_step key) kept

-- the latest entries below k of each step of each script
abbrev pub AreLatest : World → List Entry → ℕ → List ((ℕ × ℕ) × Latest) → Type 0
AreLatest w h k kept =
    (c : ℕ) (s : Script) (n : ℕ) → slice_get w.scripts c ≡ Some s → latest_at kept (c, n) ≡ latest_of h (stamps_below w h c s n k)

-- with one more
abbrev pub first_known : ℕ → Option Latest → ℕ
first_known k None = k
first_known k (Some l) = l.first

abbrev pub last_known : Option Latest → Option ℕ
last_known None = None
last_known (Some l) = Some l.last

abbrev pub deed_known : Option Latest → Option ℕ
deed_known None = None
deed_known (Some l) = l.deed

abbrev pub latest_noted : Bool → ℕ → Option Latest → Option Latest
latest_noted closes k before =
    Some (record { first = first_known k before; last = k; before = last_known before; deed = deed_noted closes k (deed_known before) })
