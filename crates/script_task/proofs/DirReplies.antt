-- A directory keeps 32 slots, the calls that wait there are below 32, and its replies fit their events.
use Rattle.std.proofs.Common.{◌≡◌, ℕ, zero, suc, ◌<◌, nat_lt, true, List, [], ◌∷◌, ◌++◌, length, replicate, Some, slice_get, refl, subst, ◌∙◌, rules, tests, arith}
use Rattle.std.proofs.lemmas.Option.{none-some, slice_get_within}
use Rattle.net_base.specs.declared.actor.Call.{Call}
use Rattle.net_base.specs.declared.address.Proto.{Proto}
use Rattle.net_base.specs.declared.event.Event.{Event}
use Rattle.net_base.specs.declared.event.Event.TheVariants as event
use Rattle.net_base.specs.declared.history.With.{With}
use Rattle.net_base.specs.declared.reply.Reply.TheVariants as reply
use Rattle.net_base.specs.declared.world.World.{World}
use Rattle.net_base.specs.ActorStep.{Step}
use Rattle.net_base.specs.Actors.{opening_dir}
use Rattle.net_base.specs.Directory.{Dir, Slot, free_slot, is_free}
use Rattle.history_laws.proofs.Shared.{slot_found}
use Rattle.script_task.specs.Fitting.{fits}
use Rattle.history_laws.specs.DirRows.{DirRow, slot_in}
use Rattle.history_laws.specs.DirRows as row
use Rattle.history_laws.specs.Waiting.{EachWaiting, IsOfWaiting}
use Rattle.history_laws.proofs.Shared.{slots_stay, waiting_at, waiting_stays}

-- Slots.

-- the calls are of slots below 32
abbrev pub AreLow : List Call → Type 0
AreLow [] = Unit {0}
AreLow (c ∷ cs) = (c.slot < 32) × AreLow cs

-- 32 slots, at which calls of slots below 32 wait
pub record Fine (slots : List Slot) : Type 0 where
  pub many : length slots ≡ 32
  pub low : EachWaiting AreLow slots

low_push : (cs : List Call) (c : Call) → AreLow cs → c.slot < 32 → AreLow (cs ++ c ∷ [])
low_push [] c low lt = (lt, tt)
low_push (x ∷ cs) c low lt = (low.0, low_push cs c low.1 lt)

stay_low : (slots : List Slot) → length slots ≡ 32 → IsOfWaiting AreLow (length slots)
stay_low slots many = record { none = tt; rest = λ c calls low. low.1; more = λ c calls lt room low. low_push calls c low (omega (arith, lt, many)) }

lt_test : (n : ℕ) → n < 32 → nat_lt n 32 ≡ true
lt_test n lt = search (rules, tests, lt)

-- a slot that stands there is one of the 32
below : (ss : List Slot) (n : ℕ) (s : Slot) → Fine ss → slice_get ss n ≡ Some s → nat_lt n 32 ≡ true
below ss n s fine is = lt_test n (omega (arith, slice_get_within ss n s is, fine.many))

pub opening_fine : Fine opening_dir.slots
opening_fine = record { many = refl; low = none 32 }
  where
    none : (n : ℕ) → EachWaiting AreLow (replicate n free_slot)
    none zero = tt
    none (suc n) = (tt, none n)

-- Steps.

-- the slots stay so, and the reply fits
pub record Fits (e : Event) (s : Step Dir) : Type 0 where
  pub fine : Fine s.state.slots
  pub fit : fits e s.outcome.reply ≡ true

-- an older generation fits each event that names a slot
stale_fits : (e : Event) (n g : ℕ) → slot_in e ≡ Some (n, g) → fits e reply.Stale ≡ true
stale_fits (event.Use called) n g names = absurd (none-some _ names)
stale_fits (event.Misuse called) n g names = absurd (none-some _ names)
stale_fits _ n g names = refl

module _ (w : World) (h : ℕ) (p : Proto) (d : Dir) (fine : Fine d.slots) where
  -- the oldest call is of a slot below 32
  called : (n : ℕ) (s : Slot) (c : Call) (calls : List Call) → slice_get d.slots n ≡ Some s → s.calls ≡ c ∷ calls → nat_lt c.slot 32 ≡ true
  called n s c calls at wait = lt_test c.slot (subst AreLow wait (waiting_at AreLow d.slots n s fine.low at)).0

  row_fits : (e : Event) (with : With) (s : Step Dir) → DirRow w h p d e with s → fits e s.outcome.reply ≡ true
  row_fits e with s (row.Stale {n = n} {g = g} names at other) = stale_fits e n g names
  row_fits e with s (row.Reserves {n = n} {s = x} found) = below d.slots n x fine (slot_found is_free d.slots (n, x) found).0
  row_fits e with s (row.Listens {n = n} {s = x} {c = c} {calls = calls} at wait) = called n x c calls at wait
  row_fits e with s _ = refl

  -- every step of a directory
  pub dir_fits : (e : Event) (with : With) (s : Step Dir) → DirRow w h p d e with s → Fits e s
  dir_fits e with s row =
      record {
        fine = record { many = slots_stay w h p d e with s row ∙ fine.many; low = waiting_stays AreLow w h p d (stay_low d.slots fine.many) fine.low e with s row };
        fit = row_fits e with s row;
      }
