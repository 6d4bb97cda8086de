-- What holds of the calls that wait at the slots of a directory holds after each of its steps, and of the calls that the step tells.
use Rattle.std.proofs.Common.{◌≡◌, ℕ, zero, suc, ◌+◌, ◌&&◌, not, Bool, true, false, List, [], ◌∷◌, length, Option, Some, None, is_none, if◌then◌else◌, nat_lt, slice_get, slice_set, refl, ap, subst, ◌∙◌, ◌++◌}
use Rattle.std.specs.Option.{option_and_then}
use Rattle.std.proofs.lemmas.Option.{none-some, same_Some, slice_get_within}
use Rattle.net_base.specs.declared.actor.Call.{Call}
use Rattle.net_base.specs.declared.address.Pair.{Pair}
use Rattle.net_base.specs.declared.address.Proto.{Proto}
use Rattle.net_base.specs.declared.event.Event.{Event}
use Rattle.net_base.specs.declared.history.With.{With}
use Rattle.net_base.specs.declared.packet.Packet.{Packet}
use Rattle.net_base.specs.declared.world.World.{World}
use Rattle.net_base.specs.ActorStep.{Step}
use Rattle.net_base.specs.Directory.{Dir, Slot, Taker, first_slot, is_free, match_of, is_first_packet, may_take, packet_pair, pair_place, taker_of}
use Rattle.net_base.specs.Mirror.{mirror}
use Rattle.net_base.specs.Same.{same_pair}
use Rattle.history_laws.proofs.Takers.{taker_found}
use Rattle.history_laws.specs.DirRows.{DirRow}
use Rattle.history_laws.specs.DirRows as row
use Rattle.history_laws.specs.Waiting.{EachWaiting, IsOfWaiting, OfTold}

-- Slots.

pub waiting_at : (Q : List Call → Type 0) (ss : List Slot) (n : ℕ) (s : Slot) → EachWaiting Q ss → slice_get ss n ≡ Some s → Q s.calls
waiting_at Q [] n s all at = absurd (none-some s at)
waiting_at Q (x ∷ ss) zero s all at = subst (λ (y : Slot). Q y.calls) (same_Some x s at) all.0
waiting_at Q (x ∷ ss) (suc n) s all at = waiting_at Q ss n s all.1 at

set : (Q : List Call → Type 0) (ss : List Slot) (n : ℕ) (s : Slot) → EachWaiting Q ss → Q s.calls → EachWaiting Q (slice_set ss n s)
set Q [] n s all new = tt
set Q (x ∷ ss) zero s all new = (new, all.1)
set Q (x ∷ ss) (suc n) s all new = (all.0, set Q ss n s all.1 new)

-- Takers.

-- fewer than ten wait where a call comes
has_room : (pair : Pair) (packet : Packet) (d : Dir) (x y : Option (ℕ × Slot)) (t : Taker)
    → option_and_then (λ (free : ℕ × Slot). option_and_then (λ (listener : ℕ × Slot).
    if may_take pair packet listener.1 d
    then Some (record { free = free; listener = listener })
    else None) y) x ≡ Some t
    → nat_lt (length t.listener.1.calls) 10 ≡ true
has_room pair packet d None y t is = absurd (none-some t is)
has_room pair packet d (Some free) None t is = absurd (none-some t is)
has_room pair packet d (Some free) (Some listener) t is =
    by (is_none (pair_place pair 1 d.pairs)) (not (same_pair pair (mirror pair))) (is_first_packet packet.body) (nat_lt (length listener.1.calls) 10) refl is
  where
    by : (p q r b : Bool) → nat_lt (length listener.1.calls) 10 ≡ b
        → (if p && (q && (r && b)) then Some (record { free = free; listener = listener }) else None) ≡ Some t
        → nat_lt (length t.listener.1.calls) 10 ≡ true
    by true true true true has same =
        subst (λ (u : Taker). nat_lt (length u.listener.1.calls) 10 ≡ true) (same_Some (record { free = free; listener = listener }) t same) has
    by true true true false has same = absurd (none-some t same)
    by true true false b has same = absurd (none-some t same)
    by true false r b has same = absurd (none-some t same)
    by false q r b has same = absurd (none-some t same)

-- Steps.

module _ (Q : List Call → Type 0) (w : World) (h : ℕ) (p : Proto) (d : Dir) (keeps : IsOfWaiting Q (length d.slots)) (all : EachWaiting Q d.slots) where
  at : (n : ℕ) (s : Slot) → slice_get d.slots n ≡ Some s → Q s.calls
  at n s there = waiting_at Q d.slots n s all there

  heard : (s : Slot) (c : Call) (calls : List Call) → s.calls ≡ c ∷ calls → Q s.calls → Q calls
  heard s c calls wait is = keeps.rest c calls (subst Q wait is)

  born : (packet : Packet) (t : Taker) (fresh listener : Slot) → taker_of (packet_pair packet) packet d ≡ Some t → fresh.calls ≡ []
      → listener.calls ≡ t.listener.1.calls ++ record { slot = t.free.0; generation = t.free.1.generation + 1 } ∷ []
      → EachWaiting Q (slice_set (slice_set d.slots t.free.0 fresh) t.listener.0 listener)
  born packet t fresh listener takes none more =
      let found = taker_found (packet_pair packet) packet d t takes in
      let room = has_room (packet_pair packet) packet d (first_slot is_free 0 d.slots) (match_of packet.dst d.slots) t takes in
      set Q _ t.listener.0 listener (set Q d.slots t.free.0 fresh all (rw none keeps.none))
      (rw more
      (keeps.more (record { slot = t.free.0; generation = t.free.1.generation + 1 }) t.listener.1.calls
      (slice_get_within d.slots t.free.0 t.free.1 found.at_free) room (at t.listener.0 t.listener.1 found.at_listener)))

  pub waiting_stays : (e : Event) (gift : With) (s : Step Dir) → DirRow w h p d e gift s → EachWaiting Q s.state.slots
  waiting_stays e gift s (row.Reserves {n = n} found) = set Q d.slots n _ all keeps.none
  waiting_stays e gift s (row.Grants {n = n} {s = x} there reserved by drawn other new) = set Q d.slots n _ all (at n x there)
  waiting_stays e gift s (row.Announces {n = n} {s = x} there) = set Q d.slots n _ all (at n x there)
  waiting_stays e gift s (row.Binds {n = n} {s = x} there) = set Q d.slots n _ all (at n x there)
  waiting_stays e gift s (row.Listens {n = n} {s = x} {c = c} {calls = calls} there wait) = set Q d.slots n _ all (heard x c calls wait (at n x there))
  waiting_stays e gift s (row.Withdraws {n = n} there) = set Q d.slots n _ all keeps.none
  waiting_stays e gift s (row.Frees {n = n} there) = set Q d.slots n _ all keeps.none
  waiting_stays e gift s (row.Bears {packet = packet} {t = t} of takes) = born packet t _ _ takes refl refl
  waiting_stays e gift s _ = all

  pub waiting_told : (e : Event) (gift : With) (s : Step Dir) → DirRow w h p d e gift s → OfTold Q s.outcome.reply
  waiting_told e gift s (row.Withdraws {n = n} {s = x} there) = at n x there
  waiting_told e gift s (row.Frees {n = n} {s = x} there) = at n x there
  waiting_told e gift s _ = tt

-- a step changes no slot's number
many_set : (ss : List Slot) (n : ℕ) (s : Slot) → length (slice_set ss n s) ≡ length ss
many_set [] n s = refl
many_set (x ∷ ss) zero s = refl
many_set (x ∷ ss) (suc n) s = ap suc (many_set ss n s)

pub slots_stay : (w : World) (h : ℕ) (p : Proto) (d : Dir) (e : Event) (gift : With) (s : Step Dir) → DirRow w h p d e gift s → length s.state.slots ≡ length d.slots
slots_stay w h p d e gift s (row.Reserves {n = n} found) = many_set d.slots n _
slots_stay w h p d e gift s (row.Grants {n = n} there reserved by drawn other new) = many_set d.slots n _
slots_stay w h p d e gift s (row.Announces {n = n} there) = many_set d.slots n _
slots_stay w h p d e gift s (row.Binds {n = n} there) = many_set d.slots n _
slots_stay w h p d e gift s (row.Listens {n = n} there wait) = many_set d.slots n _
slots_stay w h p d e gift s (row.Withdraws {n = n} there) = many_set d.slots n _
slots_stay w h p d e gift s (row.Frees {n = n} there) = many_set d.slots n _
slots_stay w h p d e gift s (row.Bears {t = t} of takes) = many_set (slice_set d.slots t.free.0 _) t.listener.0 _ ∙ many_set d.slots t.free.0 _
slots_stay w h p d e gift s _ = refl
