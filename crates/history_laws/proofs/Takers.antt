-- Which slots are found, and what holds of who takes a packet.
use Rattle.std.proofs.Common.{◌≡◌, ℕ, suc, ◌+◌, not, Bool, true, false, cond, List, [], ◌∷◌, Option, Some, None, is_none, refl, ap, ◌∙◌, subst, if◌then◌else◌, slice_get, arith}
use Rattle.std.specs.Option.{option_and_then}
use Rattle.std.proofs.lemmas.Option.{none-some, same_Some}
use Rattle.std.proofs.lemmas.Bool.{and_parts, not-true}
use Rattle.net_base.specs.declared.address.Addr.{Addr}
use Rattle.net_base.specs.declared.address.Pair.{Pair}
use Rattle.net_base.specs.declared.packet.Packet.{Packet}
use Rattle.net_base.specs.Directory.{Key, Slot, Dir, is_free, is_announced, is_keyed, Exactly, ByPort, ByAny, key_at, match_of, or_else, first_slot, pair_place, Taker, taker_of, is_first_packet, may_take}
use Rattle.net_base.specs.Mirror.{mirror}
use Rattle.net_base.specs.Same.{same_pair}
use Rattle.net_base.proofs.Shared.{none_is}

-- Slots.

first_slot_at : (p : Slot → Bool) (n : ℕ) (ss : List Slot) (f : ℕ × Slot) → first_slot p n ss ≡ Some f → (j : ℕ) × (f.0 ≡ n + j) × (slice_get ss j ≡ Some f.1) × (p f.1 ≡ true)
first_slot_at p n [] f is = absurd (none-some f is)
first_slot_at p n (s ∷ ss) f is = go (p s) refl is (first_slot_at p (n + 1) ss f)
  where
    go : (b : Bool) → p s ≡ b → cond b (Some (n, s)) (first_slot p (n + 1) ss) ≡ Some f → (first_slot p (n + 1) ss ≡ Some f → (j : ℕ) × (f.0 ≡ (n + 1) + j) × (slice_get ss j ≡ Some f.1) × (p f.1 ≡ true))
        → (j : ℕ) × (f.0 ≡ n + j) × (slice_get (s ∷ ss) j ≡ Some f.1) × (p f.1 ≡ true)
    go true passes is later =
        let same : ◌≡◌ {A = ℕ × Slot} (n, s) f = same_Some _ _ is in
        (0, omega (arith, ap (λ (x : ℕ × Slot). x.0) same), ap (λ (x : ℕ × Slot). Some x.1) same, subst (λ (x : ℕ × Slot). p x.1 ≡ true) same passes)
    go false passes is later = let r = later is in (suc r.0, omega (arith, r.1), r.2, r.3)

-- the slot that is found stands at its number
pub slot_found : (p : Slot → Bool) (ss : List Slot) (f : ℕ × Slot) → first_slot p 0 ss ≡ Some f → (slice_get ss f.0 ≡ Some f.1) × (p f.1 ≡ true)
slot_found p ss f is = let r = first_slot_at p 0 ss f is in (subst (λ (j : ℕ). slice_get ss j ≡ Some f.1) (omega (arith, r.1)) r.2, r.3)

-- the slot that matches announces
keyed_at : (key : Key) (slots : List Slot) (found : ℕ × Slot) → first_slot (is_keyed key) 0 slots ≡ Some found → (slice_get slots found.0 ≡ Some found.1) × (is_announced found.1.kind ≡ true)
keyed_at key slots found is =
    let there = slot_found (is_keyed key) slots found is in
    (there.0, (and_parts (is_announced found.1.kind) _ there.1).0)

pub match_at : (a : Addr) (slots : List Slot) (found : ℕ × Slot) → match_of a slots ≡ Some found → (slice_get slots found.0 ≡ Some found.1) × (is_announced found.1.kind ≡ true)
match_at a slots found is = go (first_slot (is_keyed (key_at Exactly a)) 0 slots) (first_slot (is_keyed (key_at ByPort a)) 0 slots) refl refl is
  where
    go : (x y : Option (ℕ × Slot)) → first_slot (is_keyed (key_at Exactly a)) 0 slots ≡ x → first_slot (is_keyed (key_at ByPort a)) 0 slots ≡ y
        → or_else x (or_else y (first_slot (is_keyed (key_at ByAny a)) 0 slots)) ≡ Some found → (slice_get slots found.0 ≡ Some found.1) × (is_announced found.1.kind ≡ true)
    go (Some x) y one two same = keyed_at (key_at Exactly a) slots found (one ∙ same)
    go None (Some y) one two same = keyed_at (key_at ByPort a) slots found (two ∙ same)
    go None None one two same = keyed_at (key_at ByAny a) slots found same

-- what holds of a taker
pub record TakerFound (pair : Pair) (packet : Packet) (d : Dir) (t : Taker) : Type 0 where
  pub at_free : slice_get d.slots t.free.0 ≡ Some t.free.1
  pub free : is_free t.free.1 ≡ true
  pub at_listener : slice_get d.slots t.listener.0 ≡ Some t.listener.1
  pub announces : is_announced t.listener.1.kind ≡ true
  pub unlisted : pair_place pair 1 d.pairs ≡ None
  pub apart : same_pair pair (mirror pair) ≡ false
  pub bears : is_first_packet packet.body ≡ true

abbrev taken : Pair → Packet → Dir → Option (ℕ × Slot) → Option (ℕ × Slot) → Option Taker
taken pair packet d x y =
    option_and_then (λ (free : ℕ × Slot). option_and_then (λ (listener : ℕ × Slot).
    if may_take pair packet listener.1 d then Some (record { free = free; listener = listener }) else None) y) x

pub taker_found : (pair : Pair) (packet : Packet) (d : Dir) (t : Taker) → taker_of pair packet d ≡ Some t → TakerFound pair packet d t
taker_found pair packet d t is = go (first_slot is_free 0 d.slots) (match_of packet.dst d.slots) refl refl is
  where
    by : (free listener : ℕ × Slot) (b : Bool) → first_slot is_free 0 d.slots ≡ Some free → match_of packet.dst d.slots ≡ Some listener → may_take pair packet listener.1 d ≡ b
        → (if b then Some (record { free = free; listener = listener }) else None) ≡ Some t → TakerFound pair packet d t
    by free listener false one two tests same = absurd (none-some t same)
    by free listener true one two tests same =
        let there = slot_found is_free d.slots free one in
        let hears = match_at packet.dst d.slots listener two in
        let unlisted = and_parts (is_none (pair_place pair 1 d.pairs)) _ tests in
        let apart = and_parts (not (same_pair pair (mirror pair))) _ unlisted.1 in
        subst (λ (t : Taker). TakerFound pair packet d t) (same_Some (record { free = free; listener = listener }) t same) (record {
          at_free = there.0;
          free = there.1;
          at_listener = hears.0;
          announces = hears.1;
          unlisted = none_is _ unlisted.0;
          apart = not-true _ apart.0;
          bears = (and_parts (is_first_packet packet.body) _ apart.1).0;
        })

    go : (x y : Option (ℕ × Slot)) → first_slot is_free 0 d.slots ≡ x → match_of packet.dst d.slots ≡ y → taken pair packet d x y ≡ Some t → TakerFound pair packet d t
    go None y one two same = absurd (none-some t same)
    go (Some free) None one two same = absurd (none-some t same)
    go (Some free) (Some listener) one two same = by free listener (may_take pair packet listener.1 d) one two refl same
