-- What a birth stands on.
use Rattle.std.proofs.Common.{◌≡◌, ◌≢◌, ℕ, ◌<◌, not, true, false, List, Option, Some, None, is_none, length, refl, ap, sym, ◌∙◌, arith}
use Rattle.std.proofs.lemmas.Bool.{and_parts, false≢true, true≢false}
use Rattle.std.proofs.lemmas.Bool.Decides.{nat_tests}
use Rattle.net_base.specs.declared.address.Addr.{Addr}
use Rattle.net_base.specs.declared.address.Pair.{Pair}
use Rattle.net_base.specs.declared.il.StateName.{StateName}
use Rattle.net_base.specs.declared.il.StateName.TheVariants as name
use Rattle.net_base.specs.declared.packet.Packet.{Packet}
use Rattle.net_base.specs.Directory.{Dir, Slot, Key, Exactly, ByPort, ByAny, first_slot, is_announced, is_free, is_keyed, key_at, match_of, is_first_packet, may_take, or_else, pair_place}
use Rattle.net_base.specs.Mirror.{mirror}
use Rattle.net_base.specs.Same.{same_pair}
use Rattle.host_dir.specs.declared.slots.TakerAt.{TakerAt}
use Rattle.host_dir.specs.Found.{found_at, slot_at}
use Rattle.host_dir.specs.Taking.{TakesSlot}
use Rattle.host_dir.proofs.Firsts.{passes_at}
use Rattle.net_base.proofs.Shared.{none_is}

-- what matches announces
announces : (a : Addr) (slots : List Slot) (n : ℕ) → match_of a slots ≡ found_at slots (Some n) → is_announced (slot_at slots n).kind ≡ true
announces a slots n is = go (first_slot (is_keyed (key_at Exactly a)) 0 slots) (first_slot (is_keyed (key_at ByPort a)) 0 slots) refl refl is
  where
    keyed : (key : Key) → first_slot (is_keyed key) 0 slots ≡ found_at slots (Some n) → is_announced (slot_at slots n).kind ≡ true
    keyed key is = (and_parts (is_announced (slot_at slots n).kind) _ (passes_at (is_keyed key) slots n is)).0

    go : (x y : Option (ℕ × Slot)) → first_slot (is_keyed (key_at Exactly a)) 0 slots ≡ x → first_slot (is_keyed (key_at ByPort a)) 0 slots ≡ y
        → or_else x (or_else y (first_slot (is_keyed (key_at ByAny a)) 0 slots)) ≡ found_at slots (Some n) → is_announced (slot_at slots n).kind ≡ true
    go (Some x) y one two same = keyed (key_at Exactly a) (one ∙ same)
    go None (Some y) one two same = keyed (key_at ByPort a) (two ∙ same)
    go None None one two same = keyed (key_at ByAny a) same

pub takes_is : (d : Dir) (pair : Pair) (packet : Packet) (free listener : ℕ)
    → first_slot is_free 0 d.slots ≡ found_at d.slots (Some free) → match_of packet.dst d.slots ≡ found_at d.slots (Some listener)
    → free < length d.slots → listener < length d.slots → may_take pair packet (slot_at d.slots listener) d ≡ true
    → TakesSlot d pair (record { free = free; listener = listener })
takes_is d pair packet free listener one two low high tests =
    let new = and_parts (is_none (pair_place pair 1 d.pairs)) _ tests in
    let apart = and_parts (not (same_pair pair (mirror pair))) _ new.1 in
    let bears = and_parts (is_first_packet packet.body) _ apart.1 in
    record {
      free_within = low;
      free = passes_at is_free d.slots free one;
      listener_within = high;
      announces = announces packet.dst d.slots listener two;
      room = grind (arith, nat_tests, bears.1);
      new = none_is _ new.0;
    }

-- a free slot doesn't announce
free_or_announced : (s : Slot) (kind : StateName) → kind ≡ s.kind → is_free s ≡ true → is_announced kind ≡ true → ⊥
free_or_announced s name.Announced e free announces =
    let same : is_free s ≡ false = ap (λ (k : StateName). is_free (record s { kind = k })) (sym e) in
    true≢false (sym free ∙ same)
free_or_announced s _ e free announces = false≢true announces

pub two_slots : (d : Dir) (pair : Pair) (t : TakerAt) → TakesSlot d pair t → t.free ≢ t.listener
two_slots d pair t takes same =
    let s = slot_at d.slots t.listener in
    free_or_announced s s.kind refl (ap (λ (n : ℕ). is_free (slot_at d.slots n)) (sym same) ∙ takes.free) takes.announces
