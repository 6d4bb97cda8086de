-- A directory gives a conversation one pair, by a local address of its own host, and sends on what arrives to it.
use Rattle.std.proofs.Common.{◌≡◌, ℕ, ◌+◌, ◌<◌, ◌≤◌, true, false, List, [], ◌∷◌, ◌++◌, Option, Some, None, not, slice_get, ◌⊎◌, inl, inr, refl, sym, ap, subst, ◌∙◌, arith}
use Rattle.std.specs.Prelude.{IfSome, slice_set}
use Rattle.std.proofs.lemmas.Option.{none-some, same_Some}
use Rattle.std.proofs.lemmas.Bool.{and_parts}
use Rattle.net_base.specs.declared.actor.ActorName.{ActorName}
use Rattle.net_base.specs.declared.actor.ActorName.TheVariants as actor
use Rattle.net_base.specs.declared.actor.Call.{Call}
use Rattle.net_base.specs.declared.address.Addr.{Addr}
use Rattle.net_base.specs.declared.address.Pair.{Pair}
use Rattle.net_base.specs.declared.address.Proto.{Proto}
use Rattle.net_base.specs.declared.event.Event.{Event}
use Rattle.net_base.specs.declared.event.Event.TheVariants as event
use Rattle.net_base.specs.declared.history.With.{With}
use Rattle.net_base.specs.declared.history.With.TheVariants as given
use Rattle.net_base.specs.declared.il.StateName.{StateName}
use Rattle.net_base.specs.declared.il.StateName.TheVariants as name
use Rattle.net_base.specs.declared.packet.Packet.{Packet}
use Rattle.net_base.specs.declared.world.World.{World}
use Rattle.net_base.specs.ActorStep.{Step}
use Rattle.net_base.specs.declared.reply.Reply.TheVariants as reply
use Rattle.net_base.specs.Directory.{dir_answers, Slot, Dir, free_slot, is_free, is_reserved, Taker, home_at, first_slot, reserves, grants_pair, bears, is_live_with, packet_pair, dir_step}
use Rattle.net_base.specs.Duties.{close_calls, follow_up}
use Rattle.net_base.specs.Routes.{Way, way, has_address}
use Rattle.net_base.specs.Written.{Given, gave}
use Rattle.prefix_law.proofs.Deeds.{both_ways}
use Rattle.history_laws.proofs.Shared.{TakerFound, slot_found, taker_found}
use Rattle.prefix_law.proofs.DirSteps.{set_cases, has_pair_is, free_or_announced}
use Rattle.prefix_law.proofs.Trace.{HasPlaces}
use Rattle.prefix_law.proofs.UdpConvs.{SentIf}
use Rattle.prefix_law.proofs.UdpDuties.{given_to, Emitted, EachDuty, WithFine}
use Rattle.history_laws.specs.DirRows.{DirRow, pair_by, slot_in}
use Rattle.history_laws.specs.DirRows as row
use Rattle.history_laws.proofs.Shared.{dir_rows, map_some}

-- what is known, and that this was given
abbrev pub with_new : Option Given → (Given → Type 0) → Given → Type 0
with_new None K g = K g
with_new (Some x) K g = K g ⊎ (x ≡ g)

-- a slot's pair is that of its generation
pub record SlotFine (K : Given → Type 0) (h : ℕ) (p : Proto) (n : ℕ) (kind : StateName) (generation : ℕ) (pair : Option Pair) : Type 0 where
  pub has : (q : Pair) → pair ≡ Some q → K (given_to h p n generation q)
  pub past : (q : Pair) (g : ℕ) → K (given_to h p n g q) → g ≤ generation
  pub unused : is_reserved kind ≡ true → (q : Pair) (g : ℕ) → K (given_to h p n g q) → g < generation

abbrev pub SlotIsFine : (Given → Type 0) → ℕ → Proto → ℕ → Slot → Type 0
SlotIsFine K h p n s = SlotFine K h p n s.kind s.generation s.pair

abbrev pub DirFine : (Given → Type 0) → ℕ → Proto → List Slot → Type 0
DirFine K h p slots = (n : ℕ) (s : Slot) → slice_get slots n ≡ Some s → SlotIsFine K h p n s

-- what is given has an address of its host, and goes to a conversation that had nothing
pub record IsNew (w : World) (K : Given → Type 0) (a : ActorName) (g : Given) : Type 0 where
  pub actor_is : a ≡ actor.Dir g.to.host g.to.proto
  pub addressed : has_address w g.to.host g.pair.local.ip ≡ true
  pub never : (q : Pair) → K (record { to = g.to; pair = q }) → ⊥

-- what a step leaves
pub record DirStep (w : World) (K : Given → Type 0) (W : Pair → List ℕ → Type 0) (h : ℕ) (p : Proto) (stamp : ℕ) (ev : Event) (gift : With) (s : Step Dir) : Type 0 where
  pub fine : DirFine (with_new (gave (actor.Dir h p) ev gift s.outcome.reply) K) h p s.state.slots
  pub new : IfSome (gave (actor.Dir h p) ev gift s.outcome.reply) (λ g. IsNew w K (actor.Dir h p) g)
  pub sent : SentIf K (actor.Dir h p) ev s.outcome.reply s.outcome.emit
  pub follow : EachDuty w (with_new (gave (actor.Dir h p) ev gift s.outcome.reply) K) W (follow_up (actor.Dir h p) stamp ev gift s.outcome.reply)

-- Slots.

set_fine : (K : Given → Type 0) (h : ℕ) (p : Proto) (slots : List Slot) (n : ℕ) (new : Slot) → DirFine K h p slots → SlotIsFine K h p n new → DirFine K h p (slice_set slots n new)
set_fine K h p slots n new f fine m s is =
    elim (set_cases slots n new m s is) [
      | inl here ↦ subst (λ (x : Slot). SlotIsFine K h p m x) here.1 (subst (λ (i : ℕ). SlotIsFine K h p i new) here.0 fine)
      | inr there ↦ f m s there.1
    ]

-- a slot without a pair, of this generation or a later one
empty_fine : (K : Given → Type 0) (h : ℕ) (p : Proto) (n : ℕ) (s : Slot) (kind : StateName) (g : ℕ) → SlotIsFine K h p n s → s.generation ≤ g → (is_reserved kind ≡ true → s.generation < g) → SlotFine K h p n kind g None
empty_fine K h p n s kind g f le lt = record {
  has = λ q is. absurd (none-some q is);
  past = λ q g' is. omega (arith, f.past q g' is);
  unused = λ r q g' is. omega (arith, f.past q g' is, lt r);
}

-- a slot that isn't reserved any more
not_reserved : (K : Given → Type 0) (h : ℕ) (p : Proto) (n : ℕ) (s : Slot) (kind : StateName) → is_reserved kind ≡ false → SlotIsFine K h p n s → SlotFine K h p n kind s.generation s.pair
not_reserved K h p n s kind not f = record { has = f.has; past = f.past; unused = λ r. absurd (both_ways r not) }

-- another slot, where this one gets a pair
slot_stays : (K : Given → Type 0) (h : ℕ) (p : Proto) (n g : ℕ) (pair : Pair) (m : ℕ) (s : Slot) → (n ≡ m → ⊥) → SlotIsFine K h p m s → SlotIsFine (with_new (Some (given_to h p n g pair)) K) h p m s
slot_stays K h p n g pair m s apart f = record {
  has = λ q is. inl (f.has q is);
  past = λ q g' is. elim is [ inl x ↦ f.past q g' x | inr x ↦ absurd (apart (ap (λ (y : Given). y.to.slot) x)) ];
  unused = λ r q g' is. elim is [ inl x ↦ f.unused r q g' x | inr x ↦ absurd (apart (ap (λ (y : Given). y.to.slot) x)) ];
}

-- the slot that gets it
slot_gets : (K : Given → Type 0) (h : ℕ) (p : Proto) (n g : ℕ) (pair : Pair) (kind : StateName) → is_reserved kind ≡ false → ((q : Pair) (g' : ℕ) → K (given_to h p n g' q) → g' ≤ g) → SlotFine (with_new (Some (given_to h p n g pair)) K) h p n kind g (Some pair)
slot_gets K h p n g pair kind not past = record {
  has = λ q same. inr (ap (λ (x : Pair). given_to h p n g x) (same_Some pair q same));
  past = λ q g' is. elim is [ inl x ↦ past q g' x | inr x ↦ omega (arith, ap (λ (y : Given). y.to.generation) x) ];
  unused = λ r. absurd (both_ways r not);
}

-- The rows.

module _ (w : World) (world : HasPlaces w) (K : Given → Type 0) (W : Pair → List ℕ → Type 0) (h : ℕ) (p : Proto) (stamp : ℕ) (d : Dir) (f : DirFine K h p d.slots) where
  abbrev After : Event → With → Step Dir → Type 0
  After ev gift s = DirStep w K W h p stamp ev gift s

  -- another generation owes nothing
  stale_after : (ev : Event) (gift : With) (n g : ℕ) → slot_in ev ≡ Some (n, g) → After ev gift (dir_answers reply.Stale d)
  stale_after event.Arrive gift n g names = absurd (none-some _ names)
  stale_after _ gift n g names = record { fine = f; new = tt; sent = tt; follow = tt }

  reserves_after : (gift : With) (found : ℕ × Slot) → slice_get d.slots found.0 ≡ Some found.1 → After event.Reserve gift (reserves (Some found) d)
  reserves_after gift found there = record {
    fine = set_fine K h p d.slots found.0 (record free_slot { kind = name.Reserved; generation = found.1.generation + 1 }) f
        (empty_fine K h p found.0 found.1 name.Reserved (found.1.generation + 1) (f found.0 found.1 there) (omega arith) (λ _. omega arith));
    new = tt;
    sent = tt;
    follow = (tt, tt);
  }

  -- a pair goes to a slot that was reserved for it
  grants_after : (gift : With) (n : ℕ) (remote : Addr) (port : Option ℕ) (s : Slot) (out : Way) (own : ℕ) → slice_get d.slots n ≡ Some s → is_reserved s.kind ≡ true
      → way w h remote.ip ≡ Some out → After (event.Grant n s.generation remote port) gift (grants_pair None (home_at w h p) n s (pair_by out own remote) out.mtu d)
  grants_after gift n remote port s out own there reserved by =
      let pair = pair_by out own remote in
      let slot = f n s there in
      let L = with_new (Some (given_to h p n s.generation pair)) K in
      let granted = record s { kind = name.Granted; pair = Some pair } in
      record {
        fine = λ m x is. elim (set_cases d.slots n granted m x is) [
          | inl same ↦ subst (λ (y : Slot). SlotIsFine L h p m y) same.1
              (subst (λ (i : ℕ). SlotIsFine L h p i granted) same.0
              (slot_gets K h p n s.generation pair name.Granted refl (λ q g' o. omega (arith, slot.unused reserved q g' o))))
          | inr old ↦ slot_stays K h p n s.generation pair m x old.0 (f m x old.1)
        ];
        new = record { actor_is = refl; addressed = world.own_source h remote.ip out by; never = λ q o. absurd (omega (arith, slot.unused reserved q s.generation o)) };
        sent = tt;
        follow = (inr refl, tt);
      }

  closes_fine : (calls : List Call) → EachDuty w K W (close_calls h p stamp calls)
  closes_fine [] = tt
  closes_fine (c ∷ calls) = (tt, closes_fine calls)

  -- a packet that brings a conversation forth
  bears_after : (packet : Packet) (t : Taker) → Emitted W packet → has_address w h packet.dst.ip ≡ true → TakerFound (packet_pair packet) packet d t
      → After event.Arrive (given.Packet packet) (bears (home_at w h p) (packet_pair packet) t d)
  bears_after packet t emitted here found =
      let pair : Pair = packet_pair packet in
      let n = t.free.0 in
      let g = t.free.1.generation + 1 in
      let slot = f n t.free.1 found.at_free in
      let L = with_new (Some (given_to h p n g pair)) K in
      let new_free = record free_slot { kind = name.Granted; generation = g; pair = Some pair } in
      let new_listener = record t.listener.1 { calls = t.listener.1.calls ++ record { slot = n; generation = g } ∷ [] } in
      let two_slots : n ≡ t.listener.0 → ⊥ = λ same. free_or_announced t.listener.1.kind t.listener.1
      (subst (λ (x : Slot). is_free x ≡ true) (same_Some t.free.1 t.listener.1 (sym found.at_free ∙ (ap (slice_get d.slots) same ∙ found.at_listener))) found.free) found.announces in
      record {
        fine = λ m x is. elim (set_cases (slice_set d.slots n new_free) t.listener.0 new_listener m x is) [
          | inl same ↦ subst (λ (y : Slot). SlotIsFine L h p m y) same.1
              (subst (λ (i : ℕ). SlotIsFine L h p i new_listener) same.0 (slot_stays K h p n g pair t.listener.0 new_listener two_slots (f t.listener.0 t.listener.1 found.at_listener)))
          | inr old ↦ elim (set_cases d.slots n new_free m x old.1) [
            | inl same ↦ subst (λ (y : Slot). SlotIsFine L h p m y) same.1
                (subst (λ (i : ℕ). SlotIsFine L h p i new_free) same.0 (slot_gets K h p n g pair name.Granted refl (λ q g' o. omega (arith, slot.past q g' o))))
            | inr older ↦ slot_stays K h p n g pair m x older.0 (f m x older.1)
          ]
        ];
        new = record { actor_is = refl; addressed = here; never = λ q o. absurd (omega (arith, slot.past q g o)) };
        sent = tt;
        follow = ((inr refl, emitted), tt);
      }

  -- a packet of a pair that a slot has
  to_after : (packet : Packet) (n : ℕ) (s : Slot) → Emitted W packet → first_slot (is_live_with (packet_pair packet)) 0 d.slots ≡ Some (n, s)
      → After event.Arrive (given.Packet packet) (dir_answers (reply.To n s.generation) d)
  to_after packet n s emitted is =
      let there = slot_found (is_live_with (packet_pair packet)) d.slots (n, s) is in
      let has : s.pair ≡ Some (packet_pair packet) = has_pair_is (packet_pair packet) s.pair (and_parts (not (is_free s)) _ there.1).1 in
      record { fine = f; new = tt; sent = tt; follow = (((f n s there.0).has (packet_pair packet) has, emitted), tt) }

  row_after : (ev : Event) (gift : With) (s : Step Dir) → WithFine w K W (actor.Dir h p) ev gift → DirRow w h p d ev gift s → After ev gift s
  row_after ev gift s fine (row.Stale {n = n} {g = g} names at other) = stale_after ev gift n g names
  row_after ev gift s fine (row.Reserves {n = n} {s = x} found) = reserves_after gift (n, x) (slot_found is_free d.slots (n, x) found).0
  row_after ev gift s fine (row.Grants {n = n} {remote = remote} {port = port} {s = x} {out = out} {own = own} at reserved by drawn other new) =
      grants_after gift n remote port x out own at reserved by
  row_after ev gift s fine (row.Announces {n = n} {s = x} at) = record {
    fine = set_fine K h p d.slots n _ f (not_reserved K h p n x name.Announced refl (f n x at));
    new = tt;
    sent = tt;
    follow = (tt, tt);
  }
  row_after ev gift s fine (row.Binds {n = n} {s = x} at) = record { fine = set_fine K h p d.slots n _ f (f n x at); new = tt; sent = tt; follow = (tt, tt) }
  row_after ev gift s fine (row.Listens {n = n} {s = x} at wait) = record { fine = set_fine K h p d.slots n _ f (f n x at); new = tt; sent = tt; follow = (tt, tt) }
  row_after ev gift s fine (row.Withdraws {n = n} {s = x} at) = record {
    fine = set_fine K h p d.slots n _ f (not_reserved K h p n x name.Withdrawn refl (f n x at));
    new = tt;
    sent = tt;
    follow = closes_fine x.calls;
  }
  row_after ev gift s fine (row.Frees {n = n} {s = x} at) = record {
    fine = set_fine K h p d.slots n _ f (empty_fine K h p n x name.Free x.generation (f n x at) (omega arith) (λ r. absurd (both_ways r refl)));
    new = tt;
    sent = tt;
    follow = closes_fine x.calls;
  }
  row_after ev gift s fine (row.To {packet = packet} {n = n} {s = x} of found) = to_after packet n x fine.0 found
  row_after ev gift s fine (row.Bears {packet = packet} {t = t} of takes) = bears_after packet t fine.0 fine.1 (taker_found (packet_pair packet) packet d t takes)
  row_after ev gift s fine _ = record { fine = f; new = tt; sent = tt; follow = tt }

-- the table of a directory
pub dir_steps : (w : World) (world : HasPlaces w) (K : Given → Type 0) (W : Pair → List ℕ → Type 0) (h : ℕ) (p : Proto) (stamp : ℕ) (ev : Event) (gift : With) (d : Dir) → DirFine K h p d.slots → WithFine w K W (actor.Dir h p) ev gift
    → IfSome (dir_step w h p ev gift d) (λ s. DirStep w K W h p stamp ev gift s)
dir_steps w world K W h p stamp ev gift d f fine =
    map_some (dir_step w h p ev gift d) _ _ (dir_rows w h p d ev gift) (λ s row. row_after w world K W h p stamp d f ev gift s fine row)
