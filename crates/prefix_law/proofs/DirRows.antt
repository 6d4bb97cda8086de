-- The table of a directory, row by row.
use Rattle.std.proofs.Common.{◌≡◌, ℕ, ◌+◌, ◌<◌, ◌≤◌, true, false, List, [], ◌∷◌, ◌++◌, Option, Some, None, is_some, not, slice_get, inl, inr, refl, sym, ap, subst, ◌∙◌, arith}
use Rattle.std.specs.Prelude.{IfSome, slice_set}
use Rattle.std.proofs.lemmas.Option.{none-some, same_Some}
use Rattle.std.proofs.lemmas.Bool.{and_parts, and_left}
use Rattle.net_base.specs.declared.address.Addr.{Addr}
use Rattle.net_base.specs.declared.address.Pair.{Pair}
use Rattle.net_base.specs.declared.actor.Call.{Call}
use Rattle.net_base.specs.declared.address.Proto.TheVariants as proto
use Rattle.net_base.specs.declared.il.StateName.{StateName}
use Rattle.net_base.specs.declared.il.StateName.TheVariants as name
use Rattle.net_base.specs.declared.actor.ActorName.TheVariants as actor
use Rattle.net_base.specs.declared.event.Event.{Event}
use Rattle.net_base.specs.declared.event.Event.TheVariants as event
use Rattle.net_base.specs.declared.reply.Reply.TheVariants as reply
use Rattle.net_base.specs.declared.packet.Packet.{Packet}
use Rattle.net_base.specs.declared.history.With.{With}
use Rattle.net_base.specs.declared.history.With.TheVariants as given
use Rattle.net_base.specs.Same.{same_addr}
use Rattle.net_base.specs.declared.world.World.{World}
use Rattle.net_base.specs.Routes.{Way, way, has_address}
use Rattle.net_base.specs.ActorStep.{Step}
use Rattle.net_base.specs.Directory.{dir_answers, packet_pair, Slot, Dir, free_slot, is_free, is_reserved, Taker, home_at, first_slot, pair_place, reserves, grants_pair, bears, is_live_with, dir_step}
use Rattle.net_base.specs.Duties.{close_calls}
use Rattle.prefix_law.proofs.Trace.{Owner, Trace, dir_trace, HasPlaces}
use Rattle.prefix_law.proofs.Deeds.{both_ways}
use Rattle.prefix_law.proofs.Sides.{put_here}
use Rattle.prefix_law.proofs.Touch.{owner_of, Owned, Later, Emitted, emitted_later}
use Rattle.history_laws.proofs.Shared.{TakerFound, slot_found, taker_found}
use Rattle.prefix_law.proofs.DirSteps.{WithFine, EachDuty, SlotFine, SlotIsFine, DirFine, DirIsFine, Addressed, DirStep, dir_keeps, owns, owner_stays, owner_back, owned_owns, addressed_owns, convs_owns, slot_owns, slot_gets, other_dir_owns, known_owns, set_cases, place_push, place_last, has_pair_is, free_or_announced}
use Rattle.history_laws.specs.DirRows.{DirRow, pair_by, slot_in}
use Rattle.history_laws.specs.DirRows as row
use Rattle.history_laws.proofs.Shared.{dir_rows, map_some}

-- a slot that was had as it is, with another text
set_fine : (t : Trace) (h : ℕ) (d : Dir) (n : ℕ) (new : Slot) → DirIsFine t h d → SlotIsFine t h n new → DirFine t h (slice_set d.slots n new) d.pairs
set_fine t h d n new f fine = record {
  slots_fine = λ m s is. elim (set_cases d.slots n new m s is) [
    | inl here ↦ subst (λ (x : Slot). SlotIsFine t h m x) here.1 (subst (λ (i : ℕ). SlotIsFine t h i new) here.0 fine)
    | inr there ↦ f.slots_fine m s there.1
  ];
  known = f.known;
}

-- a slot without a pair, of this generation or a later one
empty_fine : (t : Trace) (h n : ℕ) (s : Slot) (kind : StateName) (g : ℕ) → SlotIsFine t h n s → s.generation ≤ g → (is_reserved kind ≡ true → s.generation < g) → SlotFine t h n kind g None
empty_fine t h n s kind g f le lt = record {
  has = λ p is. absurd (none-some p is);
  past = λ p g' is. omega (arith, f.past p g' is);
  unused = λ r p g' is. omega (arith, f.past p g' is, lt r);
}

-- nobody has a pair that isn't listed where its address is
nobody : (w : World) (t : Trace) (h : ℕ) (d : Dir) (p : Pair) → HasPlaces w → Addressed w t → DirIsFine t h d → has_address w h p.local.ip ≡ true → pair_place p 1 d.pairs ≡ None → t.owner p ≡ None
nobody w t h d p world a f here none = go (t.owner p) refl
  where
    go : (o : Option Owner) → t.owner p ≡ o → t.owner p ≡ None
    go None is = is
    go (Some o) is =
        let host : o.host ≡ h = world.one_host o.host h p.local.ip (a p o is) here in
        absurd (both_ways (f.known p o is host) (ap (λ (x : Option ℕ). is_some x) none))

module _ (w : World) (world : HasPlaces w) (k h stamp : ℕ) (t : Trace) (owned : Owned k t) (addressed : Addressed w t) (d : Dir) (f : DirIsFine t h d) where
  -- what a step with this reply leaves
  abbrev After : Event → With → Step Dir → Type 0
  After ev gift s = DirStep w k h stamp ev gift t (dir_trace h ev gift s.outcome.reply t) s

  -- another generation owes nothing
  stale_after : (ev : Event) (gift : With) (n g : ℕ) → slot_in ev ≡ Some (n, g) → After ev gift (dir_answers reply.Stale d)
  stale_after event.Arrive gift n g names = absurd (none-some _ names)
  stale_after ev gift n g names = dir_keeps w k h stamp ev gift t _ owned addressed f tt tt

  reserves_after : (gift : With) (found : ℕ × Slot) → slice_get d.slots found.0 ≡ Some found.1 → After event.Reserve gift (reserves (Some found) d)
  reserves_after gift found there =
      dir_keeps w k h stamp event.Reserve gift t _ owned addressed
      (set_fine t h d found.0 (record free_slot { kind = name.Reserved; generation = found.1.generation + 1 }) f
      (empty_fine t h found.0 found.1 name.Reserved (found.1.generation + 1) (f.slots_fine found.0 found.1 there) (omega arith) (λ _. omega arith)))
      tt (tt, tt)

  -- a pair goes to a slot that was reserved for it
  grants_after : (gift : With) (n : ℕ) (remote : Addr) (port : Option ℕ) (s : Slot) (out : Way) (own : ℕ) → slice_get d.slots n ≡ Some s → is_reserved s.kind ≡ true
      → way w h remote.ip ≡ Some out → same_addr (pair_by out own remote).local remote ≡ false → pair_place (pair_by out own remote) 1 d.pairs ≡ None
      → After (event.Grant n s.generation remote port) gift (grants_pair None (home_at w h proto.Il) n s (pair_by out own remote) out.mtu d)
  grants_after gift n remote port s out own there reserved by other unlisted =
      let pair = pair_by out own remote in
      let here = world.own_source h remote.ip out by in
      let free = nobody w t h d pair world addressed f here unlisted in
      let slot = f.slots_fine n s there in
      let was_less : (q : Pair) (g' : ℕ) → t.owner q ≡ owner_of h n g' → g' < s.generation = λ q g' o. slot.unused reserved q g' o in
      record {
        owned = owned_owns t pair h n s.generation free k (and_left _ _ other) (λ q o. absurd (omega (arith, was_less q s.generation o))) owned;
        addressed = addressed_owns t pair h n s.generation free w here addressed;
        fine = record {
          slots_fine = λ m x is'. elim (set_cases d.slots n (record s { kind = name.Granted; pair = Some pair }) m x is') [
            | inl same ↦ subst (λ (y : Slot). SlotIsFine (owns t pair h n s.generation) h m y) same.1
                (subst (λ (i : ℕ). SlotIsFine (owns t pair h n s.generation) h i (record s { kind = name.Granted; pair = Some pair })) same.0
                (slot_gets t pair h n s.generation free name.Granted (Some pair) refl refl (λ q g' o. omega (arith, was_less q g' o))))
            | inr old ↦ slot_owns t pair h n s.generation free m x old.0 (f.slots_fine m x old.1)
          ];
          known = known_owns t pair h n s.generation free d.pairs (d.pairs ++ pair ∷ []) (place_last pair 1 d.pairs) (λ q. place_push q pair 1 d.pairs) f.known;
        };
        other_dirs = other_dir_owns t pair h n s.generation free;
        convs = convs_owns t pair h n s.generation free k owned;
        later = record { owner_stays = owner_stays t pair h n s.generation free; out_stays = λ q m x. x };
        side_same = λ q. refl;
        owner_back = owner_back t pair h n s.generation free (λ q o. absurd (omega (arith, was_less q s.generation o)));
        emitted = tt;
        follow = (put_here t.owner pair (owner_of h n s.generation), tt);
      }

  closes_fine : (calls : List Call) → EachDuty w t (close_calls h proto.Il stamp calls)
  closes_fine [] = tt
  closes_fine (c ∷ calls) = (tt, closes_fine calls)

  -- a slot that isn't reserved any more
  not_reserved : (n : ℕ) (s : Slot) (kind : StateName) → is_reserved kind ≡ false → SlotIsFine t h n s → SlotFine t h n kind s.generation s.pair
  not_reserved n s kind not f = record { has = f.has; past = f.past; unused = λ r. absurd (both_ways r not) }

  -- a packet that brings a conversation forth
  bears_after : (packet : Packet) (taker : Taker) → Emitted t packet → has_address w h packet.dst.ip ≡ true → TakerFound (packet_pair packet) packet d taker
      → After event.Arrive (given.Packet packet) (bears (home_at w h proto.Il) (packet_pair packet) taker d)
  bears_after packet taker emitted here found =
      let pair : Pair = record { local = packet.dst; remote = packet.src } in
      let n = taker.free.0 in
      let g = taker.free.1.generation + 1 in
      let none = nobody w t h d pair world addressed f here found.unlisted in
      let slot = f.slots_fine n taker.free.1 found.at_free in
      let later : Later t (owns t pair h n g) = record { owner_stays = owner_stays t pair h n g none; out_stays = λ q m x. x } in
      let new_free = record free_slot { kind = name.Granted; generation = g; pair = Some pair } in
      let new_listener = record taker.listener.1 { calls = taker.listener.1.calls ++ record { slot = n; generation = g } ∷ [] } in
      let two_slots : n ≡ taker.listener.0 → ⊥ = λ same. free_or_announced taker.listener.1.kind taker.listener.1
      (subst (λ (x : Slot). is_free x ≡ true) (same_Some taker.free.1 taker.listener.1 (sym found.at_free ∙ (ap (slice_get d.slots) same ∙ found.at_listener))) found.free) found.announces in
      record {
        owned = owned_owns t pair h n g none k found.apart (λ q o. absurd (omega (arith, slot.past q g o))) owned;
        addressed = addressed_owns t pair h n g none w here addressed;
        fine = record {
          slots_fine = λ m x is. elim (set_cases (slice_set d.slots n new_free) taker.listener.0 new_listener m x is) [
            | inl same ↦ subst (λ (y : Slot). SlotIsFine (owns t pair h n g) h m y) same.1
                (subst (λ (i : ℕ). SlotIsFine (owns t pair h n g) h i new_listener) same.0
                (slot_owns t pair h n g none taker.listener.0 new_listener two_slots (f.slots_fine taker.listener.0 taker.listener.1 found.at_listener)))
            | inr old ↦ elim (set_cases d.slots n new_free m x old.1) [
              | inl same ↦ subst (λ (y : Slot). SlotIsFine (owns t pair h n g) h m y) same.1
                  (subst (λ (i : ℕ). SlotIsFine (owns t pair h n g) h i new_free) same.0
                  (slot_gets t pair h n g none name.Granted (Some pair) refl refl (λ q g' o. omega (arith, slot.past q g' o))))
              | inr older ↦ slot_owns t pair h n g none m x older.0 (f.slots_fine m x older.1)
            ]
          ];
          known = known_owns t pair h n g none d.pairs (d.pairs ++ pair ∷ []) (place_last pair 1 d.pairs) (λ q. place_push q pair 1 d.pairs) f.known;
        };
        other_dirs = other_dir_owns t pair h n g none;
        convs = convs_owns t pair h n g none k owned;
        later = later;
        side_same = λ q. refl;
        owner_back = owner_back t pair h n g none (λ q o. absurd (omega (arith, slot.past q g o)));
        emitted = tt;
        follow = ((put_here t.owner pair (owner_of h n g), emitted_later t (owns t pair h n g) packet later emitted), tt);
      }

  -- a packet of a pair that a slot has
  to_after : (packet : Packet) (n : ℕ) (s : Slot) → Emitted t packet → first_slot (is_live_with (packet_pair packet)) 0 d.slots ≡ Some (n, s)
      → After event.Arrive (given.Packet packet) (dir_answers (reply.To n s.generation) d)
  to_after packet n s emitted is =
      let there = slot_found (is_live_with (packet_pair packet)) d.slots (n, s) is in
      let has : s.pair ≡ Some (packet_pair packet) = has_pair_is (packet_pair packet) s.pair (and_parts (not (is_free s)) _ there.1).1 in
      dir_keeps w k h stamp event.Arrive (given.Packet packet) t _ owned addressed f tt (((f.slots_fine n s there.0).has (packet_pair packet) has, emitted), tt)

  row_after : (ev : Event) (gift : With) (s : Step Dir) → WithFine w t (actor.Dir h proto.Il) ev gift → DirRow w h proto.Il d ev gift s → After ev gift s
  row_after ev gift s fine (row.Stale {n = n} {g = g} names at other) = stale_after ev gift n g names
  row_after ev gift s fine (row.Reserves {n = n} {s = x} found) = reserves_after gift (n, x) (slot_found is_free d.slots (n, x) found).0
  row_after ev gift s fine (row.Grants {n = n} {remote = remote} {port = port} {s = x} {out = out} {own = own} at reserved by drawn other new) =
      grants_after gift n remote port x out own at reserved by other new
  row_after ev gift s fine (row.Announces {n = n} {s = x} at) =
      dir_keeps w k h stamp ev gift t _ owned addressed (set_fine t h d n _ f (not_reserved n x name.Announced refl (f.slots_fine n x at))) tt (tt, tt)
  row_after ev gift s fine (row.Binds {n = n} {s = x} at) = dir_keeps w k h stamp ev gift t _ owned addressed (set_fine t h d n _ f (f.slots_fine n x at)) tt (tt, tt)
  row_after ev gift s fine (row.Listens {n = n} {s = x} at wait) = dir_keeps w k h stamp ev gift t _ owned addressed (set_fine t h d n _ f (f.slots_fine n x at)) tt (tt, tt)
  row_after ev gift s fine (row.Withdraws {n = n} {s = x} at) =
      dir_keeps w k h stamp ev gift t _ owned addressed (set_fine t h d n _ f (not_reserved n x name.Withdrawn refl (f.slots_fine n x at))) tt (closes_fine x.calls)
  row_after ev gift s fine (row.Frees {n = n} {s = x} at) =
      dir_keeps w k h stamp ev gift t _ owned addressed
      (set_fine t h d n _ f (empty_fine t h n x name.Free x.generation (f.slots_fine n x at) (omega arith) (λ r. absurd (both_ways r refl)))) tt (closes_fine x.calls)
  row_after ev gift s fine (row.To {packet = packet} {n = n} {s = x} of found) = to_after packet n x fine.0 found
  row_after ev gift s fine (row.Bears {packet = packet} {t = taker} of takes) = bears_after packet taker fine.0 fine.1 (taker_found (packet_pair packet) packet d taker takes)
  row_after ev gift s fine (row.Refuses said sync) = dir_keeps w k h stamp ev gift t _ owned addressed f (inr (refl, refl)) tt
  row_after ev gift s fine _ = dir_keeps w k h stamp ev gift t _ owned addressed f tt tt

-- the table of a directory of IL
pub dir_steps : (w : World) (world : HasPlaces w) (k h stamp : ℕ) (t : Trace) (owned : Owned k t) (addressed : Addressed w t) (ev : Event) (gift : With) (d : Dir) → DirIsFine t h d → WithFine w t (actor.Dir h proto.Il) ev gift
    → IfSome (dir_step w h proto.Il ev gift d) (λ s. DirStep w k h stamp ev gift t (dir_trace h ev gift s.outcome.reply t) s)
dir_steps w world k h stamp t owned addressed ev gift d f fine =
    map_some (dir_step w h proto.Il ev gift d) _ _ (dir_rows w h proto.Il d ev gift) (λ s row. row_after w world k h stamp t owned addressed d f ev gift s fine row)
