-- Which callers can continue, by what a run reports of them.
use Rattle.std.proofs.Common.{◌≡◌, ℕ, zero, suc, ◌+◌, ◌<◌, ◌≤◌, ◌==◌, ◌&&◌, Bool, true, false, not, List, [], ◌∷◌, length, filter, Some, is_some, nat_lt, refl, sym, ap, subst, ◌∙◌, arith}
use Rattle.std.specs.Prelude.{IfNone, Option, None}
use Rattle.std.specs.List.{list_all, range_with_len}
use Rattle.std.proofs.lemmas.Bool.{false≢true, lt-ltb, le-ltb, ltb-true, ltb-false, eqb-true, eqb-false, and_left}
use Rattle.net_base.specs.declared.history.Entry.{Entry}
use Rattle.net_base.specs.declared.world.World.{World}
use Rattle.net_base.specs.Actors.{actor_step}
use Rattle.net_base.specs.Callers.{caller_count, clock_number}
use Rattle.net_base.specs.Calm.{callers, can_go_on, most_entries, movable, owes}
use Rattle.net_base.specs.Duties.{Duty}
use Rattle.net_base.specs.Legal.{IsLegal}
use Rattle.net_base.specs.Net.{Net, after, opening_net, owed}
use Rattle.net_base.specs.Next.{by}
use Rattle.net_base.specs.Tasks.{nobody}
use Rattle.net_base.proofs.Shared.{fails_range}
use Rattle.history_laws.proofs.Shared.{clock_waits, past_after, within}
use Rattle.plain_runner.specs.Tracks.{Tracks}
use Rattle.plain_runner.specs.Turns.{is_duty_ready, may_turn, may_turn_by}
use Rattle.plain_runner.specs.declared.runner.Runner.{Runner}
use Rattle.turn_orders.specs.Turns.{IsEnded, comes, goes, has_room, next_entry}
use Rattle.order_search.specs.Walks.{NobodyGoes}

-- What the theorems on turns say.

abbrev pub DutiesAreReady : Type 0
DutiesAreReady = (w : World) (net : Net) (c : ℕ) (d : Duty) (ds : List Duty) → net.owed c ≡ d ∷ ds
    → is_some (next_entry w net c) ≡ is_some (actor_step w d.actor (net.actors d.actor) net.moment (record { event = d.event; with = d.with }))

abbrev pub OwnAreReady : Type 0
OwnAreReady = (w : World) (net : Net) (c : ℕ) → net.owed c ≡ [] → c < clock_number w → is_some (next_entry w net c) ≡ can_go_on w net c

abbrev pub ClockIsReady : Type 0
ClockIsReady = (w : World) (h : List Entry) → (after w h).owed (clock_number w) ≡ []
    → is_some (next_entry w (after w h) (clock_number w)) ≡ movable w (after w h)

-- Room.

past_is : (w : World) (h : List Entry) → (after w h).past ≡ h
past_is w h = past_after w (opening_net w) h

room_by : (n : ℕ) → n ≤ most_entries → (n == most_entries) ≡ false → nat_lt n most_entries ≡ true
room_by n le apart = lt-ltb n most_entries (omega (arith, le, eqb-false n most_entries apart))

has_some_room : (w : World) (h : List Entry) (c : ℕ) → IsLegal w h → (length (by h c) == most_entries) ≡ false → has_room (after w h) c ≡ true
has_some_room w h c legal apart =
    ap (λ (p : List Entry). nat_lt (length (by p c)) most_entries) (past_is w h) ∙ room_by (length (by h c)) (within w h c legal) apart

has_no_room : (w : World) (h : List Entry) (c : ℕ) → (length (by h c) == most_entries) ≡ true → has_room (after w h) c ≡ false
has_no_room w h c full =
    ap (λ (p : List Entry). nat_lt (length (by p c)) most_entries) (past_is w h)
    ∙ le-ltb (length (by h c)) most_entries (omega (arith, eqb-true (length (by h c)) most_entries full))

-- a caller without room can't continue
pub full_stops : (w : World) (h : List Entry) (c : ℕ) (full : Bool) → full ≡ (length (by h c) == most_entries) → full ≡ true → false ≡ goes w (after w h) c
full_stops w h c full is holds = sym (and_left (has_room (after w h) c) (is_some (next_entry w (after w h) c)) (has_no_room w h c (sym is ∙ holds)))

-- a caller with room can continue if its turn is ready
both : (w : World) (h : List Entry) (c : ℕ) (b : Bool) → has_room (after w h) c ≡ true → is_some (next_entry w (after w h) c) ≡ b → goes w (after w h) c ≡ b
both w h c b room ready = ap (λ (a : Bool). a && is_some (next_entry w (after w h) c)) room ∙ ready

-- Turns.

below_clock : (w : World) (c : ℕ) → nat_lt c (clock_number w) ≡ true → c < clock_number w
below_clock w c is = ltb-true c (clock_number w) is

at_clock : (w : World) (c : ℕ) → c < caller_count w → nat_lt c (clock_number w) ≡ false → c ≡ clock_number w
at_clock w c known is = omega (arith, known, ltb-false c (clock_number w) is)

-- a clock with a pending follow-up event cannot move
owing_stays : (w : World) (h : List Entry) (d : Duty) (ds : List Duty) (c : ℕ) → c < caller_count w → owed w h c ≡ d ∷ ds → movable w (after w h) ≡ false
owing_stays w h d ds c known is =
    rw (fails_range (λ (k : ℕ). not (owes (after w h) k)) (caller_count w) 0 c (omega arith) (omega (arith, known)) (ap not owing)) refl
  where
    owing : owes (after w h) c ≡ true
    owing = rw is (lt-ltb 0 (length (d ∷ ds)) (omega arith))

module _ (duties : DutiesAreReady) (own : OwnAreReady) (clock : ClockIsReady) where
  pub duty_tells : (w : World) (h : List Entry) (c : ℕ) (d : Duty) (ds : List Duty) → owed w h c ≡ d ∷ ds
      → is_some (next_entry w (after w h) c) ≡ may_turn w h c
  duty_tells w h c d ds is = duties w (after w h) c d ds is ∙ sym (ap (may_turn_by w (after w h) c) is)

  own_tells : (w : World) (h : List Entry) (c : ℕ) → owed w h c ≡ [] → c < clock_number w → is_some (next_entry w (after w h) c) ≡ may_turn w h c
  own_tells w h c is below = own w (after w h) c is below ∙ sym (ap (may_turn_by w (after w h) c) is)

  -- the clock without a pending follow-up event takes no other turn than a move
  clock_takes_none : (w : World) (h : List Entry) (c : ℕ) → c ≡ clock_number w → owed w h c ≡ [] → may_turn w h c ≡ false
  clock_takes_none w h c at is =
      ap (may_turn_by w (after w h) c) is ∙ (ap (λ (k : ℕ). can_go_on w (after w h) k) at ∙ clock_waits nobody w (after w h))

  clock_tells : (w : World) (h : List Entry) (c : ℕ) → c ≡ clock_number w → owed w h c ≡ [] → is_some (next_entry w (after w h) c) ≡ movable w (after w h)
  clock_tells w h c at is =
      ap (λ (k : ℕ). is_some (next_entry w (after w h) k)) at
      ∙ clock w h (ap (λ (k : ℕ). (after w h).owed k) (sym at) ∙ is)

  -- a turn that may be taken is ready
  turn_is_ready : (w : World) (h : List Entry) (c : ℕ) → c < caller_count w → may_turn w h c ≡ true → is_some (next_entry w (after w h) c) ≡ true
  turn_is_ready w h c known may = by_owed (owed w h c) refl
    where
      by_place : owed w h c ≡ [] → (b : Bool) → nat_lt c (clock_number w) ≡ b → is_some (next_entry w (after w h) c) ≡ true
      by_place is true below = own_tells w h c is (below_clock w c below) ∙ may
      by_place is false above = absurd (false≢true (sym (clock_takes_none w h c (at_clock w c known above) is) ∙ may))

      by_owed : (ds : List Duty) → owed w h c ≡ ds → is_some (next_entry w (after w h) c) ≡ true
      by_owed [] is = by_place is (nat_lt c (clock_number w)) refl
      by_owed (d ∷ ds) is = duty_tells w h c d ds is ∙ may

  -- one that may not be taken isn't, unless the clock can move
  pub turn_is_not : (w : World) (h : List Entry) (c : ℕ) → c < clock_number w → may_turn w h c ≡ false → is_some (next_entry w (after w h) c) ≡ false
  turn_is_not w h c below may = by_owed (owed w h c) refl
    where
      by_owed : (ds : List Duty) → owed w h c ≡ ds → is_some (next_entry w (after w h) c) ≡ false
      by_owed [] is = own_tells w h c is below ∙ may
      by_owed (d ∷ ds) is = duty_tells w h c d ds is ∙ may

  clock_is_ready : (w : World) (h : List Entry) (c : ℕ) → c ≡ clock_number w → may_turn w h c ≡ false
      → is_some (next_entry w (after w h) c) ≡ movable w (after w h)
  clock_is_ready w h c at may = by_owed (owed w h c) refl
    where
      by_owed : (ds : List Duty) → owed w h c ≡ ds → is_some (next_entry w (after w h) c) ≡ movable w (after w h)
      by_owed [] is = clock_tells w h c at is
      by_owed (d ∷ ds) is = duty_tells w h c d ds is ∙ (may ∙ sym (owing_stays w h d ds c (omega (arith, at)) is))

  -- By a run.

  pub goes_ready : (w : World) (r : Runner) (c : ℕ) (full may : Bool) → Tracks w r → c < length r.callers.items
      → full ≡ (length (by r.history.entries c) == most_entries) → full ≡ false → may ≡ may_turn w r.history.entries c → may ≡ true
      → true ≡ goes w (after w r.history.entries) c
  goes_ready w r c full may s known is room told holds =
      let ready : is_some (next_entry w (after w r.history.entries) c) ≡ true =
      turn_is_ready w r.history.entries c (omega (arith, known, s.callers_are.count)) (sym told ∙ holds) in
      sym (both w r.history.entries c true (has_some_room w r.history.entries c s.history.legal (sym is ∙ room)) ready)

  pub goes_not : (w : World) (r : Runner) (c : ℕ) (full may last : Bool) → Tracks w r → c < length r.callers.items
      → full ≡ (length (by r.history.entries c) == most_entries) → full ≡ false → may ≡ may_turn w r.history.entries c → may ≡ false
      → last ≡ (c + 1 == length r.callers.items) → last ≡ false → false ≡ goes w (after w r.history.entries) c
  goes_not w r c full may last s known is room told no_ at apart =
      let ready : is_some (next_entry w (after w r.history.entries) c) ≡ false =
      turn_is_not w r.history.entries c (omega (arith, known, eqb-false (c + 1) (length r.callers.items) (sym at ∙ apart), s.callers_are.count)) (sym told ∙ no_) in
      sym (both w r.history.entries c false (has_some_room w r.history.entries c s.history.legal (sym is ∙ room)) ready)

  pub goes_moving : (w : World) (r : Runner) (c : ℕ) (full may last moves : Bool) → Tracks w r
      → full ≡ (length (by r.history.entries c) == most_entries) → full ≡ false → may ≡ may_turn w r.history.entries c → may ≡ false
      → last ≡ (c + 1 == length r.callers.items) → last ≡ true → moves ≡ movable w (after w r.history.entries) → moves ≡ goes w (after w r.history.entries) c
  goes_moving w r c full may last moves s is room told no_ at holds moving =
      let ready : is_some (next_entry w (after w r.history.entries) c) ≡ movable w (after w r.history.entries) =
      clock_is_ready w r.history.entries c (omega (arith, eqb-true (c + 1) (length r.callers.items) (sym at ∙ holds), s.callers_are.count)) (sym told ∙ no_) in
      moving ∙ sym (both w r.history.entries c (movable w (after w r.history.entries)) (has_some_room w r.history.entries c s.history.legal (sym is ∙ room)) ready)

-- Everybody.

-- nobody up to one more
pub nobody_more : (w : World) (h : List Entry) (from to : ℕ) (b : Bool) → NobodyGoes w h from to → b ≡ goes w (after w h) to → b ≡ false
    → NobodyGoes w h from (to + 1)
nobody_more w h from to b before is no_ c above below = by_last (c == to) refl
  where
    by_last : (e : Bool) → (c == to) ≡ e → goes w (after w h) c ≡ false
    by_last true same = ap (goes w (after w h)) (eqb-true c to same) ∙ (sym is ∙ no_)
    by_last false apart = before c above (omega (arith, below, eqb-false c to apart))

none_passes : (test : ℕ → Bool) (n a : ℕ) → ((c : ℕ) → a ≤ c → c < a + n → test c ≡ false) → filter test (range_with_len a n) ≡ []
none_passes test zero a none = refl
none_passes test (suc n) a none = rw (none a (omega arith) (omega arith)) (none_passes test n (a + 1) (λ c above below. none c (omega (arith, above)) (omega (arith, below))))

-- where nobody can continue the history has ended
pub nobody_ends : (w : World) (r : Runner) → Tracks w r → NobodyGoes w r.history.entries 0 (length r.callers.items) → IsEnded w r.history.entries
nobody_ends w r s none =
    none_passes (goes w (after w r.history.entries)) (caller_count w) 0 (λ c above below. none c above (omega (arith, below, s.callers_are.count)))

pub none_weaker : {P Q : Type 0} → (o : Option ℕ) → (P → Q) → IfNone o P → IfNone o Q
none_weaker None so is = so is
none_weaker (Some c) so is = tt
