-- A history has ended if it is done or stopped, and one that has ended is done, stopped or at the limit.
use Rattle.std.proofs.Common.{◌≡◌, ℕ, ◌<◌, ◌≤◌, ◌==◌, ◌&&◌, ◌||◌, nat_lt, inl, inr, Bool, true, false, not, List, [], ◌∷◌, ◌++◌, length, Option, Some, None, is_some, refl, sym, ap, subst, ◌∙◌, arith}
use Rattle.std.specs.Prelude.{IsSome}
use Rattle.std.proofs.lemmas.Bool.{and_from, and_parts, cases_lt, eq-eqb, eqb-true, eqb-false, false≢true, lt-ltb, ltb-false}
use Rattle.net_base.specs.declared.event.Event.{Event}
use Rattle.net_base.specs.declared.event.Event.TheVariants as event
use Rattle.net_base.specs.declared.end.RunEnd.{RunEnd}
use Rattle.net_base.specs.declared.end.RunEnd.TheVariants as ends
use Rattle.net_base.specs.declared.history.Entry.{Entry}
use Rattle.net_base.specs.declared.world.World.{World}
use Rattle.net_base.specs.ActorStep.{Step}
use Rattle.net_base.specs.Actors.{Actor, actor_step}
use Rattle.net_base.specs.Callers.{caller_count, clock_number}
use Rattle.net_base.specs.Calm.{calm, can_go_on, limited, limited_by, most_entries, movable, movable_by, owes, target, unfinished}
use Rattle.net_base.specs.Duties.{Duty}
use Rattle.net_base.specs.Ends.{EndsSo}
use Rattle.net_base.specs.Legal.{IsInTime, IsLegal, IsTimed, MayFollow}
use Rattle.net_base.specs.Net.{Net, after, moment, moment_after, net_after, opening_net, owed, step_of}
use Rattle.net_base.specs.Next.{by}
use Rattle.net_base.specs.Stamped.{In}
use Rattle.net_base.specs.Tasks.{Tasks, nobody}
use Rattle.net_base.specs.World.{IsWorld}
use Rattle.net_base.proofs.Shared.{and_none, not_below, or_none, within_last}
use Rattle.history_laws.specs.Could.{could, is_full}
use Rattle.history_laws.proofs.Shared.{after_push, clock_waits, is_busy, is_calm, past_after, within}
use Rattle.turn_orders.specs.Turns.{IsEnded, comes, goes, has_room, next_entry}
use Rattle.turn_orders.proofs.Coming.{clock_goes, comes_only, comes_there, could_go, duty_goes, own_goes}
use Rattle.turn_orders.proofs.Growing.{by_turns}

-- The theorems on all legal histories that the proofs use.

abbrev pub SomeReady : Type 0
SomeReady = (w : World) (h : List Entry) (c : ℕ) → IsWorld w → IsLegal w h → owes (after w h) c ≡ true
    → (b : ℕ) × (d : Duty) × (ds : List Duty) × (b < caller_count w) × (owed w h b ≡ d ∷ ds)
    × IsSome (actor_step w d.actor ((after w h).actors d.actor) (after w h).moment (record { event = d.event; with = d.with }))

abbrev pub CallerLimits : Type 0
CallerLimits = (ts : Tasks) (w : World) (net : Net) (c : ℕ) → c < caller_count w → is_full net c ≡ true → could ts w net c ≡ true
    → limited_by ts w net ≡ true

abbrev pub ClockLimits : Type 0
ClockLimits = (ts : Tasks) (w : World) (net : Net) → is_full net (clock_number w) ≡ true → movable_by ts w net ≡ true → limited_by ts w net ≡ true

-- The moment is never past the end.

target_within : (w : World) (net : Net) → target w net ≤ w.end
target_within w net = within_last w.end _

after_within : (w : World) (net : Net) (now : ℕ) (e : Event) → IsInTime net w e → now ≤ w.end → moment_after now e ≤ w.end
after_within w net now (event.Move m) is le = let last = target_within w net in let to = is.1 in omega (arith, to, last)
after_within w net now _ is le = le

moment_within : (w : World) (h : List Entry) → IsLegal w h → IsTimed w h → moment w h ≤ w.end
moment_within w h legal timed = by_turns w (λ (k : List Entry). moment w k ≤ w.end) (omega arith) push h legal timed
  where
    push : (k : List Entry) (x : Entry) → IsLegal w k → IsTimed w k → MayFollow w k x → IsInTime (after w k) w x.event → moment w k ≤ w.end
        → moment w (k ++ x ∷ []) ≤ w.end
    push k x legal timed may in_time le =
        subst (λ (net : Net). net.moment ≤ w.end) (sym (after_push w k x)) (at (step_of w (after w k) x))
      where
        at : (o : Option (Step Actor)) → (net_after w (after w k) x o).moment ≤ w.end
        at None = le
        at (Some s) = after_within w (after w k) (after w k).moment x.event in_time le

-- A caller whose turn is ready is full, if the history has ended.

stuck : (w : World) (h : List Entry) (c : ℕ) → IsLegal w h → IsEnded w h → c < caller_count w → is_some (next_entry w (after w h) c) ≡ true
    → is_full (after w h) c ≡ true
stuck w h c legal ended lt some = at (has_room (after w h) c) refl
  where
    at : (b : Bool) → has_room (after w h) c ≡ b → is_full (after w h) c ≡ true
    at true is = absurd (subst (In c) ended (comes_there w h c lt (and_from (has_room (after w h) c) (is_some (next_entry w (after w h) c)) is some)))
    at false is =
        let many = ltb-false (length (by (after w h).past c)) most_entries is in
        let few : length (by (after w h).past c) ≤ most_entries =
        subst (λ (p : List Entry). length (by p c) ≤ most_entries) (sym (past_after w (opening_net w) h)) (within w h c legal) in
        eq-eqb (length (by (after w h).past c)) most_entries (omega (arith, many, few))

owes_some : (net : Net) (c : ℕ) (d : Duty) (ds : List Duty) → net.owed c ≡ d ∷ ds → owes net c ≡ true
owes_some net c d ds is = ap (λ (l : List Duty). nat_lt 0 (length l)) is ∙ lt-ltb 0 (length (d ∷ ds)) (omega arith)

could_owing : (w : World) (net : Net) (c : ℕ) → owes net c ≡ true → could nobody w net c ≡ true
could_owing w net c owing = ap (λ (b : Bool). b || can_go_on w net c) owing

owes_nothing : (net : Net) (c : ℕ) → owes net c ≡ false → net.owed c ≡ []
owes_nothing net c none = at (net.owed c) refl
  where
    at : (ds : List Duty) → net.owed c ≡ ds → net.owed c ≡ []
    at [] is = is
    at (d ∷ ds) is = absurd (false≢true (sym none ∙ owes_some net c d ds is))

-- How it ends.

nobody_could : SomeReady → CallerLimits → (w : World) (h : List Entry) → IsWorld w → IsLegal w h → IsEnded w h → limited w (after w h) ≡ false
    → (c : ℕ) → c < caller_count w → could nobody w (after w h) c ≡ false
nobody_could some limits w h world legal ended free c lt = at (could nobody w (after w h) c) refl
  where
    full_could : (b : ℕ) → b < caller_count w → is_some (next_entry w (after w h) b) ≡ true → could nobody w (after w h) b ≡ true → ⊥
    full_could b near ready going = false≢true (sym free ∙ limits nobody w (after w h) b near (stuck w h b legal ended near ready) going)

    owing : owes (after w h) c ≡ true → ⊥
    owing is =
        let r = some w h c world legal is in
        full_could r.0 r.3 (duty_goes w (after w h) r.0 r.1 r.2 r.4 ∙ r.5) (could_owing w (after w h) r.0 (owes_some (after w h) r.0 r.1 r.2 r.4))

    own : owes (after w h) c ≡ false → can_go_on w (after w h) c ≡ true → ⊥
    own none going = elim (cases_lt c (clock_number w)) [
      | inl near ↦
          full_could c lt (own_goes w (after w h) c (owes_nothing (after w h) c none) near ∙ going) (ap (λ (b : Bool). b || can_go_on w (after w h) c) none ∙ going)
      | inr far ↦
          let same : c ≡ clock_number w = omega (arith, far, lt) in
          false≢true (sym (clock_waits nobody w (after w h)) ∙ subst (λ (d : ℕ). can_go_on w (after w h) d ≡ true) same going)
    ]

    by_owes : (b : Bool) → owes (after w h) c ≡ b → (b || can_go_on w (after w h) c) ≡ true → ⊥
    by_owes true is going = owing is
    by_owes false is going = own is going

    at : (b : Bool) → could nobody w (after w h) c ≡ b → could nobody w (after w h) c ≡ false
    at false is = is
    at true is = absurd (by_owes (owes (after w h) c) refl is)

pub ended_ends : SomeReady → CallerLimits → ClockLimits → (w : World) (h : List Entry) → IsWorld w → IsLegal w h → IsTimed w h → IsEnded w h
    → (e : RunEnd) × EndsSo w (after w h) e
ended_ends some limits clock_limits w h world legal timed ended = by_limit (limited w (after w h)) refl
  where
    at_end : calm w (after w h) ≡ true → limited w (after w h) ≡ false → unfinished w (after w h) ≡ true
        → ((c : ℕ) → c < caller_count w → could nobody w (after w h) c ≡ false) → (b : Bool) → ((after w h).moment == w.end) ≡ b
        → (e : RunEnd) × EndsSo w (after w h) e
    at_end is_calm free left idle true at = (
      ends.Stopped,
      and_from (calm w (after w h)) _ is_calm
          (and_from (not (limited w (after w h))) _ (ap not free) (and_from (unfinished w (after w h)) ((after w h).moment == w.end) left at)),
    )
    at_end is_calm free left idle false at = absurd (false≢true (sym free ∙ clock_limits nobody w (after w h) full moves))
      where
        before : (after w h).moment < w.end
        before = let apart = eqb-false (after w h).moment w.end at in let le = moment_within w h legal timed in omega (arith, apart, le)

        moves : movable w (after w h) ≡ true
        moves =
            and_from (calm w (after w h)) _ is_calm
            (and_from (unfinished w (after w h)) (nat_lt (after w h).moment w.end) left (lt-ltb (after w h).moment w.end before))

        nothing : (after w h).owed (clock_number w) ≡ []
        nothing = owes_nothing (after w h) (clock_number w)
            (sym (or_none (owes (after w h) (clock_number w)))
            ∙ ap (λ (b : Bool). owes (after w h) (clock_number w) || b) (sym (clock_waits nobody w (after w h)))
            ∙ idle (clock_number w) (omega arith))

        full : is_full (after w h) (clock_number w) ≡ true
        full = stuck w h (clock_number w) legal ended (omega arith) (clock_goes w h nothing ∙ moves)

    by_left : limited w (after w h) ≡ false → ((c : ℕ) → c < caller_count w → could nobody w (after w h) c ≡ false) → (b : Bool)
        → unfinished w (after w h) ≡ b → (e : RunEnd) × EndsSo w (after w h) e
    by_left free idle false through = (
      ends.Done,
      and_from (calm w (after w h)) _ (is_calm nobody w (after w h) idle)
          (and_from (not (limited w (after w h))) (not (unfinished w (after w h))) (ap not free) (ap not through)),
    )
    by_left free idle true left = at_end (is_calm nobody w (after w h) idle) free left idle ((after w h).moment == w.end) refl

    by_limit : (b : Bool) → limited w (after w h) ≡ b → (e : RunEnd) × EndsSo w (after w h) e
    by_limit true is = (ends.Limit, is)
    by_limit false is = by_left is (nobody_could some limits w h world legal ended is) (unfinished w (after w h)) refl

-- A history that is done or stopped has ended.

empty_from : (cs : List ℕ) → ((c : ℕ) → In c cs → ⊥) → cs ≡ []
empty_from [] none = refl
empty_from (c ∷ cs) none = absurd (none c (inl refl))

still_ended : (w : World) (h : List Entry) → calm w (after w h) ≡ true → movable w (after w h) ≡ false → IsEnded w h
still_ended w h is_calm still = empty_from (comes w h) nobody_comes
  where
    not_busy : (c : ℕ) → c < caller_count w → could nobody w (after w h) c ≡ true → ⊥
    not_busy c lt going = false≢true (sym (is_busy nobody w (after w h) c lt going) ∙ is_calm)

    clock_stays : is_some (next_entry w (after w h) (clock_number w)) ≡ true → ⊥
    clock_stays some = at (owes (after w h) (clock_number w)) refl
      where
        at : (b : Bool) → owes (after w h) (clock_number w) ≡ b → ⊥
        at true is = not_busy (clock_number w) (omega arith) (could_owing w (after w h) (clock_number w) is)
        at false is = false≢true (sym still ∙ sym (clock_goes w h (owes_nothing (after w h) (clock_number w) is)) ∙ some)

    nobody_comes : (c : ℕ) → In c (comes w h) → ⊥
    nobody_comes c there = elim (cases_lt c (clock_number w)) [
      | inl near ↦ not_busy c only.0 (could_go w (after w h) c near some)
      | inr far ↦
          let lt = only.0 in
          let same : c ≡ clock_number w = omega (arith, far, lt) in
          clock_stays (subst (λ (d : ℕ). is_some (next_entry w (after w h) d) ≡ true) same some)
    ]
      where
        only : (c < caller_count w) × (goes w (after w h) c ≡ true)
        only = comes_only w h c there

        some : is_some (next_entry w (after w h) c) ≡ true
        some = (and_parts (has_room (after w h) c) (is_some (next_entry w (after w h) c)) only.1).1

pub done_ended : (w : World) (h : List Entry) → EndsSo w (after w h) ends.Done → IsEnded w h
done_ended w h is =
    let first = and_parts (calm w (after w h)) (not (limited w (after w h)) && not (unfinished w (after w h))) is in
    let rest = and_parts (not (limited w (after w h))) (not (unfinished w (after w h))) first.1 in
    still_ended w h first.0 (ap (λ (b : Bool). calm w (after w h) && (b && nat_lt (after w h).moment w.end)) (turned (unfinished w (after w h)) rest.1) ∙ and_none (calm w (after w h)))
  where
    turned : (b : Bool) → not b ≡ true → b ≡ false
    turned true is = absurd (false≢true is)
    turned false is = refl

pub stopped_ended : (w : World) (h : List Entry) → EndsSo w (after w h) ends.Stopped → IsEnded w h
stopped_ended w h is =
    let first = and_parts (calm w (after w h)) (not (limited w (after w h)) && (unfinished w (after w h) && ((after w h).moment == w.end))) is in
    let second = and_parts (not (limited w (after w h))) (unfinished w (after w h) && ((after w h).moment == w.end)) first.1 in
    let third = and_parts (unfinished w (after w h)) ((after w h).moment == w.end) second.1 in
    let at : (after w h).moment ≡ w.end = eqb-true (after w h).moment w.end third.1 in
    let no : nat_lt (after w h).moment w.end ≡ false = ap (λ (m : ℕ). nat_lt m w.end) at ∙ not_below w.end in
    still_ended w h first.0
    (ap (λ (b : Bool). calm w (after w h) && (unfinished w (after w h) && b)) no
    ∙ ap (λ (b : Bool). calm w (after w h) && b) (and_none (unfinished w (after w h)))
    ∙ and_none (calm w (after w h)))
