-- The callers that can continue, by the follow-up events of each. After a movable history it is the clock alone.
use Rattle.std.proofs.Common.{◌≡◌, ℕ, zero, suc, ◌+◌, ◌<◌, ◌==◌, ◌&&◌, ◌||◌, nat_lt, inl, inr, Bool, true, false, cond, List, [], ◌∷◌, length, Option, Some, None, is_some, refl, sym, ap, ◌∙◌, arith}
use Rattle.std.specs.Prelude.{filter}
use Rattle.std.specs.List.{range_with_len}
use Rattle.std.specs.Option.{option_map, option_and_then}
use Rattle.std.proofs.lemmas.Bool.{and_parts, false≢true, eqb-true, eqb-false, lt-ltb}
use Rattle.net_base.specs.declared.actor.ActorName.TheVariants as name
use Rattle.net_base.specs.declared.history.Entry.{Entry}
use Rattle.net_base.specs.declared.history.With.TheVariants as given
use Rattle.net_base.specs.declared.reply.Reply.{Reply}
use Rattle.net_base.specs.declared.world.World.{World}
use Rattle.net_base.specs.Actors.{Actor, IsPlain, actor_step, plain_step}
use Rattle.net_base.specs.Callers.{Caller, IsScript, IsCourier, IsClock, caller_count, caller_of, clock_number}
use Rattle.net_base.specs.Calm.{callers, calm, can_go_on, is_ready, movable, owes, target, unfinished}
use Rattle.net_base.specs.Desk.{clock_reply}
use Rattle.net_base.specs.Duties.{Duty}
use Rattle.net_base.specs.Net.{Net, WorkAt, after, played, stepped_to, works}
use Rattle.net_base.specs.Next.{next_of}
use Rattle.net_base.specs.Stamped.{In}
use Rattle.net_base.specs.Steps.{Ask}
use Rattle.net_base.specs.Tasks.{nobody}
use Rattle.net_base.proofs.Shared.{in_filter, script_is}
use Rattle.history_laws.specs.Could.{could}
use Rattle.history_laws.proofs.Shared.{Kind, OfScript, OfCourier, OfClock, clock_is, courier_is, in_range, is_busy, kind_of, state_is_fold}
use Rattle.turn_orders.specs.Turns.{ask_turn, comes, goes, has_room, move_turn, next_entry, own_turn, turn_by, turn_entry}

-- The list.

in_range_passed : (test : ℕ → Bool) (a n c : ℕ) → In c (filter test (range_with_len a n)) → (c < a + n) × (test c ≡ true)
in_range_passed test a zero c there = absurd there
in_range_passed test a (suc n) c there = at (test a) refl there (in_range_passed test (a + 1) n c)
  where
    at : (b : Bool) → test a ≡ b → In c (cond b (a ∷ filter test (range_with_len (a + 1) n)) (filter test (range_with_len (a + 1) n)))
        → (In c (filter test (range_with_len (a + 1) n)) → (c < a + 1 + n) × (test c ≡ true)) → (c < a + suc n) × (test c ≡ true)
    at true is (inl same) rest = (omega (arith, same), ap test same ∙ is)
    at true is (inr later) rest = let p = rest later in (omega (arith, p.0), p.1)
    at false is later rest = let p = rest later in (omega (arith, p.0), p.1)

pub comes_only : (w : World) (h : List Entry) (c : ℕ) → In c (comes w h) → (c < caller_count w) × (goes w (after w h) c ≡ true)
comes_only w h c there = let p = in_range_passed (goes w (after w h)) 0 (caller_count w) c there in (omega (arith, p.0), p.1)

pub comes_there : (w : World) (h : List Entry) (c : ℕ) → c < caller_count w → goes w (after w h) c ≡ true → In c (comes w h)
comes_there w h c lt is =
    in_filter (goes w (after w h)) c (callers w) (in_range 0 (caller_count w) c (omega arith) (omega (arith, lt))) is

-- A caller with a follow-up event, and one without.

some_mapped : {A B : Type 0} (f : A → B) (o : Option A) → is_some (option_map f o) ≡ is_some o
some_mapped f None = refl
some_mapped f (Some x) = refl

pub duty_goes : (w : World) (net : Net) (c : ℕ) (d : Duty) (ds : List Duty) → net.owed c ≡ d ∷ ds
    → is_some (next_entry w net c) ≡ is_some (actor_step w d.actor (net.actors d.actor) net.moment (record { event = d.event; with = d.with }))
duty_goes w net c d ds is =
    ap (λ (owed : List Duty). is_some (option_and_then (turn_entry w net c) (turn_by w net c owed))) is
    ∙ some_mapped _ (actor_step w d.actor (net.actors d.actor) net.moment (record { event = d.event; with = d.with }))

asked_goes : (w : World) (net : Net) (c : ℕ) (ask : Option Ask)
    → is_some (option_and_then (turn_entry w net c) (option_map ask_turn ask)) ≡ is_ready w net ask
asked_goes w net c None = refl
asked_goes w net c (Some ask) =
    some_mapped _ (actor_step w ask.actor (net.actors ask.actor) net.moment (record { event = ask.event; with = given.Nothing }))

owing_nothing : (w : World) (net : Net) (c : ℕ) (k : Caller) → net.owed c ≡ [] → caller_of w c ≡ k
    → is_some (next_entry w net c) ≡ is_some (option_and_then (turn_entry w net c) (own_turn w net k c))
owing_nothing w net c k is who =
    ap (λ (owed : List Duty). is_some (option_and_then (turn_entry w net c) (turn_by w net c owed))) is
    ∙ ap (λ (j : Caller). is_some (option_and_then (turn_entry w net c) (own_turn w net j c))) who

pub own_goes : (w : World) (net : Net) (c : ℕ) → net.owed c ≡ [] → c < clock_number w → is_some (next_entry w net c) ≡ can_go_on w net c
own_goes w net c is lt = by_kind (kind_of w c (omega (arith, lt)))
  where
    at : (k : Caller) → caller_of w c ≡ k → is_some (option_and_then (turn_entry w net c) (own_turn w net k c)) ≡ is_ready w net (next_of w k net.past c)
        → is_some (next_entry w net c) ≡ can_go_on w net c
    at k who same = owing_nothing w net c k is who ∙ same ∙ ap (λ (j : Caller). is_ready w net (next_of w j net.past c)) (sym who)

    by_kind : Kind w c → is_some (next_entry w net c) ≡ can_go_on w net c
    by_kind (OfScript s there) = at (IsScript s) (script_is w c s there) (asked_goes w net c (next_of w (IsScript s) net.past c))
    by_kind (OfCourier m near there) = at (IsCourier m) (courier_is w m c there near) (asked_goes w net c (next_of w (IsCourier m) net.past c))
    by_kind (OfClock there) = absurd (omega (arith, there, lt))

-- The clock.

played_plain : (w : World) (ps : List WorkAt) → played w name.Clock IsPlain ps ≡ IsPlain
played_plain w [] = refl
played_plain w (p ∷ ps) = ap (λ (s : Actor). played w name.Clock s ps) (one (clock_reply p.work.event)) ∙ played_plain w ps
  where
    one : (o : Option Reply) → stepped_to IsPlain (option_map plain_step o) ≡ IsPlain
    one None = refl
    one (Some r) = refl

clock_plain : (w : World) (h : List Entry) → (after w h).actors name.Clock ≡ IsPlain
clock_plain w h = state_is_fold w h name.Clock ∙ played_plain w (works w h name.Clock)

pub clock_goes : (w : World) (h : List Entry) → (after w h).owed (clock_number w) ≡ []
    → is_some (next_entry w (after w h) (clock_number w)) ≡ movable w (after w h)
clock_goes w h is = owing_nothing w (after w h) (clock_number w) IsClock is (clock_is w) ∙ at (movable w (after w h))
  where
    moving : is_some (turn_entry w (after w h) (clock_number w) (move_turn (target w (after w h)))) ≡ true
    moving =
        some_mapped _ (actor_step w name.Clock ((after w h).actors name.Clock) (after w h).moment (move_turn (target w (after w h))).work)
        ∙ ap (λ (s : Actor). is_some (actor_step w name.Clock s (after w h).moment (move_turn (target w (after w h))).work)) (clock_plain w h)

    at : (b : Bool) → is_some (option_and_then (turn_entry w (after w h) (clock_number w)) (cond b (Some (move_turn (target w (after w h)))) None)) ≡ b
    at true = moving
    at false = refl

-- After a movable history.

pub could_go : (w : World) (net : Net) (c : ℕ) → c < clock_number w → is_some (next_entry w net c) ≡ true → could nobody w net c ≡ true
could_go w net c lt some = by_owed (net.owed c) refl
  where
    by_owed : (ds : List Duty) → net.owed c ≡ ds → could nobody w net c ≡ true
    by_owed [] is = or_right (owes net c) (can_go_on w net c) (sym (own_goes w net c is lt) ∙ some)
      where
        or_right : (a b : Bool) → b ≡ true → (a || b) ≡ true
        or_right true b is = refl
        or_right false b is = is
    by_owed (d ∷ ds) is =
        let owing : owes net c ≡ true = ap (λ (l : List Duty). nat_lt 0 (length l)) is ∙ lt-ltb 0 (length (d ∷ ds)) (omega arith) in
        ap (λ (b : Bool). b || can_go_on w net c) owing

pub clock_alone : (w : World) (h : List Entry) (c : ℕ) → movable w (after w h) ≡ true → In c (comes w h) → c ≡ clock_number w
clock_alone w h c moves there = at (c == clock_number w) refl
  where
    only : (c < caller_count w) × (goes w (after w h) c ≡ true)
    only = comes_only w h c there

    is_calm : calm w (after w h) ≡ true
    is_calm = (and_parts (calm w (after w h)) (unfinished w (after w h) && nat_lt (after w h).moment w.end) moves).0

    at : (b : Bool) → (c == clock_number w) ≡ b → c ≡ clock_number w
    at true is = eqb-true c (clock_number w) is
    at false is =
        let apart = eqb-false c (clock_number w) is in
        let near : c < clock_number w = omega (arith, apart, only.0) in
        let some = (and_parts (has_room (after w h) c) (is_some (next_entry w (after w h) c)) only.1).1 in
        absurd (false≢true (sym (is_busy nobody w (after w h) c only.0 (could_go w (after w h) c near some)) ∙ is_calm))
