-- The entry of a turn that can be taken may come next, and in time.
use Rattle.std.proofs.Common.{◌≡◌, ℕ, ◌<◌, Bool, true, false, cond, List, [], ◌∷◌, length, Option, Some, None, is_some, refl, sym, ap, subst, ◌∙◌}
use Rattle.std.specs.Prelude.{IsSome}
use Rattle.std.specs.Option.{option_map, option_and_then}
use Rattle.std.proofs.lemmas.Bool.{and_parts, false≢true, ltb-true}
use Rattle.std.proofs.lemmas.Option.{none-some, same_Some}
use Rattle.net_base.specs.declared.history.Entry.{Entry}
use Rattle.net_base.specs.declared.history.Outcome.{Outcome}
use Rattle.net_base.specs.declared.history.With.{With}
use Rattle.net_base.specs.declared.history.With.TheVariants as given
use Rattle.net_base.specs.declared.world.World.{World}
use Rattle.net_base.specs.ActorStep.{Step}
use Rattle.net_base.specs.Actors.{Actor, actor_step}
use Rattle.net_base.specs.Callers.{Caller, IsScript, IsCourier, IsClock, IsNobody, caller_of}
use Rattle.net_base.specs.Calm.{most_entries, movable, target}
use Rattle.net_base.specs.Duties.{Duty}
use Rattle.net_base.specs.Legal.{IsAsked, IsInTime, IsLegal, IsNext, MayFollow, Shows, cites_of}
use Rattle.net_base.specs.Net.{Net, after, opening_net, outcome_in, with_of}
use Rattle.net_base.specs.Next.{by, next_of}
use Rattle.net_base.specs.Stamped.{In}
use Rattle.net_base.specs.Steps.{Ask}
use Rattle.net_base.specs.World.{IsWorld}
use Rattle.history_laws.proofs.Shared.{Each, OfKind, known, past_after, steady_after}
use Rattle.turn_orders.specs.Turns.{Turn, ask_turn, comes, duty_turn, entry_with, has_room, move_turn, next_entry, own_turn, turn_by, turn_entry, turn_of, turn_step}
use Rattle.turn_orders.proofs.Coming.{comes_only}
use Rattle.turn_orders.proofs.Still.{duty_still, next_still, still_in_time}

-- a turn by the caller's list of follow-up events
record IsTurnOf (w : World) (net : Net) (c : ℕ) (ds : List Duty) (t : Turn) : Type 0 where
  cited : t.cites ≡ cites_of ds
  gave : with_of ds ≡ t.work.with
  asked : (s : Step Actor) → IsAsked ds (caller_of w c) (next_of w (caller_of w c) net.past c) (entry_with net c t s)
  in_time : IsInTime net w t.work.event

record IsOwnOf (w : World) (net : Net) (c : ℕ) (k : Caller) (t : Turn) : Type 0 where
  cited : t.cites ≡ None
  gave : given.Nothing ≡ t.work.with
  asked : (s : Step Actor) → IsNext k (next_of w k net.past c) (entry_with net c t s)
  in_time : IsInTime net w t.work.event

asking : (w : World) (net : Net) (c : ℕ) (k : Caller) (t : Turn) (o : Option Ask) → next_of w k net.past c ≡ o → option_map ask_turn o ≡ Some t
    → (a : Ask) × (next_of w k net.past c ≡ Some a) × (ask_turn a ≡ t) × IsInTime net w a.event
asking w net c k t None is some = absurd (none-some t some)
asking w net c k t (Some a) is some = (a, is, same_Some (ask_turn a) t some, still_in_time net w a.event (next_still w k net.past c a is))

own_of : (w : World) (net : Net) (c : ℕ) (k : Caller) (t : Turn) → own_turn w net k c ≡ Some t → IsOwnOf w net c k t
own_of w net c IsClock t is = at (movable w net) refl is
  where
    at : (b : Bool) → movable w net ≡ b → cond b (Some (move_turn (target w net))) None ≡ Some t → IsOwnOf w net c IsClock t
    at false moves none = absurd (none-some t none)
    at true moves some =
        subst (IsOwnOf w net c IsClock) (same_Some (move_turn (target w net)) t some)
        (record { cited = refl; gave = refl; asked = λ s. tt; in_time = (moves, refl) })
own_of w net c (IsScript s) t is =
    let a = asking w net c (IsScript s) t (next_of w (IsScript s) net.past c) refl is in
    subst (IsOwnOf w net c (IsScript s)) a.2 (record { cited = refl; gave = refl; asked = λ s. a.1; in_time = a.3 })
own_of w net c (IsCourier m) t is =
    let a = asking w net c (IsCourier m) t (next_of w (IsCourier m) net.past c) refl is in
    subst (IsOwnOf w net c (IsCourier m)) a.2 (record { cited = refl; gave = refl; asked = λ s. a.1; in_time = a.3 })
own_of w net c IsNobody t is =
    let a = asking w net c IsNobody t (next_of w IsNobody net.past c) refl is in
    subst (IsOwnOf w net c IsNobody) a.2 (record { cited = refl; gave = refl; asked = λ s. a.1; in_time = a.3 })

turn_has : (w : World) (net : Net) (c : ℕ) (ds : List Duty) (t : Turn) → Each (OfKind w) ds → turn_by w net c ds ≡ Some t → IsTurnOf w net c ds t
turn_has w net c [] t kinds is =
    let own = own_of w net c (caller_of w c) t is in
    record { cited = own.cited; gave = own.gave; asked = own.asked; in_time = own.in_time }
turn_has w net c (d ∷ ds) t kinds is =
    subst (IsTurnOf w net c (d ∷ ds)) (same_Some (duty_turn d) t is)
    (record { cited = refl; gave = refl; asked = λ s. refl; in_time = still_in_time net w d.event (duty_still w d.actor d.event d.with kinds.0) })

-- The entry.

record IsReady (w : World) (net : Net) (c : ℕ) (x : Entry) : Type 0 where
  turn : Turn
  step : Step Actor
  is_turn : turn_of w net c ≡ Some turn
  is_step : turn_step w net turn ≡ Some step
  is_entry : entry_with net c turn step ≡ x

ready_of : (w : World) (net : Net) (c : ℕ) (x : Entry) → next_entry w net c ≡ Some x → IsReady w net c x
ready_of w net c x is = by_turn (turn_of w net c) refl is
  where
    by_step : (t : Turn) → turn_of w net c ≡ Some t → (o : Option (Step Actor)) → turn_step w net t ≡ o → option_map (entry_with net c t) o ≡ Some x → IsReady w net c x
    by_step t turn None step none = absurd (none-some x none)
    by_step t turn (Some s) step some = record { turn = t; step = s; is_turn = turn; is_step = step; is_entry = same_Some (entry_with net c t s) x some }

    by_turn : (o : Option Turn) → turn_of w net c ≡ o → option_and_then (turn_entry w net c) o ≡ Some x → IsReady w net c x
    by_turn None turn none = absurd (none-some x none)
    by_turn (Some t) turn some = by_step t turn (turn_step w net t) refl some

-- all fields of a valid entry except those on the world's actors and callers and on the room of the caller
record FollowsSo (w : World) (net : Net) (x : Entry) : Type 0 where
  answers : Shows (outcome_in w net x) x
  at_moment : x.moment ≡ net.moment
  cites : x.cites ≡ cites_of (net.owed x.caller)
  is_asked : IsAsked (net.owed x.caller) (caller_of w x.caller) (next_of w (caller_of w x.caller) net.past x.caller) x
  is_ready : IsSome (outcome_in w net x)
  in_time : IsInTime net w x.event

follows_so : (w : World) (net : Net) (c : ℕ) (x : Entry) → Each (OfKind w) (net.owed c) → next_entry w net c ≡ Some x → FollowsSo w net x × (x.caller ≡ c)
follows_so w net c x kinds is =
    subst (λ (y : Entry). FollowsSo w net y × (y.caller ≡ c)) ready.is_entry (
      record {
        answers = subst (λ (o : Option Outcome). Shows o made) (sym gives) refl;
        at_moment = refl;
        cites = has.cited;
        is_asked = has.asked ready.step;
        is_ready = ap is_some gives;
        in_time = has.in_time;
      },
      refl,
    )
  where
    ready : IsReady w net c x
    ready = ready_of w net c x is

    made : Entry
    made = entry_with net c ready.turn ready.step

    has : IsTurnOf w net c (net.owed c) ready.turn
    has = turn_has w net c (net.owed c) ready.turn kinds ready.is_turn

    gives : outcome_in w net (entry_with net c ready.turn ready.step) ≡ Some ready.step.outcome
    gives =
        ap (λ (g : With). option_map (λ (s : Step Actor). s.outcome)
        (actor_step w ready.turn.actor (net.actors ready.turn.actor) net.moment (record { event = ready.turn.work.event; with = g }))) has.gave
        ∙ ap (option_map (λ (s : Step Actor). s.outcome)) ready.is_step

-- After a legal history of a world.

pub record Comes (w : World) (h : List Entry) (c : ℕ) : Type 0 where
  pub entry : Entry
  pub is_next : next_entry w (after w h) c ≡ Some entry
  pub caller_is : entry.caller ≡ c
  pub may : MayFollow w h entry
  pub in_time : IsInTime (after w h) w entry.event

some_there : (w : World) (net : Net) (c : ℕ) → is_some (next_entry w net c) ≡ true → (x : Entry) × (next_entry w net c ≡ Some x)
some_there w net c is = at (next_entry w net c) refl is
  where
    at : (o : Option Entry) → next_entry w net c ≡ o → is_some o ≡ true → (x : Entry) × (next_entry w net c ≡ Some x)
    at None same none = absurd (false≢true none)
    at (Some x) same some = (x, same)

pub comes_follows : (w : World) (h : List Entry) (c : ℕ) → IsWorld w → IsLegal w h → In c (comes w h) → Comes w h c
comes_follows w h c world legal there = record {
  entry = x;
  is_next = some.1;
  caller_is = so.1;
  may = record {
    answers = so.0.answers;
    at_moment = so.0.at_moment;
    cites = so.0.cites;
    is_asked = asked;
    is_ready = so.0.is_ready;
    is_known = known w h x legal asked so.0.is_ready;
    has_room = subst (λ (d : ℕ). length (by h d) < most_entries) (sym so.1)
        (subst (λ (p : List Entry). length (by p c) < most_entries) past (ltb-true (length (by (after w h).past c)) most_entries parts.0));
  };
  in_time = so.0.in_time;
}
  where
    parts : (has_room (after w h) c ≡ true) × (is_some (next_entry w (after w h) c) ≡ true)
    parts = and_parts (has_room (after w h) c) (is_some (next_entry w (after w h) c)) (comes_only w h c there).1

    some : (x : Entry) × (next_entry w (after w h) c ≡ Some x)
    some = some_there w (after w h) c parts.1

    x : Entry
    x = some.0

    past : (after w h).past ≡ h
    past = past_after w (opening_net w) h

    so : FollowsSo w (after w h) x × (x.caller ≡ c)
    so = follows_so w (after w h) c x ((steady_after w h world legal).kinds c) some.1

    asked : IsAsked ((after w h).owed x.caller) (caller_of w x.caller) (next_of w (caller_of w x.caller) h x.caller) x
    asked =
        subst (λ (p : List Entry). IsAsked ((after w h).owed x.caller) (caller_of w x.caller) (next_of w (caller_of w x.caller) p x.caller) x) past so.0.is_asked
