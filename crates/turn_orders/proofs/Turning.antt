-- An entry that can come next, and in time, is the entry of its caller's turn.
use Rattle.std.proofs.Common.{◌≡◌, ℕ, true, cond, List, [], ◌∷◌, ◌++◌, length, Option, Some, None, is_some, refl, sym, ap, subst, ◌∙◌, arith}
use Rattle.std.specs.Prelude.{IsSome}
use Rattle.std.specs.Option.{option_map, option_and_then}
use Rattle.std.proofs.lemmas.Bool.{and_from, false≢true, lt-ltb}
use Rattle.net_base.specs.declared.actor.ActorName.{ActorName}
use Rattle.net_base.specs.declared.actor.ActorName.TheVariants as name
use Rattle.net_base.specs.declared.event.Event.{Event}
use Rattle.net_base.specs.declared.event.Event.TheVariants as event
use Rattle.net_base.specs.declared.history.Entry.{Entry}
use Rattle.net_base.specs.declared.history.With.{With}
use Rattle.net_base.specs.declared.history.With.TheVariants as given
use Rattle.net_base.specs.declared.world.World.{World}
use Rattle.net_base.specs.ActorStep.{Step}
use Rattle.net_base.specs.Actors.{Actor, actor_step}
use Rattle.net_base.specs.Callers.{Caller, IsScript, IsCourier, IsClock, IsNobody, caller_count, caller_of}
use Rattle.net_base.specs.Calm.{callers, most_entries, movable, target}
use Rattle.net_base.specs.Duties.{Duty}
use Rattle.net_base.specs.Legal.{Follows, IsAsked, IsInTime, IsMove, IsNext, MayFollow, Shown, Shows, asked_by, cites_of, shown_of}
use Rattle.net_base.specs.Net.{Net, after, opening_net, with_of}
use Rattle.net_base.specs.Next.{by, next_of}
use Rattle.net_base.specs.Stamped.{In}
use Rattle.net_base.specs.Steps.{Ask}
use Rattle.net_base.proofs.Shared.{in_filter}
use Rattle.history_laws.proofs.Shared.{in_range, past_after}
use Rattle.turn_orders.specs.Turns.{Turn, ask_turn, comes, entry_with, goes, grown, has_room, move_turn, next_entry, own_turn, turn_by, turn_entry, with_turn}

-- the turn that an entry is, by what is given to it
abbrev turn_in : Entry → With → Turn
turn_in x with = record { actor = x.actor; work = record { event = x.event; with = with }; cites = x.cites }

-- a move that comes in time is the clock's turn
moves : (w : World) (net : Net) (a : ActorName) (e : Event) → IsMove a e → IsInTime net w e
    → cond (movable w net) (Some (move_turn (target w net))) None ≡ Some (record { actor = a; work = record { event = e; with = given.Nothing }; cites = None })
moves w net name.Clock (event.Move m) is in_time = rw (in_time.0, in_time.1) refl
moves w net _ _ is in_time = absurd is

-- so is the next event of another caller
asks : (ask : Option Ask) (x : Entry) → ask ≡ Some (asked_by x) → option_map ask_turn ask ≡ Some (ask_turn (asked_by x))
asks ask x is = ap (option_map ask_turn) is

own_is : (w : World) (net : Net) (k : Caller) (c : ℕ) (x : Entry) → IsNext k (next_of w k net.past c) x → IsInTime net w x.event
    → own_turn w net k c ≡ Some (ask_turn (asked_by x))
own_is w net IsClock c x is in_time = moves w net x.actor x.event is in_time
own_is w net (IsScript s) c x is in_time = asks (next_of w (IsScript s) net.past c) x is
own_is w net (IsCourier m) c x is in_time = asks (next_of w (IsCourier m) net.past c) x is
own_is w net IsNobody c x is in_time = asks (next_of w IsNobody net.past c) x is

turn_is : (w : World) (net : Net) (ds : List Duty) (x : Entry) → x.cites ≡ cites_of ds
    → IsAsked ds (caller_of w x.caller) (next_of w (caller_of w x.caller) net.past x.caller) x → IsInTime net w x.event
    → turn_by w net x.caller ds ≡ Some (turn_in x (with_of ds))
turn_is w net [] x cites asked in_time =
    own_is w net (caller_of w x.caller) x.caller x asked in_time
    ∙ ap (λ (i : Option ℕ). Some (record { actor = x.actor; work = record { event = x.event; with = given.Nothing }; cites = i })) (sym cites)
turn_is w net (d ∷ ds) x cites asked in_time =
    ap (λ (a : Ask). Some (record { actor = a.actor; work = record { event = a.event; with = d.with }; cites = Some d.cites })) asked
    ∙ ap (λ (i : Option ℕ). Some (record { actor = x.actor; work = record { event = x.event; with = d.with }; cites = i })) (sym cites)

-- an entry of this moment that shows the outcome
shown_entry : (net : Net) (x : Entry) (with : With) (o : Option (Step Actor)) → x.moment ≡ net.moment
    → Shows (option_map (λ (s : Step Actor). s.outcome) o) x → IsSome (option_map (λ (s : Step Actor). s.outcome) o)
    → option_map (entry_with net x.caller (turn_in x with)) o ≡ Some x
shown_entry net x with None at shows is = absurd (false≢true is)
shown_entry net x with (Some s) at shows is =
    ap (λ (m : ℕ). Some (build m (shown_of s.outcome))) (sym at) ∙ ap (λ (v : Shown). Some (build x.moment v)) (sym shows)
  where
    build : ℕ → Shown → Entry
    build m v =
        record {
          actor = x.actor;
          caller = x.caller;
          moment = m;
          event = x.event;
          cites = x.cites;
          reply = v.reply;
          emits = v.emits;
          ended = v.ended;
        }

pub follows_turn : (w : World) (net : Net) (x : Entry) → Follows w net.past net x → IsInTime net w x.event → next_entry w net x.caller ≡ Some x
follows_turn w net x follows in_time =
    ap (option_and_then (turn_entry w net x.caller)) (turn_is w net (net.owed x.caller) x follows.cites follows.is_asked in_time)
    ∙ shown_entry net x (with_of (net.owed x.caller))
    (actor_step w x.actor (net.actors x.actor) net.moment (record { event = x.event; with = with_of (net.owed x.caller) }))
    follows.at_moment follows.answers follows.is_ready

pub follows_goes : (w : World) (net : Net) (x : Entry) → Follows w net.past net x → IsInTime net w x.event → goes w net x.caller ≡ true
follows_goes w net x follows in_time =
    and_from (has_room net x.caller) (is_some (next_entry w net x.caller)) (lt-ltb (length (by net.past x.caller)) most_entries follows.has_room)
    (ap is_some (follows_turn w net x follows in_time))

-- After a history.

at_past : (w : World) (h : List Entry) (x : Entry) → MayFollow w h x → Follows w (after w h).past (after w h) x
at_past w h x may = subst (λ (p : List Entry). Follows w p (after w h) x) (sym (past_after w (opening_net w) h)) may

pub next_is : (w : World) (h : List Entry) (x : Entry) → MayFollow w h x → IsInTime (after w h) w x.event → next_entry w (after w h) x.caller ≡ Some x
next_is w h x may in_time = follows_turn w (after w h) x (at_past w h x may) in_time

pub comes_next : (w : World) (h : List Entry) (x : Entry) → MayFollow w h x → IsInTime (after w h) w x.event → In x.caller (comes w h)
comes_next w h x may in_time =
    in_filter (goes w (after w h)) x.caller (callers w) (in_range 0 (caller_count w) x.caller (omega arith) (omega (arith, may.is_known.1)))
    (follows_goes w (after w h) x (at_past w h x may) in_time)

pub grows_so : (w : World) (h : List Entry) (x : Entry) → MayFollow w h x → IsInTime (after w h) w x.event → with_turn w h x.caller ≡ h ++ x ∷ []
grows_so w h x may in_time = ap (grown h) (next_is w h x may in_time)
