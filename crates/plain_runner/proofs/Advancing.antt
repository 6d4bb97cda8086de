-- The clock's turn to move.
use Rattle.std.proofs.Common.{◌≡◌, ℕ, ◌<◌, true, List, [], ◌∷◌, length, drop, Option, Some, None, is_some, refl, sym, ap, subst, ◌∙◌, arith}
use Rattle.std.specs.Option.{option_map}
use Rattle.std.proofs.lemmas.Bool.{false≢true}
use Rattle.net_base.specs.declared.actor.ActorName.{ActorName}
use Rattle.net_base.specs.declared.actor.ActorName.TheVariants as name
use Rattle.net_base.specs.declared.event.Event.{Event}
use Rattle.net_base.specs.declared.event.Event.TheVariants as event
use Rattle.net_base.specs.declared.history.Entry.{Entry}
use Rattle.net_base.specs.declared.history.Work.{Work}
use Rattle.net_base.specs.declared.reply.Reply.{Reply}
use Rattle.net_base.specs.declared.world.World.{World}
use Rattle.net_base.specs.Actors.{Actor, IsPlain, actor_step, plain_step}
use Rattle.net_base.specs.Callers.{Caller as AnyCaller, IsClock, caller_of, clock_number}
use Rattle.net_base.specs.Calm.{most_entries, movable, target}
use Rattle.net_base.specs.Desk.{clock_reply}
use Rattle.net_base.specs.Duties.{Duty}
use Rattle.net_base.specs.Legal.{IsAsked, IsInTime, IsMove, cites_of}
use Rattle.net_base.specs.Net.{WorkAt, after, moment, owed, played, stepped_to, with_of, works}
use Rattle.net_base.specs.Next.{by, next_recorded}
use Rattle.history_laws.proofs.Shared.{state_is_fold}
use Rattle.plain_runner.specs.Callers.{IsCallerKept, IsTurning}
use Rattle.plain_runner.specs.Tracks.{IsBefore, Tracks}
use Rattle.plain_runner.specs.Turns.{IsMoving}
use Rattle.plain_runner.specs.declared.caller.Caller.{Caller}
use Rattle.plain_runner.specs.declared.runner.Runner.{Runner}
use Rattle.plain_runner.specs.declared.turn.Turn.{Turn}
use Rattle.history_laws.proofs.Shared.{clock_is}

-- The clock is ready to move at any time.

pub played_plain : (w : World) (ps : List WorkAt) → played w name.Clock IsPlain ps ≡ IsPlain
played_plain w [] = refl
played_plain w (p ∷ ps) = ap (λ (s : Actor). played w name.Clock s ps) (one (clock_reply p.work.event)) ∙ played_plain w ps
  where
    one : (o : Option Reply) → stepped_to IsPlain (option_map plain_step o) ≡ IsPlain
    one None = refl
    one (Some r) = refl

pub clock_plain : (w : World) (h : List Entry) → (after w h).actors name.Clock ≡ IsPlain
clock_plain w h = state_is_fold w h name.Clock ∙ played_plain w (works w h name.Clock)

clock_ready : (w : World) (h : List Entry) (now m : ℕ) (t : Turn) → IsMoving t m
    → is_some (actor_step w t.actor ((after w h).actors t.actor) now t.work) ≡ true
clock_ready w h now m t moves =
    subst (λ (a : ActorName). is_some (actor_step w a ((after w h).actors a) now t.work) ≡ true) (sym moves.actor)
    (subst (λ (s : Actor). is_some (actor_step w name.Clock s now t.work) ≡ true) (sym (clock_plain w h)) (by_event t.work moves.event))
  where
    by_event : (work : Work) → work.event ≡ event.Move m → is_some (actor_step w name.Clock IsPlain now work) ≡ true
    by_event work is = subst (λ (e : Event). is_some (option_map plain_step (clock_reply e)) ≡ true) (sym is) refl

-- the clock's turn to move, where it owes nothing and may move to this moment
pub clock_before : (w : World) (r : Runner) (c : ℕ) (t : Turn) (m : ℕ) → Tracks w r → c ≡ clock_number w → owed w r.history.entries c ≡ [] → IsMoving t m
    → movable w (after w r.history.entries) ≡ true → m ≡ target w (after w r.history.entries) → length (by r.history.entries c) < most_entries → IsBefore w r c t
clock_before w r c t m s at nothing moves may to room = record {
  history = s.history;
  count_is = s.count_is;
  count = s.callers_are.count;
  others = λ d k apart there. s.callers_are.each d k there;
  turning = λ k there. turning k (s.callers_are.each c k there);
  ready = record {
    turn = record {
      asked = λ x actor_is event_is. asked x actor_is event_is;
      cited = moves.own.none ∙ ap cites_of (sym nothing);
      given = moves.own.nothing ∙ ap with_of (sym nothing);
    };
    known = omega (arith, at);
    room = room;
    ready = clock_ready w r.history.entries (moment w r.history.entries) m t moves;
    in_time = subst (IsInTime (after w r.history.entries) w) (sym moves.event) (may, to);
  };
  are = s.are;
  ways_are = s.ways_are;
  moment_is = s.moment_is;
}
  where
    turning : (k : Caller) → IsCallerKept w r.history.entries c k → IsTurning w r.history.entries c t.cites k
    turning k is = record {
      turns = record {
        role_is = is.stands.role_is;
        next_is = λ some. absurd (false≢true (sym (ap is_some moves.own.none) ∙ some));
        own = λ some. absurd (false≢true (sym (ap is_some moves.own.none) ∙ some));
      };
      owes = is.owes ∙ nothing ∙ ap (drop 1) (sym nothing);
      entries_is = is.entries_is;
    }

    move_at : (a : ActorName) (e : Event) → a ≡ name.Clock → e ≡ event.Move m → IsMove a e
    move_at a e actor_is event_is = subst (λ (b : ActorName). IsMove b e) (sym actor_is) (subst (IsMove name.Clock) (sym event_is) tt)

    clock : caller_of w c ≡ IsClock
    clock = ap (caller_of w) at ∙ clock_is w

    asked : (x : Entry) → x.actor ≡ t.actor → x.event ≡ t.work.event → IsAsked (owed w r.history.entries c) (caller_of w c) (next_recorded w r.history.entries c) x
    asked x actor_is event_is =
        subst (λ (ds : List Duty). IsAsked ds (caller_of w c) (next_recorded w r.history.entries c) x) (sym nothing)
        (subst (λ (k : AnyCaller). IsAsked [] k (next_recorded w r.history.entries c) x) (sym clock) (move_at x.actor x.event (actor_is ∙ moves.actor) (event_is
        ∙ moves.event)))
