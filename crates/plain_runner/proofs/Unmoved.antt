-- What a caller owes, and what a script or a courier records next, is no move; so a turn that is ready comes in time.
use Rattle.std.proofs.Common.{◌≡◌, ℕ, ◌<◌, true, false, List, [], ◌∷◌, length, Option, Some, None, is_some, refl, sym, subst}
use Rattle.std.proofs.lemmas.Bool.{false≢true}
use Rattle.std.proofs.lemmas.Option.{none-some}
use Rattle.net_base.specs.declared.actor.ActorName.{ActorName}
use Rattle.net_base.specs.declared.actor.ActorName.TheVariants as name
use Rattle.net_base.specs.declared.event.Event.{Event}
use Rattle.net_base.specs.declared.event.Event.TheVariants as event
use Rattle.net_base.specs.declared.history.Entry.{Entry}
use Rattle.net_base.specs.declared.history.With.{With}
use Rattle.net_base.specs.declared.history.With.TheVariants as given
use Rattle.net_base.specs.declared.reply.Reply.{Reply}
use Rattle.net_base.specs.declared.reply.Reply.TheVariants as reply
use Rattle.net_base.specs.declared.world.Step.{Step}
use Rattle.net_base.specs.declared.world.Step.TheVariants as step
use Rattle.net_base.specs.declared.world.World.{World}
use Rattle.net_base.specs.Actors.{actor_step}
use Rattle.net_base.specs.Callers.{Caller, IsScript, IsCourier, IsClock, IsNobody, caller_count, caller_of}
use Rattle.net_base.specs.Calm.{is_ready, most_entries}
use Rattle.net_base.specs.Duties.{Duty}
use Rattle.net_base.specs.Legal.{IsAsked, IsInTime, IsNext, asked_by}
use Rattle.net_base.specs.Net.{Net, after, moment, owed, with_of}
use Rattle.net_base.specs.Next.{by, next_recorded, next_of, own_replies, zone_of}
use Rattle.net_base.specs.Scripts.{at_first, position}
use Rattle.net_base.specs.Steps.{Ask, call_names, clone_path, reply_lines}
use Rattle.net_base.specs.Versions.{Tuples}
use Rattle.history_laws.proofs.Shared.{Each, each_any, past_after, next_event, Fits, IsNextEvent, IsNamed, IsOpened, IsOwn, Says}
use Rattle.history_laws.proofs.Shared.{steady_after, IsKind, OfKind}
use Rattle.plain_runner.specs.Recording.{IsHistory}
use Rattle.plain_runner.specs.Turns.{IsReadyTurn, IsTurn, may_turn, may_turn_by}
use Rattle.plain_runner.specs.declared.turn.Turn.{Turn}

-- Moves.

abbrev pub IsStill : Event → Type 0
IsStill (event.Move m) = ⊥
IsStill _ = Unit {0}

abbrev pub IsStillAt : ActorName → Event → Type 0
IsStillAt a e = IsStill e

pub still_in_time : (net : Net) (w : World) (e : Event) → IsStill e → IsInTime net w e
still_in_time net w (event.Move m) still = absurd still
still_in_time net w _ still = tt

pub duty_still : (w : World) (a : ActorName) (e : Event) (with : With) → IsKind w a e with → IsStill e
duty_still w (name.Conv h p n) (event.Move m) with kind = absurd kind.2
duty_still w (name.Dir h p) (event.Move m) with kind = absurd kind.1
duty_still w (name.Medium k) (event.Move m) with kind = absurd kind.1
duty_still w (name.Desk h) (event.Move m) with kind = absurd kind
duty_still w name.Clock (event.Move m) with kind = absurd kind
duty_still w _ _ with kind = tt

own_still : (a : ActorName) (e : Event) → IsOwn e → IsStillAt a e
own_still a (event.Move m) own = absurd own
own_still a _ own = tt

fits_still : Fits IsStillAt (λ (r : Reply). Unit {0})
fits_still = record {
  other = own_still;
  dialled = λ r fine. each_any (λ (line : List ℕ). IsOpened IsStillAt (clone_path line)) (λ line a m. tt) (reply_lines r);
}

says_still : (h : ℕ) (s : Step) → Says h IsStillAt s
says_still h (step.Open called path m) = ((tt, tt), λ a m. tt)
says_still h (step.Until moment) = tt
says_still h step.Refresh = tt
says_still h (step.Ls path) = tt
says_still h (step.Cs query) = tt
says_still h (step.Dial called address) = ((tt, tt), (tt, tt))
says_still h (step.Listen called from) = ((tt, tt), (tt, tt))
says_still h (step.Accept called from) = ((tt, tt), (tt, tt))
says_still h (step.Hread called count) = ((tt, tt), each_any (λ (called : List ℕ). IsNamed h (IsStillAt) called) (λ called. (tt, tt)) call_names)
says_still h (step.Hwrite called bytes) = ((tt, tt), each_any (λ (called : List ℕ). IsNamed h (IsStillAt) called) (λ called. (tt, tt)) call_names)
says_still h (step.Dns called times) = ((tt, tt), each_any (λ (called : List ℕ). IsNamed h (IsStillAt) called) (λ called. (tt, tt)) call_names)
-- imports
says_still h (step.Export called) = ((tt, tt), record { named = λ n. (tt, tt); opened = λ at a m. tt })
says_still h (step.Ropen called call path m) = ((tt, tt), (tt, tt))
says_still h _ = (tt, tt)

position_still : (h : ℕ) (steps : List Step) (zone : Tuples) (rs : List Reply) → IsNextEvent IsStillAt (position h steps (at_first zone) rs).next
position_still h steps zone rs =
    next_event h IsStillAt (λ (r : Reply). Unit {0}) fits_still steps (at_first zone) rs tt
    (each_any (λ (s : Step). Says h IsStillAt s) (says_still h) steps)
    (each_any (λ (r : Reply). Unit {0}) (λ r. tt) rs)

pub next_still : (w : World) (k : Caller) (h : List Entry) (c : ℕ) (ask : Ask) → next_of w k h c ≡ Some ask → IsStill ask.event
next_still w (IsScript s) h c ask is = subst (IsNextEvent IsStillAt) is (position_still s.host s.steps (zone_of w) (own_replies h c))
next_still w (IsCourier m) h c ask is = subst (IsNextEvent IsStillAt) is tt
next_still w IsClock h c ask is = absurd (none-some ask is)
next_still w IsNobody h c ask is = absurd (none-some ask is)

-- The turn of a caller.

-- an entry with the event of a turn
abbrev entry_for : ℕ → Turn → Entry
entry_for c t =
    record { actor = t.actor; caller = c; moment = 0; event = t.work.event; cites = None; reply = reply.Ok; emits = None; ended = false }

-- the event of a turn that may be taken is ready, and is no move
pub record IsReadyAsk (w : World) (net : Net) (t : Turn) : Type 0 where
  pub ready : is_some (actor_step w t.actor (net.actors t.actor) net.moment t.work) ≡ true
  pub still : IsStill t.work.event

same_ask : (w : World) (net : Net) (t : Turn) (a : Ask) (with : With) → a ≡ asked_by (entry_for 0 t) → t.work.with ≡ with
    → is_some (actor_step w a.actor (net.actors a.actor) net.moment (record { event = a.event; with = with })) ≡ true → IsStill a.event → IsReadyAsk w net t
same_ask w net t a with asked gave ready still = record {
  ready = subst (λ (v : With). is_some (actor_step w t.actor (net.actors t.actor) net.moment (record { event = t.work.event; with = v })) ≡ true) (sym gave)
      (subst (λ (b : Ask). is_some (actor_step w b.actor (net.actors b.actor) net.moment (record { event = b.event; with = with })) ≡ true) asked ready);
  still = subst (λ (b : Ask). IsStill b.event) asked still;
}

by_ask : (w : World) (net : Net) (h : List Entry) (c : ℕ) (k : Caller) (t : Turn) → net.past ≡ h → next_of w k h c ≡ Some (asked_by (entry_for c t))
    → t.work.with ≡ given.Nothing
    → is_ready w net (next_of w k net.past c) ≡ true → IsReadyAsk w net t
by_ask w net h c k t past asked gave ready =
    same_ask w net t (asked_by (entry_for c t)) given.Nothing refl gave
    (subst (λ (o : Option Ask). is_ready w net o ≡ true) asked (subst (λ (p : List Entry). is_ready w net (next_of w k p c) ≡ true) past ready))
    (next_still w k h c (asked_by (entry_for c t)) asked)

by_next : (w : World) (net : Net) (h : List Entry) (c : ℕ) (k : Caller) (t : Turn) → net.past ≡ h → IsNext k (next_of w k h c) (entry_for c t)
    → t.work.with ≡ given.Nothing
    → is_ready w net (next_of w k net.past c) ≡ true → IsReadyAsk w net t
by_next w net h c IsClock t past asked gave ready = absurd (false≢true ready)
by_next w net h c (IsScript s) t past asked gave ready = by_ask w net h c (IsScript s) t past asked gave ready
by_next w net h c (IsCourier m) t past asked gave ready = by_ask w net h c (IsCourier m) t past asked gave ready
by_next w net h c IsNobody t past asked gave ready = by_ask w net h c IsNobody t past asked gave ready

by_owed : (w : World) (net : Net) (h : List Entry) (c : ℕ) (t : Turn) (ds : List Duty) → net.past ≡ h → Each (OfKind w) ds
    → IsAsked ds (caller_of w c) (next_recorded w h c) (entry_for c t)
    → t.work.with ≡ with_of ds → may_turn_by w net c ds ≡ true → IsReadyAsk w net t
by_owed w net h c t [] past kinds asked gave may = by_next w net h c (caller_of w c) t past asked gave may
by_owed w net h c t (d ∷ ds) past kinds asked gave may =
    same_ask w net t (record { actor = d.actor; event = d.event }) d.with asked gave may (duty_still w d.actor d.event d.with kinds.0)

pub ready_turn : (w : World) (h : List Entry) (c : ℕ) (t : Turn) → IsHistory w h → IsTurn w h c t → c < caller_count w → length (by h c) < most_entries
    → may_turn w h c ≡ true
    → IsReadyTurn w h c t
ready_turn w h c t history turn known room may = record {
  turn = turn;
  known = known;
  room = room;
  ready = asked.ready;
  in_time = still_in_time (after w h) w t.work.event asked.still;
}
  where
    asked : IsReadyAsk w (after w h) t
    asked =
        by_owed w (after w h) h c t (owed w h c) (past_after w _ h) ((steady_after w h history.world history.legal).kinds c)
        (turn.asked (entry_for c t) refl refl) turn.given may
