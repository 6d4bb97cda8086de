-- The turns of callers: the entry that each caller records next, the callers that can continue, and when a history has ended.
use Rattle.std.specs.Prelude.{◌≡◌, ℕ, ◌++◌, ◌&&◌, Bool, List, [], ◌∷◌, filter, length, map, Option, Some, None, is_some, nat_lt, if◌then◌else◌}
use Rattle.std.specs.Option.{option_map, option_and_then}
use Rattle.net_base.specs.declared.actor.ActorName.{ActorName}
use Rattle.net_base.specs.declared.actor.ActorName.TheVariants as name
use Rattle.net_base.specs.declared.event.Event.TheVariants as event
use Rattle.net_base.specs.declared.history.Entry.{Entry}
use Rattle.net_base.specs.declared.history.With.TheVariants as given
use Rattle.net_base.specs.declared.history.Work.{Work}
use Rattle.net_base.specs.declared.world.World.{World}
use Rattle.net_base.specs.ActorStep.{Step}
use Rattle.net_base.specs.Actors.{Actor, actor_step}
use Rattle.net_base.specs.Callers.{Caller, IsClock, caller_of}
use Rattle.net_base.specs.Calm.{callers, most_entries, movable, target}
use Rattle.net_base.specs.Duties.{Duty}
use Rattle.net_base.specs.Headers.{header}
use Rattle.net_base.specs.Net.{Net, after}
use Rattle.net_base.specs.Next.{by, next_of}
use Rattle.net_base.specs.Steps.{Ask}

-- what a caller records next
pub record Turn : Type 0 where
  pub actor : ActorName
  pub work : Work
  -- the stamp of the entry that caused it
  pub cites : Option ℕ

abbrev pub duty_turn : Duty → Turn
duty_turn d = record { actor = d.actor; work = record { event = d.event; with = d.with }; cites = Some d.cites }

abbrev pub ask_turn : Ask → Turn
ask_turn ask = record { actor = ask.actor; work = record { event = ask.event; with = given.Nothing }; cites = None }

abbrev pub move_turn : ℕ → Turn
move_turn m = record { actor = name.Clock; work = record { event = event.Move m; with = given.Nothing }; cites = None }

-- the turn of a caller without a follow-up event: its next event, or the clock's move to the target
abbrev pub own_turn : World → Net → Caller → ℕ → Option Turn
own_turn w net IsClock c = if movable w net then Some (move_turn (target w net)) else None
own_turn w net k c = option_map ask_turn (next_of w k net.past c)

-- the turn by the caller's list of follow-up events: the first of them, or its own turn
abbrev pub turn_by : World → Net → ℕ → List Duty → Option Turn
turn_by w net c [] = own_turn w net (caller_of w c) c
turn_by w net c (d ∷ ds) = Some (duty_turn d)

abbrev pub turn_of : World → Net → ℕ → Option Turn
turn_of w net c = turn_by w net c (net.owed c)

-- the entry of a turn, by the step of its actor
abbrev pub entry_with : Net → ℕ → Turn → Step Actor → Entry
entry_with net c t s =
    record {
      actor = t.actor;
      caller = c;
      moment = net.moment;
      event = t.work.event;
      cites = t.cites;
      reply = s.outcome.reply;
      emits = option_map header s.outcome.emit;
      ended = s.outcome.ended;
    }

abbrev pub turn_step : World → Net → Turn → Option (Step Actor)
turn_step w net t = actor_step w t.actor (net.actors t.actor) net.moment t.work

-- none if the turn is not ready
abbrev pub turn_entry : World → Net → ℕ → Turn → Option Entry
turn_entry w net c t = option_map (entry_with net c t) (turn_step w net t)

-- the entry that a caller records next; none if it has no turn, or its turn is not ready
abbrev pub next_entry : World → Net → ℕ → Option Entry
next_entry w net c = option_and_then (turn_entry w net c) (turn_of w net c)

-- a caller has fewer entries than it may record
abbrev pub has_room : Net → ℕ → Bool
has_room net c = nat_lt (length (by net.past c)) most_entries

-- a caller can continue
abbrev pub goes : World → Net → ℕ → Bool
goes w net c = has_room net c && is_some (next_entry w net c)

-- the callers that can continue, in ascending order
abbrev pub comes_in : World → Net → List ℕ
comes_in w net = filter (goes w net) (callers w)

abbrev pub comes : World → List Entry → List ℕ
comes w h = comes_in w (after w h)

-- a history after which no caller can continue
abbrev pub IsEnded : World → List Entry → Type 0
IsEnded w h = comes w h ≡ []

-- Histories as lists of callers.

-- a history with the entry of this caller's turn, or as it was if the caller has no turn
abbrev pub grown : List Entry → Option Entry → List Entry
grown h None = h
grown h (Some x) = h ++ x ∷ []

abbrev pub with_turn : World → List Entry → ℕ → List Entry
with_turn w h c = grown h (next_entry w (after w h) c)

-- the callers of the entries, in order
abbrev pub callers_of : List Entry → List ℕ
callers_of h = map (λ (x : Entry). x.caller) h

-- a history and the turns of these callers, one after another
abbrev pub with_turns : World → List Entry → List ℕ → List Entry
with_turns w h [] = h
with_turns w h (c ∷ cs) = with_turns w (with_turn w h c) cs
