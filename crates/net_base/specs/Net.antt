-- The whole net after a history: the fold of its entries.
--     state, owed, moment      of an actor, of a caller, of the clock
--     outcome                  what an entry's actor gives to its work
--     played                   the fold of one actor's own works
use Rattle.std.specs.Prelude.{ℕ, ◌==◌, List, [], ◌∷◌, ◌++◌, length, drop, Option, Some, None, if◌then◌else◌}
use Rattle.std.specs.Option.{option_map}
use Rattle.net_base.specs.declared.actor.ActorName.{ActorName}
use Rattle.net_base.specs.declared.event.Event.{Event}
use Rattle.net_base.specs.declared.event.Event.TheVariants as event
use Rattle.net_base.specs.declared.history.Entry.{Entry}
use Rattle.net_base.specs.declared.history.Outcome.{Outcome}
use Rattle.net_base.specs.declared.history.With.{With}
use Rattle.net_base.specs.declared.history.With.TheVariants as given
use Rattle.net_base.specs.declared.history.Work.{Work}
use Rattle.net_base.specs.declared.world.World.{World}
use Rattle.net_base.specs.ActorStep.{Step}
use Rattle.net_base.specs.Actors.{Actor, opening_actor, actor_step}
use Rattle.net_base.specs.Duties.{Duty, duties}
use Rattle.net_base.specs.Stamped.{same_actor}

pub record Net : Type 0 where
  -- the entries so far, oldest first
  pub past : List Entry
  pub actors : ActorName → Actor
  -- what each caller owes, in order
  pub owed : ℕ → List Duty
  pub moment : ℕ

-- the net from which a world sets out
abbrev pub opening_net : World → Net
opening_net w = record { past = []; actors = opening_actor w.timers; owed = λ _. []; moment = 0 }

-- An entry's work.

abbrev pub with_of : List Duty → With
with_of [] = given.Nothing
with_of (d ∷ ds) = d.with

-- the event with what its caller's first duty gives, or with nothing where none is owed
abbrev pub work_of : Net → Entry → Work
work_of net x = record { event = x.event; with = with_of (net.owed x.caller) }

abbrev pub step_of : World → Net → Entry → Option (Step Actor)
step_of w net x = actor_step w x.actor (net.actors x.actor) net.moment (work_of net x)

-- The net after an entry.

abbrev pub moment_after : ℕ → Event → ℕ
moment_after now (event.Move m) = m
moment_after now _ = now

abbrev pub actors_after : (ActorName → Actor) → ActorName → Actor → ActorName → Actor
actors_after actors a new b = if same_actor a b then new else actors b

-- the caller's first duty is done, and the new ones are owed after the others
abbrev pub owed_after : (ℕ → List Duty) → ℕ → List Duty → ℕ → List Duty
owed_after owed c new d = if c == d then drop 1 (owed d) ++ new else owed d

-- an entry whose work isn't ready is listed, and changes nothing
abbrev pub net_after : World → Net → Entry → Option (Step Actor) → Net
net_after w net x None = record net { past = net.past ++ x ∷ [] }
net_after w net x (Some s) =
    record {
      past = net.past ++ x ∷ [];
      actors = actors_after net.actors x.actor s.state;
      owed = owed_after net.owed x.caller (duties w net.actors x.actor (length net.past) (work_of net x) s);
      moment = moment_after net.moment x.event;
    }

abbrev pub next_net : World → Net → Entry → Net
next_net w net x = net_after w net x (step_of w net x)

abbrev pub net_of : World → Net → List Entry → Net
net_of w net [] = net
net_of w net (x ∷ xs) = net_of w (next_net w net x) xs

-- the net after a history
abbrev pub after : World → List Entry → Net
after w h = net_of w (opening_net w) h

abbrev pub state : World → List Entry → ActorName → Actor
state w h a = (after w h).actors a

abbrev pub owed : World → List Entry → ℕ → List Duty
owed w h c = (after w h).owed c

abbrev pub moment : World → List Entry → ℕ
moment w h = (after w h).moment

-- what an entry's actor gives to its work; none where the work isn't ready
abbrev pub outcome_in : World → Net → Entry → Option Outcome
outcome_in w net x = option_map (λ (s : Step Actor). s.outcome) (step_of w net x)

-- what an entry's actor gives to its work after these entries
abbrev pub outcome : World → List Entry → Entry → Option Outcome
outcome w past x = outcome_in w (after w past) x

-- The fold of one actor.

-- a work with its moment
pub record WorkAt : Type 0 where
  pub moment : ℕ
  pub work : Work

abbrev pub works_from : World → ActorName → Net → List Entry → List WorkAt
works_from w a net [] = []
works_from w a net (x ∷ xs) =
    if same_actor x.actor a
    then record { moment = net.moment; work = work_of net x } ∷ works_from w a (next_net w net x) xs
    else works_from w a (next_net w net x) xs

-- the works of an actor's entries, with their moments
abbrev pub works : World → List Entry → ActorName → List WorkAt
works w h a = works_from w a (opening_net w) h

-- a work that isn't ready changes nothing
abbrev pub stepped_to : Actor → Option (Step Actor) → Actor
stepped_to s None = s
stepped_to s (Some t) = t.state

abbrev pub play : World → ActorName → Actor → WorkAt → Actor
play w a s p = stepped_to s (actor_step w a s p.moment p.work)

-- the fold of an actor's own step over these works
abbrev pub played : World → ActorName → Actor → List WorkAt → Actor
played w a s [] = s
played w a s (p ∷ ps) = played w a (play w a s p) ps
