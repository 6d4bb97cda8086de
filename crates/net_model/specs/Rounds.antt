-- The run of a world in rounds: in a round each caller in order of number records its first duty, or its next event, where
-- that is ready; one that has recorded the most entries that a caller may is passed over. After a round that recorded nothing
-- the run is over where a caller is at this limit, and else the clock moves, where it may.
use Rattle.std.specs.Prelude.{ℕ, zero, suc, ◌==◌, Bool, true, false, List, [], ◌∷◌, length, Option, Some, None, nat_lt, if◌then◌else◌}
use Rattle.net_base.specs.declared.actor.ActorName.TheVariants as name
use Rattle.net_base.specs.declared.event.Event.TheVariants as event
use Rattle.net_base.specs.declared.history.Entry.{Entry}
use Rattle.net_base.specs.declared.world.World.{World}
use Rattle.net_base.specs.ActorStep.{Step}
use Rattle.net_base.specs.Actors.{Actor, actor_step}
use Rattle.net_base.specs.Callers.{caller_of, clock_number}
use Rattle.net_base.specs.Calm.{callers, limited_to, most_entries, movable, target}
use Rattle.net_base.specs.Duties.{Duty}
use Rattle.net_base.specs.Legal.{cites_of, shown_of}
use Rattle.net_base.specs.Net.{Net, opening_net, next_net, with_of}
use Rattle.net_base.specs.Next.{by, next_of}
use Rattle.net_base.specs.Steps.{Ask}

-- the first duty's event, or the caller's next one where none is owed
abbrev pub round_asked : World → Net → ℕ → List Duty → Option Ask
round_asked w net c [] = next_of w (caller_of w c) net.past c
round_asked w net c (d ∷ ds) = Some (record { actor = d.actor; event = d.event })

-- the entry of a step
abbrev pub round_entry : Net → ℕ → Ask → Option (Step Actor) → Option Entry
round_entry net c ask None = None
round_entry net c ask (Some s) =
    Some (record {
      actor = ask.actor;
      caller = c;
      moment = net.moment;
      event = ask.event;
      cites = cites_of (net.owed c);
      reply = (shown_of s.outcome).reply;
      emits = (shown_of s.outcome).emits;
      ended = (shown_of s.outcome).ended;
    })

abbrev pub round_recorded : World → Net → ℕ → Option Ask → Option Entry
round_recorded w net c None = None
round_recorded w net c (Some ask) =
    round_entry net c ask (actor_step w ask.actor (net.actors ask.actor) net.moment (record { event = ask.event; with = with_of (net.owed c) }))

abbrev pub net_with_entry : World → Net → Option Entry → Net
net_with_entry w net None = net
net_with_entry w net (Some x) = next_net w net x

-- what a caller records on its turn, where it may record so many entries
abbrev pub plays : ℕ → World → Net → ℕ → Option Entry
plays most w net c = if nat_lt (length (by net.past c)) most then round_recorded w net c (round_asked w net c (net.owed c)) else None

abbrev pub round : ℕ → World → List ℕ → Net → Net
round most w [] net = net
round most w (c ∷ cs) net = round most w cs (net_with_entry w net (plays most w net c))

-- the clock moves
abbrev pub round_moves : World → Net → Net
round_moves w net = net_with_entry w net (round_recorded w net (clock_number w) (Some (record { actor = name.Clock; event = event.Move (target w net) })))

-- after a round that recorded nothing the run is over where a caller is at its limit; else the clock moves, or the run is over
abbrev pub round_goes_on : Bool → Bool → Bool → World → Net → Net → (Net → Net) → Net
round_goes_on false is_limited may_move w before after rounds = rounds after
round_goes_on true true may_move w before after rounds = before
round_goes_on true false true w before after rounds = rounds (round_moves w before)
round_goes_on true false false w before after rounds = before

-- at most so many rounds and moves, where a caller may record so many entries
abbrev pub rounds_to : ℕ → ℕ → World → Net → Net
rounds_to most zero w net = net
rounds_to most (suc n) w net =
    let after = round most w (callers w) net in
    round_goes_on (length after.past == length net.past) (limited_to most w net) (movable w net) w net after (rounds_to most n w)

abbrev pub rounds : ℕ → World → Net → Net
rounds n w net = rounds_to most_entries n w net

-- the history of the run
abbrev pub run_of : ℕ → World → List Entry
run_of n w = (rounds n w (opening_net w)).past
