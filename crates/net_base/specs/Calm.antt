-- When the clock may move and to which moment, and how a run ends: by who plays a task in the place of a script, and at the end where
-- nobody does.
use Rattle.std.specs.Prelude.{ℕ, ◌++◌, ◌==◌, ◌&&◌, ◌||◌, Bool, true, false, not, List, [], ◌∷◌, length, min, Option, Some, None, is_some, nat_lt, filter_map}
use Rattle.std.specs.List.{list_any, list_all, range_with_len, enumerate_from}
use Rattle.net_base.specs.declared.actor.ActorName.{ActorName}
use Rattle.net_base.specs.declared.actor.ActorName.TheVariants as name
use Rattle.net_base.specs.declared.event.Event.{Event}
use Rattle.net_base.specs.declared.event.Event.TheVariants as event
use Rattle.net_base.specs.declared.history.With.TheVariants as given
use Rattle.net_base.specs.declared.world.Script.{Script}
use Rattle.net_base.specs.declared.world.World.{World}
use Rattle.net_base.specs.Actors.{Actor, IsMedium, actor_step}
use Rattle.net_base.specs.Callers.{Caller, IsClock, caller_of, caller_count}
use Rattle.net_base.specs.Duties.{conversations, due_of}
use Rattle.net_base.specs.Net.{Net}
use Rattle.net_base.specs.Next.{by, next_of_by, is_unfinished_by}
use Rattle.net_base.specs.Steps.{Ask}
use Rattle.net_base.specs.Tasks.{Tasks, nobody}

-- The calm. Each of these speaks of a net that stands after a history.

abbrev pub owes : Net → ℕ → Bool
owes net c = nat_lt 0 (length (net.owed c))

-- an event is ready, with nothing given to it
abbrev pub is_ready : World → Net → Option Ask → Bool
is_ready w net None = false
is_ready w net (Some ask) = is_some (actor_step w ask.actor (net.actors ask.actor) net.moment (record { event = ask.event; with = given.Nothing }))

-- a caller's next event is ready
abbrev pub can_go_on_by : Tasks → World → Net → ℕ → Bool
can_go_on_by ts w net c = is_ready w net (next_of_by ts w (caller_of w c) net.past c)

-- the numbers of all callers
abbrev pub callers : World → List ℕ
callers w = range_with_len 0 (caller_count w)

abbrev pub nothing_owed : World → Net → Bool
nothing_owed w net = list_all (λ (c : ℕ). not (owes net c)) (callers w)

-- no copy is queued or held
abbrev pub is_quiet : Actor → Bool
is_quiet (IsMedium m) = (length m.queue == 0) && (length m.held == 0)
is_quiet _ = true

abbrev pub nothing_pending : World → Net → Bool
nothing_pending w net = list_all (λ (m : ℕ). is_quiet (net.actors (name.Medium m))) (range_with_len 0 (length w.media))

-- of no script or task is the next event ready
abbrev pub scripts_wait_by : Tasks → World → Net → Bool
scripts_wait_by ts w net = list_all (λ (c : ℕ). not (can_go_on_by ts w net c)) (range_with_len 0 (length w.scripts))

abbrev pub calm_by : Tasks → World → Net → Bool
calm_by ts w net = nothing_owed w net && (nothing_pending w net && scripts_wait_by ts w net)

-- some script or task isn't through
abbrev pub unfinished_by : Tasks → World → Net → Bool
unfinished_by ts w net = list_any (λ (s : ℕ × Script). is_unfinished_by ts w net.past s.0 s.1) (enumerate_from 0 w.scripts)

-- the clock may move
abbrev pub movable_by : Tasks → World → Net → Bool
movable_by ts w net = calm_by ts w net && (unfinished_by ts w net && nat_lt net.moment w.end)

-- the moment that a script or a task waits for
abbrev pub awaited_moment : Option Ask → Option ℕ
awaited_moment None = None
awaited_moment (Some ask) = until ask.event
  where
    until : Event → Option ℕ
    until (event.Until m) = Some m
    until _ = None

-- the least of some moments, or the last where none of them is earlier
abbrev pub least : ℕ → List ℕ → ℕ
least last [] = last
least last (m ∷ ms) = min m (least last ms)

-- the moment to which the clock moves: the least of the due moments and of those that scripts and tasks wait for, or the end moment
-- where that is not later
abbrev pub target_by : Tasks → World → Net → ℕ
target_by ts w net =
    least w.end
    (filter_map (λ (a : ActorName). due_of (net.actors a)) (conversations w)
    ++ filter_map (λ (c : ℕ). awaited_moment (next_of_by ts w (caller_of w c) net.past c)) (callers w))

-- The end of a run.

-- entries that a caller may record
abbrev pub most_entries : ℕ
most_entries = 131072

-- this caller owes a duty or could go on
abbrev pub could_record_by : Tasks → World → Net → Caller → ℕ → Bool
could_record_by ts w net IsClock c = owes net c || movable_by ts w net
could_record_by ts w net _ c = owes net c || can_go_on_by ts w net c

-- it has recorded the most entries that a caller may, and could record more
abbrev pub at_limit_of_by : Tasks → ℕ → World → Net → ℕ → Bool
at_limit_of_by ts most w net c = (length (by net.past c) == most) && could_record_by ts w net (caller_of w c) c

abbrev pub at_limit_by : Tasks → World → Net → ℕ → Bool
at_limit_by ts w net = at_limit_of_by ts most_entries w net

-- some caller is at the limit
abbrev pub limited_to_by : Tasks → ℕ → World → Net → Bool
limited_to_by ts most w net = list_any (at_limit_of_by ts most w net) (callers w)

abbrev pub limited_by : Tasks → World → Net → Bool
limited_by ts w net = limited_to_by ts most_entries w net

-- every step is answered, and every task through
abbrev pub done_by : Tasks → World → Net → Bool
done_by ts w net = calm_by ts w net && (not (limited_by ts w net) && not (unfinished_by ts w net))

-- the end moment came, and some script or task isn't through
abbrev pub stopped_by : Tasks → World → Net → Bool
stopped_by ts w net = calm_by ts w net && (not (limited_by ts w net) && (unfinished_by ts w net && (net.moment == w.end)))

-- Where each script is played.

abbrev pub can_go_on : World → Net → ℕ → Bool
can_go_on w net c = can_go_on_by nobody w net c

abbrev pub scripts_wait : World → Net → Bool
scripts_wait w net = scripts_wait_by nobody w net

abbrev pub calm : World → Net → Bool
calm w net = calm_by nobody w net

abbrev pub unfinished : World → Net → Bool
unfinished w net = unfinished_by nobody w net

abbrev pub movable : World → Net → Bool
movable w net = movable_by nobody w net

abbrev pub target : World → Net → ℕ
target w net = target_by nobody w net

abbrev pub could_record : World → Net → Caller → ℕ → Bool
could_record w net k c = could_record_by nobody w net k c

abbrev pub at_limit_of : ℕ → World → Net → ℕ → Bool
at_limit_of most w net c = at_limit_of_by nobody most w net c

abbrev pub at_limit : World → Net → ℕ → Bool
at_limit w net = at_limit_by nobody w net

abbrev pub limited_to : ℕ → World → Net → Bool
limited_to most w net = limited_to_by nobody most w net

abbrev pub limited : World → Net → Bool
limited w net = limited_by nobody w net

abbrev pub done : World → Net → Bool
done w net = done_by nobody w net

abbrev pub stopped : World → Net → Bool
stopped w net = stopped_by nobody w net
