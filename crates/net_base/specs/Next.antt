-- What each caller records next where it owes nothing, and how far the scripts are.
use Rattle.std.specs.Prelude.{ℕ, ◌-◌, ◌==◌, Bool, List, map, filter, length, take, Option, Some, None, is_none, is_some, nat_lt, if◌then◌else◌}
use Rattle.net_base.specs.declared.actor.ActorName.TheVariants as name
use Rattle.net_base.specs.declared.event.Event.TheVariants as event
use Rattle.net_base.specs.declared.history.Entry.{Entry}
use Rattle.net_base.specs.declared.reply.Reply.{Reply}
use Rattle.net_base.specs.declared.world.Script.{Script}
use Rattle.net_base.specs.declared.world.World.{World}
use Rattle.net_base.specs.Callers.{Caller, IsScript, IsCourier, IsClock, IsNobody, caller_of}
use Rattle.net_base.specs.Scripts.{at_first, position}
use Rattle.net_base.specs.Steps.{Ask, Position, no_names}
use Rattle.net_base.specs.Tasks.{Asking, Tasks, nobody, task_next}
use Rattle.net_base.specs.Versions.{Tuples, database_of}

-- the entries of a caller, in order
abbrev pub by : List Entry → ℕ → List Entry
by h c = filter (λ (x : Entry). x.caller == c) h

-- the entries of a caller that nothing owed, in order
abbrev pub own_entries : List Entry → ℕ → List Entry
own_entries h c = filter (λ (x : Entry). is_none x.cites) (by h c)

-- the replies to their events
abbrev pub own_replies : List Entry → ℕ → List Reply
own_replies h c = map (λ (x : Entry). x.reply) (own_entries h c)

-- the database from which `dns` answers: the first
abbrev pub zone_of : World → Tuples
zone_of w = database_of w.dbs 0

-- where a script stands
abbrev pub standing : World → List Entry → ℕ → Script → Position
standing w h c s = position s.host s.steps (at_first (zone_of w)) (own_replies h c)

-- what is recorded next in the place of a script, by the replies to what was recorded there: the next event of its steps, or of the
-- task that is played there
abbrev pub place_next : Option Asking → Tuples → Script → List Reply → Option Ask
place_next None zone s rs = (position s.host s.steps (at_first zone) rs).next
place_next (Some asks) zone s rs = task_next s.host (no_names zone) asks rs

-- some step isn't finished, or the task isn't through
abbrev pub is_left : Option Asking → Tuples → Script → List Reply → Bool
is_left None zone s rs = nat_lt 0 (length (position s.host s.steps (at_first zone) rs).left)
is_left (Some asks) zone s rs = is_some (task_next s.host (no_names zone) asks rs)

-- a courier takes at its medium; the clock has no next, because its moves are judged by the calm
abbrev pub next_of_by : Tasks → World → Caller → List Entry → ℕ → Option Ask
next_of_by ts w (IsScript s) h c = place_next (ts c) (zone_of w) s (own_replies h c)
next_of_by ts w (IsCourier m) h c = Some (record { actor = name.Medium m; event = event.Take })
next_of_by ts w IsClock h c = None
next_of_by ts w IsNobody h c = None

-- the event that a caller records next, where it owes nothing
abbrev pub next_by : Tasks → World → List Entry → ℕ → Option Ask
next_by ts w h c = next_of_by ts w (caller_of w c) h c

-- where each script is played
abbrev pub next_of : World → Caller → List Entry → ℕ → Option Ask
next_of w k h c = next_of_by nobody w k h c

abbrev pub next_recorded : World → List Entry → ℕ → Option Ask
next_recorded w h c = next_by nobody w h c

-- how many steps of a script are finished after these replies, where `dns` answers from this database
abbrev pub finished_by : Tuples → List Reply → Script → ℕ
finished_by zone rs s = length s.steps - length (position s.host s.steps (at_first zone) rs).left

-- how many steps of a script are answered, where it owes something or not: what is owed belongs to the step of its last event
abbrev pub answered : World → List Entry → ℕ → Bool → Script → ℕ
answered w h c owes s =
    if owes
    then finished_by (zone_of w) (take (length (own_replies h c) - 1) (own_replies h c)) s
    else finished_by (zone_of w) (own_replies h c) s

-- some step of the script isn't finished, or the task in its place isn't through
abbrev pub is_unfinished_by : Tasks → World → List Entry → ℕ → Script → Bool
is_unfinished_by ts w h c s = is_left (ts c) (zone_of w) s (own_replies h c)

abbrev pub is_unfinished : World → List Entry → ℕ → Script → Bool
is_unfinished w h c s = is_unfinished_by nobody w h c s
