-- The ticks of a move.
use Rattle.std.specs.Prelude.{◌≡◌, ℕ, List, [], flat_map, filter_map, Option, Some, None, nat_le, if◌then◌else◌}
use Rattle.std.specs.Option.{option_map}
use Rattle.duties.specs.declared.due.Due.{Due}
use Rattle.net_base.specs.declared.actor.ActorName.{ActorName}
use Rattle.net_base.specs.declared.actor.ActorName.TheVariants as name
use Rattle.net_base.specs.declared.event.Event.TheVariants as event
use Rattle.net_base.specs.declared.history.With.{With}
use Rattle.net_base.specs.declared.history.With.TheVariants as given
use Rattle.net_base.specs.declared.world.World.{World}
use Rattle.net_base.specs.ActorStep.{Step}
use Rattle.net_base.specs.Actors.{Actor, actor_step}
use Rattle.net_base.specs.Duties.{Duty, duties, one_duty, conversations, due_of, generation_of, owed_ticks}
use Rattle.duties.specs.Queue.{Queue, AddsDuty}

-- the tick of a conversation whose due moment has come
abbrev pub tick_of : ℕ → ℕ → Due → List Duty
tick_of s now d =
    if nat_le d.due now then one_duty s (name.Conv d.host d.proto d.slot) (event.Tick d.generation) given.Nothing else []

-- the ticks of those of them whose due moment has come, in order
abbrev pub ticks_of : ℕ → ℕ → List Due → List Duty
ticks_of s now dues = flat_map (tick_of s now) dues

-- when a conversation is due, if it is
abbrev pub due_at : (ActorName → Actor) → ActorName → Option Due
due_at actors (name.Conv h p n) =
    option_map
    (λ (due : ℕ). record { host = h; proto = p; slot = n; generation = generation_of (actors (name.Conv h p n)); due = due })
    (due_of (actors (name.Conv h p n)))
due_at actors _ = None

-- when the conversations of a world are due, in the order of its conversations
abbrev pub dues_of : World → (ActorName → Actor) → List Due
dues_of w actors = filter_map (due_at actors) (conversations w)

-- each step of the clock for a move to this moment owes the ticks of those that are due, and nothing else
abbrev pub MoveOwes : World → (ActorName → Actor) → ℕ → ℕ → Type 0
MoveOwes w actors stamp now =
    (with : With) (before : Actor) (moment : ℕ) (step : Step Actor)
    → actor_step w name.Clock before moment (record { event = event.Move now; with = with }) ≡ Some step
    → duties w actors name.Clock stamp (record { event = event.Move now; with = with }) step ≡ ticks_of stamp now (dues_of w actors)

-- where these are the due moments of a world's conversations, the ticks of a move are owed after what was owed before
abbrev pub AddsTicks : ℕ → ℕ → List Due → Queue → Queue → Type 0
AddsTicks stamp now dues old new =
    (w : World) (actors : ActorName → Actor) → dues ≡ dues_of w actors
    → AddsDuty old new (owed_ticks w actors name.Clock stamp (event.Move now))
