-- The events of requests at their actors.
use Rattle.std.specs.Prelude.{ℕ, List}
use Rattle.net_base.specs.declared.names.Mode.{Mode}
use Rattle.net_base.specs.Steps.{Ask}
use Rattle.script_task.specs.declared.effect.Effect.TheVariants.{Keeps}
use Rattle.script_task.specs.declared.planned.Planned.{Planned}
use Rattle.net_base.specs.declared.request.Request.{Request}
use Rattle.net_base.specs.declared.request.Request.TheVariants as request

-- the event at its actor
abbrev pub ask_of : Planned → Ask
ask_of p = record { actor = p.actor; event = p.event }

-- an event after which the names stay
abbrev pub keeping : Ask → Planned
keeping ask = record { actor = ask.actor; event = ask.event; effect = Keeps }

abbrev pub open_request : List ℕ → List ℕ → Mode → Request
open_request called path m = request.Open called path m
