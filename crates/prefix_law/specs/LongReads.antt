-- Plays that read long: there is room for the longest message, whatever the replies.
use Rattle.std.specs.Prelude.{ℕ, ◌≤◌, List}
use Rattle.net_base.specs.declared.event.Event.{Event}
use Rattle.net_base.specs.declared.event.Event.TheVariants as event
use Rattle.net_base.specs.declared.reply.Reply.{Reply}
use Rattle.net_base.specs.Exports.{Own}
use Rattle.net_base.specs.Steps.{Play, Asks, Ends}

abbrev pub ReadsLong : Event → Type 0
ReadsLong (event.Read g count) = 8192 ≤ count
ReadsLong _ = Unit {0}

-- whatever the replies, each read that the play asks for has room for the longest message
abbrev pub ReadsWhole : Play → Type 0
ReadsWhole (Ends names) = Unit {0}
ReadsWhole (Asks a e next) = ReadsLong e × ((r : Reply) → ReadsWhole (next r))

-- what is asked on the own file reads long
abbrev pub IsLong : Own → Type 0
IsLong own = ReadsLong own.reads.event × ((text : List ℕ) → ReadsLong (own.writes text).event)
