-- The release of a conversation, by the event in which it ended.
use Rattle.std.specs.Prelude.{ℕ, Bool, true, List, [], Option, Some, None}
use Rattle.net_base.specs.declared.actor.ActorName.{ActorName}
use Rattle.net_base.specs.declared.actor.ActorName.TheVariants as name
use Rattle.net_base.specs.declared.address.Proto.{Proto}
use Rattle.net_base.specs.declared.event.Event.{Event}
use Rattle.net_base.specs.declared.event.Event.TheVariants as event
use Rattle.net_base.specs.declared.history.With.TheVariants as given
use Rattle.net_base.specs.Duties.{Duty, one_duty}
use Rattle.history_laws.specs.ConvRows.{generation_in}

abbrev pub release_of : ℕ → Proto → ℕ → ℕ → Option ℕ → List Duty
release_of h p n s (Some g) = one_duty s (name.Dir h p) (event.Release n g) given.Nothing
release_of h p n s None = []

-- what a conversation owes that ended in an event
abbrev pub released : ActorName → ℕ → Event → Bool → List Duty
released (name.Conv h p n) s e true = release_of h p n s (generation_in e)
released _ s e _ = []
