-- The follow-up of a directory's reply.
use Rattle.std.specs.Prelude.{ℕ, List}
use Rattle.duties.specs.declared.follow_up.Home.{Home}
use Rattle.duties.specs.Queue.{Queue, AddsDuty}
use Rattle.net_base.specs.declared.actor.ActorName.TheVariants as name
use Rattle.net_base.specs.declared.event.Event.{Event}
use Rattle.net_base.specs.declared.history.With.{With}
use Rattle.net_base.specs.declared.reply.Reply.{Reply}
use Rattle.net_base.specs.Duties.{Duty, follow_up, one_duty}

-- of the directory of a host and protocol
abbrev pub asks : Home → Event → With → Reply → List Duty
asks h e with answer = follow_up (name.Dir h.host h.proto) h.stamp e with answer

-- what the directory is asked is added, whatever was given to the event
abbrev pub AddsAsked : Home → Event → Reply → Queue → Queue → Type 0
AddsAsked h e answer old new = (with : With) → AddsDuty old new (asks h e with answer)

-- of the conversation in a slot
abbrev pub leaves_slot : Home → ℕ → Event → With → Reply → List Duty
leaves_slot h slot e with answer = follow_up (name.Conv h.host h.proto slot) h.stamp e with answer

-- an event that is owed at a conversation
abbrev pub owes_at : Home → ℕ → Event → With → List Duty
owes_at h slot e with = one_duty h.stamp (name.Conv h.host h.proto slot) e with
