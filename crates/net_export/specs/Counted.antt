-- How many events an entry of a script owes, by what the entry shows.
use Rattle.std.specs.Prelude.{ℕ, ◌+◌, ◌-◌, ◌==◌, Bool, true, List, [], ◌∷◌, length, Option, Some, None, if◌then◌else◌}
use Rattle.net_base.specs.declared.actor.ActorName.{ActorName}
use Rattle.net_base.specs.declared.actor.ActorName.TheVariants as name
use Rattle.net_base.specs.declared.event.Event.{Event}
use Rattle.net_base.specs.declared.event.Event.TheVariants as event
use Rattle.net_base.specs.declared.history.Entry.{Entry}
use Rattle.net_base.specs.declared.packet.Header.{Header}
use Rattle.net_base.specs.declared.reply.Reply.{Reply}
use Rattle.net_base.specs.declared.reply.Reply.TheVariants as reply
use Rattle.net_base.specs.declared.world.World.{World}
use Rattle.net_base.specs.Routes.{Way, way}

abbrev pub if_way : Option Way → ℕ
if_way None = 0
if_way (Some out) = 1

-- the put of a packet with this header
abbrev pub counts_put : World → ActorName → Option Header → ℕ
counts_put w (name.Dir h p) (Some header) = if_way (way w h header.dst.ip)
counts_put w (name.Conv h p n) (Some header) = if_way (way w h header.dst.ip)
counts_put w _ _ = 0

abbrev pub due_at_directory : Event → Reply → ℕ
due_at_directory event.Reserve (reply.Slot n g) = 1
due_at_directory (event.Grant n g remote port) (reply.Granted pair start limit) = 1
due_at_directory (event.Announce n g ip port) reply.Ok = 1
due_at_directory (event.Bind n g port) reply.Ok = 1
due_at_directory (event.Listen n) (reply.Call m g) = 1
due_at_directory (event.Withdraw n g) (reply.Calls calls) = length calls
due_at_directory (event.Release n g) (reply.Calls calls) = length calls
due_at_directory event.Arrive (reply.To n g) = 1
due_at_directory event.Arrive (reply.Born n g start limit) = 1
due_at_directory _ _ = 0

abbrev pub at_conversation : Event → Reply → ℕ
at_conversation (event.Hangup g) reply.Left = 1
at_conversation _ _ = 0

-- what follows a reply
abbrev pub follow_ups : ActorName → Event → Reply → ℕ
follow_ups (name.Dir h p) e r = due_at_directory e r
follow_ups (name.Conv h p n) e r = at_conversation e r
follow_ups _ e r = 0

-- the release of a conversation that ended
abbrev pub releases : ActorName → Bool → ℕ
releases (name.Conv h p n) true = 1
releases _ ended = 0

-- all that an entry brings
abbrev pub brought : World → Entry → ℕ
brought w x = counts_put w x.actor x.emits + follow_ups x.actor x.event x.reply + releases x.actor x.ended

-- how many events a caller owes after entries: each of its own does the first of them, and brings its own
abbrev pub count_after : World → ℕ → ℕ → List Entry → ℕ
count_after w c owed [] = owed
count_after w c owed (x ∷ xs) = count_after w c (if x.caller == c then (owed - 1) + brought w x else owed) xs
