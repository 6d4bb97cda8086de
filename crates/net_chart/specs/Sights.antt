-- What a chart sees of an entry: a frame that is laid, a copy of one that arrives, or an operation of a script on a host's files.
use Rattle.std.specs.Prelude.{ℕ, Bool, true, false, not, Option, Some, None}
use Rattle.net_base.specs.declared.actor.ActorName.{ActorName}
use Rattle.net_base.specs.declared.actor.ActorName.TheVariants as name
use Rattle.net_base.specs.declared.event.Event.{Event}
use Rattle.net_base.specs.declared.event.Event.TheVariants as event
use Rattle.net_base.specs.declared.history.Entry.{Entry}
use Rattle.net_base.specs.declared.reply.Reply.{Reply}
use Rattle.net_base.specs.declared.reply.Reply.TheVariants as reply
use Rattle.net_chart.specs.declared.sight.Sight.{Sight}
use Rattle.net_chart.specs.declared.sight.Sight.TheVariants.{Laid, Came, Did, Nothing}

-- the frame k of a medium is laid for a station
abbrev pub laid_on : ℕ → ℕ → Reply → Sight
laid_on m to (reply.Laid k) = Laid m k to
laid_on m to _ = Nothing

-- a courier takes a copy of it
abbrev pub sight_taken : ℕ → Reply → Sight
sight_taken m (reply.Copy k) = Came m k
sight_taken m _ = Nothing

-- without a station nothing is laid
abbrev pub put_on : ℕ → Option ℕ → Reply → Sight
put_on m None r = Nothing
put_on m (Some to) r = laid_on m to r

abbrev pub sight_on_medium : ℕ → Event → Reply → Sight
sight_on_medium m (event.Put to) r = put_on m to r
sight_on_medium m event.Take r = sight_taken m r
sight_on_medium m _ r = Nothing

-- what nothing owed is an operation
abbrev pub on_host : ℕ → Option ℕ → Sight
on_host h None = Did h
on_host h (Some s) = Nothing

abbrev pub sight_seen : ActorName → Event → Reply → Option ℕ → Sight
sight_seen (name.Desk h) e r cites = on_host h cites
sight_seen (name.Dir h p) e r cites = on_host h cites
sight_seen (name.Conv h p n) e r cites = on_host h cites
sight_seen (name.Medium m) e r cites = sight_on_medium m e r
sight_seen name.Clock e r cites = Nothing

abbrev pub sight_of : Entry → Sight
sight_of x = sight_seen x.actor x.event x.reply x.cites

-- it has a row of its own: on a brief page only a frame that is laid
abbrev pub has_row : Bool → Sight → Bool
has_row brief (Laid m k to) = true
has_row brief (Came m k) = not brief
has_row brief (Did h) = not brief
has_row brief Nothing = false

-- the host of an actor
abbrev pub host_of : ActorName → Option ℕ
host_of (name.Desk h) = Some h
host_of (name.Dir h p) = Some h
host_of (name.Conv h p n) = Some h
host_of _ = None
