-- What an entry does with a packet: it is put on a link, a copy of a frame is taken, or a host sends it.
use Rattle.std.specs.Prelude.{ℕ, Option, Some, None}
use Rattle.net_base.specs.declared.actor.ActorName.{ActorName}
use Rattle.net_base.specs.declared.actor.ActorName.TheVariants as name
use Rattle.net_base.specs.declared.event.Event.{Event}
use Rattle.net_base.specs.declared.event.Event.TheVariants as event
use Rattle.net_base.specs.declared.history.Entry.{Entry}
use Rattle.net_base.specs.declared.packet.Header.{Header}
use Rattle.net_base.specs.declared.reply.Reply.{Reply}
use Rattle.net_base.specs.declared.reply.Reply.TheVariants as reply
use Rattle.packet_rows.specs.declared.deed.Deed.{Deed}
use Rattle.packet_rows.specs.declared.deed.Deed.TheVariants.{Put, Took, Sent, Nothing}
use Rattle.packet_rows.specs.declared.deed.Fate.TheVariants as fate

-- the link accepts it as a frame, or doesn't
abbrev pub put_deed : ℕ → Option ℕ → Reply → Deed
put_deed m to (reply.Laid k) = Put m to (fate.Laid k)
put_deed m to reply.TooBig = Put m to fate.TooBig
put_deed m to reply.NoStation = Put m to fate.NoStation
put_deed m to _ = Nothing

-- a copy of the frame is taken
abbrev pub take_deed : ℕ → Reply → Deed
take_deed m (reply.Copy k) = Took m k
take_deed m _ = Nothing

abbrev pub deed_at_medium : ℕ → Event → Reply → Deed
deed_at_medium m (event.Put to) r = put_deed m to r
deed_at_medium m event.Take r = take_deed m r
deed_at_medium m _ r = Nothing

abbrev pub deed_at_host : ℕ → Option Header → Deed
deed_at_host h (Some header) = Sent h header
deed_at_host h None = Nothing

abbrev pub deed_by : ActorName → Event → Reply → Option Header → Deed
deed_by (name.Desk h) e r emits = deed_at_host h emits
deed_by (name.Dir h p) e r emits = deed_at_host h emits
deed_by (name.Conv h p n) e r emits = deed_at_host h emits
deed_by (name.Medium m) e r emits = deed_at_medium m e r
deed_by name.Clock e r emits = Nothing

abbrev pub deed_of : Entry → Deed
deed_of x = deed_by x.actor x.event x.reply x.emits
