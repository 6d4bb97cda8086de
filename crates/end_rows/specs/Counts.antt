-- A conversation as it is counted by the entries of a history.
use Rattle.std.specs.Prelude.{ℕ, ◌-◌, ◌==◌, Bool, true, false, Option, Some, None, is_none, if◌then◌else◌}
use Rattle.net_base.specs.declared.address.Pair.{Pair}
use Rattle.net_base.specs.declared.address.Proto.{Proto}
use Rattle.net_base.specs.declared.address.Proto.TheVariants as proto
use Rattle.net_base.specs.declared.event.Event.{Event}
use Rattle.net_base.specs.declared.event.Event.TheVariants as event
use Rattle.net_base.specs.declared.history.Entry.{Entry}
use Rattle.net_base.specs.declared.history.With.{With}
use Rattle.net_base.specs.declared.history.With.TheVariants as given
use Rattle.net_base.specs.declared.il.Cause.{Cause}
use Rattle.net_base.specs.declared.il.Cause.TheVariants as cause
use Rattle.net_base.specs.declared.il.IlState.TheVariants as state
use Rattle.net_base.specs.declared.il.StateName.{StateName}
use Rattle.net_base.specs.declared.packet.Body.{Body}
use Rattle.net_base.specs.declared.packet.Body.TheVariants as body
use Rattle.net_base.specs.declared.packet.Packet.{Packet}
use Rattle.net_base.specs.declared.reply.Reply.{Reply}
use Rattle.net_base.specs.declared.reply.Reply.TheVariants as reply
use Rattle.net_base.specs.declared.udp.UdpState.{UdpState}
use Rattle.net_base.specs.declared.udp.UdpState.TheVariants as udp
use Rattle.net_base.specs.Conversation.{il_state_name, nowhere}
use Rattle.net_base.specs.UdpEnd.{udp_state_name}
use Rattle.end_rows.specs.declared.count.Count.{Count}
use Rattle.end_rows.specs.declared.count.EndCount.{EndCount}
use Rattle.end_rows.specs.declared.count.EndCount.TheVariants.{Il, Udp}
use Rattle.end_rows.specs.declared.count.UdpCount.{UdpCount}
use Rattle.end_rows.specs.declared.il.IlCount.{IlCount}
use Rattle.end_rows.specs.Arrivals.{counted_arrival}
use Rattle.end_rows.specs.IlCounts.{counted_close, counted_hangup, counted_read, fresh_count, next_count}

-- Ends.

abbrev pub no_pair : Pair
no_pair = record { local = nowhere; remote = nowhere }

abbrev pub fresh_end_count : Proto → EndCount
fresh_end_count proto.Il = Il fresh_count
fresh_end_count proto.Udp = Udp (record { state = udp.Fresh; unread = 0 })

abbrev pub hung_up_at : UdpState → UdpCount → UdpCount
hung_up_at udp.Fresh e = e
hung_up_at _ e = record e { state = udp.HungUp }

abbrev pub counted_udp_hangup : UdpCount → UdpCount
counted_udp_hangup e = hung_up_at e.state e

abbrev pub counted_end_hangup : EndCount → EndCount
counted_end_hangup (Il e) = Il (counted_hangup e)
counted_end_hangup (Udp e) = Udp (counted_udp_hangup e)

-- a datagram is read whole
abbrev pub counted_end_read : ℕ → EndCount → EndCount
counted_end_read count (Il e) = Il (counted_read count e)
counted_end_read count (Udp e) = Udp (record e { unread = e.unread - 1 })

abbrev pub counted_end_write : EndCount → EndCount
counted_end_write (Il e) = Il (record e { written = next_count e.written })
counted_end_write (Udp e) = Udp e

abbrev pub counted_end_timeout : EndCount → EndCount
counted_end_timeout (Il e) = Il (counted_close cause.TimedOut e)
counted_end_timeout (Udp e) = Udp e

abbrev pub counted_end_connect : ℕ → EndCount → EndCount
counted_end_connect start (Il e) = Il (record e { state = state.Syncer; start = start })
counted_end_connect start (Udp e) = Udp (record e { state = udp.Open })

abbrev pub counted_end_listen : EndCount → EndCount
counted_end_listen (Il e) = Il (record e { state = state.Listening })
counted_end_listen (Udp e) = Udp (record e { state = udp.Listening })

abbrev pub counted_il_birth : ℕ → Body → IlCount → IlCount
counted_il_birth start (body.Il m) e = record e { state = state.Syncee; start = start; rstart = Some m.id }
counted_il_birth start (body.Udp text) e = e

abbrev pub counted_end_birth : ℕ → Body → EndCount → EndCount
counted_end_birth start b (Il e) = Il (counted_il_birth start b e)
counted_end_birth start b (Udp e) = Udp (record { state = udp.Open; unread = 1 })

abbrev pub counted_il_arrival : Body → IlCount → IlCount
counted_il_arrival (body.Il m) e = counted_arrival m e
counted_il_arrival (body.Udp text) e = e

-- a datagram for which there was room
abbrev pub counted_udp_arrival : Reply → UdpCount → UdpCount
counted_udp_arrival reply.Took e = record e { unread = next_count e.unread }
counted_udp_arrival _ e = e

abbrev pub counted_end_arrival : Body → Reply → EndCount → EndCount
counted_end_arrival b r (Il e) = Il (counted_il_arrival b e)
counted_end_arrival b r (Udp e) = Udp (counted_udp_arrival r e)

-- Replies.

abbrev pub is_bytes : Reply → Bool
is_bytes (reply.Bytes bytes) = true
is_bytes _ = false

abbrev pub is_count : Reply → Bool
is_count (reply.Count n) = true
is_count _ = false

abbrev pub is_opened : Reply → Bool
is_opened (reply.Opened g) = true
is_opened _ = false

-- the event is of an older generation, and nothing changes
abbrev pub is_stale : Reply → Bool
is_stale reply.Stale = true
is_stale _ = false

abbrev pub is_ticked : Reply → Bool
is_ticked reply.Ticked = true
is_ticked _ = false

-- a tick that asks once more emits a packet, and one that gives up doesn't
abbrev pub gives_up : Entry → Bool
gives_up x = if is_ticked x.reply then is_none x.emits else false

-- Conversations.

abbrev pub fresh_conversation : Proto → ℕ → ℕ → Count
fresh_conversation p g opens = record { generation = g; opens = opens; pair = no_pair; used = false; end = fresh_end_count p }

abbrev pub counted_begin : Proto → ℕ → Count
counted_begin p g = fresh_conversation p g 1

abbrev pub born_of : Proto → ℕ → Packet → ℕ → Count
born_of p g packet start =
    record {
      generation = g;
      opens = 1;
      pair = record { local = packet.dst; remote = packet.src };
      used = true;
      end = counted_end_birth start packet.body (fresh_end_count p);
    }

abbrev pub counted_birth : Proto → ℕ → With → Count → Count
counted_birth p g (given.Birth packet start limit) c = born_of p g packet start
counted_birth p g _ c = c

abbrev pub joined_with : Pair → ℕ → Count → Count
joined_with pair start c = if c.used then c else record c { used = true; pair = pair; end = counted_end_connect start c.end }

abbrev pub counted_connect : With → Count → Count
counted_connect (given.Grant pair start limit) c = joined_with pair start c
counted_connect _ c = c

abbrev pub listens_at : ℕ → ℕ → Count → Count
listens_at ip port c =
    if c.used
    then c
    else record c { used = true; pair = record c.pair { local = record { ip = ip; port = port } }; end = counted_end_listen c.end }

abbrev pub counted_announce : With → Count → Count
counted_announce (given.Key ip port) c = listens_at ip port c
counted_announce _ c = c

abbrev pub port_taken : ℕ → Count → Count
port_taken port c = if c.used then c else record c { pair = record c.pair { local = record c.pair.local { port = port } } }

abbrev pub counted_bind : With → Count → Count
counted_bind (given.Key ip port) c = port_taken port c
counted_bind _ c = c

-- the last open file closes
abbrev pub counted_file_close : Count → Count
counted_file_close c =
    if c.opens == 1 then record c { opens = c.opens - 1; end = counted_end_hangup c.end } else record c { opens = c.opens - 1 }

abbrev pub counted_packet : With → Reply → Count → Count
counted_packet (given.Packet packet) r c = record c { end = counted_end_arrival packet.body r c.end }
counted_packet _ r c = c

abbrev pub count_by : Proto → Event → Entry → With → Count → Count
count_by p (event.Begin g) x with c = counted_begin p g
count_by p (event.Born g) x with c = counted_birth p g with c
count_by p (event.Connect g) x with c = counted_connect with c
count_by p (event.Announced g) x with c = counted_announce with c
count_by p (event.Bound g) x with c = counted_bind with c
count_by p (event.Open file mode) x with c = if is_opened x.reply then record c { opens = next_count c.opens } else c
count_by p (event.Read g count) x with c = if is_bytes x.reply then record c { end = counted_end_read count c.end } else c
count_by p (event.Write g text) x with c = if is_count x.reply then record c { end = counted_end_write c.end } else c
count_by p (event.Hangup g) x with c = record c { end = counted_end_hangup c.end }
count_by p (event.Close g) x with c = counted_file_close c
count_by p (event.ArriveAt g) x with c = counted_packet with x.reply c
count_by p (event.Tick g) x with c = if gives_up x then record c { end = counted_end_timeout c.end } else c
count_by p _ x with c = c

-- a conversation after an entry, to which this was given
abbrev pub count_after : Proto → Entry → With → Count → Count
count_after p x with c = if is_stale x.reply then c else count_by p x.event x with c

-- What is shown.

abbrev pub counted_state : EndCount → StateName
counted_state (Il e) = il_state_name e.state
counted_state (Udp e) = udp_state_name e.state

abbrev pub udp_cause : UdpState → Option Cause
udp_cause udp.HungUp = Some cause.Hungup
udp_cause _ = None

abbrev pub counted_cause : EndCount → Option Cause
counted_cause (Il e) = e.cause
counted_cause (Udp e) = udp_cause e.state
