-- What memory is taken for: only there may a step say that there is none.
use Rattle.std.specs.Prelude.{ℕ, ◌+◌, ◌==◌, Bool, false, length, nat_le, nat_lt, ◌&&◌}
use Rattle.net_base.specs.declared.event.Event.{Event}
use Rattle.net_base.specs.declared.event.Event.TheVariants as event
use Rattle.net_base.specs.declared.history.Work.{Work}
use Rattle.net_base.specs.declared.history.With.{With}
use Rattle.net_base.specs.declared.history.With.TheVariants as given
use Rattle.net_base.specs.declared.packet.Body.{Body}
use Rattle.net_base.specs.declared.packet.Body.TheVariants as body
use Rattle.net_base.specs.Conversation.{Conv, Core, Il, Udp, Stage, Connected}
use Rattle.net_base.specs.IlTable.{has_unread}
use Rattle.net_base.specs.UdpEnd.{takes_datagram}
use Rattle.il_machine.specs.Stands.{arrival_takes, write_takes}

-- the greatest number of open files that is counted
abbrev pub most_opens : ℕ
most_opens = 18446744073709551615

-- bytes are unread
abbrev pub core_has_unread : Core → Bool
core_has_unread (Il e) = has_unread e
core_has_unread (Udp e) = nat_lt 0 (length e.unread)

-- a message can be sent
abbrev pub core_sends : Core → Bool
core_sends (Il e) = write_takes e
core_sends (Udp e) = takes_datagram e.state 0

-- a read gives bytes that were unread
abbrev pub read_takes : Stage → Core → Bool
read_takes Connected core = core_has_unread core
read_takes _ core = false

-- a write sends a text of so many bytes
abbrev pub text_takes : Stage → ℕ → Conv → Bool
text_takes Connected n c = (nat_lt 0 n && nat_le n c.limit) && core_sends c.core
text_takes _ n c = false

-- a packet that comes is kept, or answered by a retransmission
abbrev pub packet_takes : Core → Body → ℕ → Bool
packet_takes (Il e) (body.Il m) now = arrival_takes now m e
packet_takes (Udp e) (body.Udp text) now = takes_datagram e.state (length e.unread)
packet_takes _ _ now = false

-- the events that take memory, and when
abbrev pub event_takes : Event → With → ℕ → Conv → Bool
event_takes (event.Begin g) with now c = g == c.generation + 1
event_takes (event.Born g) with now c = g == c.generation + 1
event_takes (event.Open file mode) with now c = c.opens == most_opens
event_takes (event.File g file count) with now c = g == c.generation
event_takes (event.Read g count) with now c = (g == c.generation) && read_takes c.stage c.core
event_takes (event.Write g text) with now c = (g == c.generation) && text_takes c.stage (length text) c
event_takes (event.ArriveAt g) (given.Packet p) now c = (g == c.generation) && packet_takes c.core p.body now
event_takes event.Ls with now c = nat_lt 0 c.opens
event_takes _ with now c = false

-- the step of a work takes memory
abbrev pub work_takes : ℕ → Work → Conv → Bool
work_takes now work c = event_takes work.event work.with now c
