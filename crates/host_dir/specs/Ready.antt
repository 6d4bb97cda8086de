-- Which works a directory answers.
use Rattle.std.specs.Prelude.{Bool, true, false, is_some, length, slice_get, nat_lt}
use Rattle.net_base.specs.declared.address.Proto.{Proto}
use Rattle.net_base.specs.declared.event.Event.{Event}
use Rattle.net_base.specs.declared.event.Event.TheVariants as event
use Rattle.net_base.specs.declared.history.With.{With}
use Rattle.net_base.specs.declared.history.With.TheVariants as given
use Rattle.net_base.specs.Directory.{Dir, is_of, slot_listens}

-- a packet of the protocol is given
abbrev pub takes_packet : Proto → With → Bool
takes_packet p (given.Packet packet) = is_of p packet.body
takes_packet p _ = false

-- a row answers
abbrev pub is_row_ready : Proto → Event → With → Dir → Bool
is_row_ready p event.Reserve with d = true
is_row_ready p (event.Grant n g remote port) with d = nat_lt n (length d.slots)
is_row_ready p (event.Announce n g ip port) with d = nat_lt n (length d.slots)
is_row_ready p (event.Bind n g port) with d = nat_lt n (length d.slots)
is_row_ready p (event.Listen n) with d = is_some (slot_listens (slice_get d.slots n) n d)
is_row_ready p (event.Withdraw n g) with d = nat_lt n (length d.slots)
is_row_ready p (event.Release n g) with d = nat_lt n (length d.slots)
is_row_ready p event.Arrive with d = takes_packet p with
is_row_ready p event.Ls with d = true
is_row_ready p _ _ d = false
