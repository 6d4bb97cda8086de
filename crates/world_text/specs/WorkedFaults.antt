-- Entries that stand where they may not, in the worked histories.
use Rattle.std.specs.Prelude.{ℕ, ◌+◌, List, [], ◌∷◌, ◌++◌, take, drop, codes}
use Rattle.net_base.specs.declared.actor.ActorName.TheVariants as name
use Rattle.net_base.specs.declared.address.Proto.TheVariants as proto
use Rattle.net_base.specs.declared.event.Event.TheVariants as event
use Rattle.net_base.specs.declared.history.Entry.{Entry}
use Rattle.net_base.specs.declared.il.IlKind.TheVariants.{Data, Close}
use Rattle.net_base.specs.declared.names.FileName.TheVariants as file
use Rattle.net_base.specs.declared.names.Mode.TheVariants as mode
use Rattle.net_base.specs.declared.reply.Reply.TheVariants as reply
use Rattle.world_text.specs.Worked.{addr_at, anna, helix, unowed_entry, due, emits, il}

-- the history with this entry at a stamp
abbrev pub with_at : ℕ → Entry → List Entry → List Entry
with_at k x h = take k h ++ x ∷ drop (k + 1) h

-- At 17 of the datagram's: what is read isn't what was written.
abbrev pub another_text : Entry
another_text = unowed_entry 0 1 (name.Conv 1 proto.Udp 0) (event.Read 1 8192) (reply.Bytes (codes "hh"))

-- At 17: the moment is 0.
abbrev pub another_moment : Entry
another_moment = unowed_entry 1 1 (name.Conv 1 proto.Udp 0) (event.Read 1 8192) (reply.Bytes (codes "hi"))

-- At 6: entry 4 owes it.
abbrev pub another_cite : Entry
another_cite = due 0 0 (name.Conv 0 proto.Udp 0) 5 (event.Connect 1) reply.Ok

-- At 8: an await comes next.
abbrev pub another_event : Entry
another_event = unowed_entry 0 0 (name.Conv 0 proto.Udp 0) (event.Open file.Data mode.Both) (reply.Opened 1)

-- At 13: nothing is pending yet.
abbrev pub taken_too_early : Entry
taken_too_early = unowed_entry 0 2 (name.Medium 0) event.Take (reply.Copy 1)

-- At 13: a put is owed.
abbrev pub moved_too_early : Entry
moved_too_early = unowed_entry 0 3 name.Clock (event.Move 60000) reply.Ok

-- At 32 of the lost frame's: an end is due at 510.
abbrev pub moved_too_far : Entry
moved_too_far = unowed_entry 10 3 name.Clock (event.Move 511) reply.Ok

-- At 41: a message is sent again as a dataquery.
abbrev pub sent_as_data : Entry
sent_as_data = emits (due 510 2 (name.Conv 0 proto.Il 0) 40 (event.ArriveAt 1) reply.Took) (il (addr_at anna 5000) (addr_at helix 17008) Data 0 101 200 5)

-- At 20: no message came.
abbrev pub read_too_early : Entry
read_too_early = unowed_entry 10 1 (name.Conv 1 proto.Il 1) (event.Read 1 8192) (reply.Bytes [])

-- At 9 of the refused call's: the sync's id stands in the ack.
abbrev pub refused_otherwise : Entry
refused_otherwise = emits (due 10 1 (name.Dir 1 proto.Il) 8 event.Arrive reply.Refused) (il (addr_at helix 17008) (addr_at anna 5000) Close 1 100 0 0)

-- At 15: the conversation ended.
abbrev pub not_ended : Entry
not_ended = unowed_entry 10 0 (name.Conv 0 proto.Il 0) (event.Close 1) reply.Ok
