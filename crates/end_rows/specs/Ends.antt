-- The ends of all conversations.
use Rattle.std.specs.Prelude.{ℕ, ◌==◌, ◌&&◌, Bool, List, Option, Some, None, unwrap_or}
use Rattle.std.specs.Map.{lookup}
use Rattle.indexmap.specs.IndexMap.{insert_entry}
use Rattle.net_base.specs.declared.actor.ActorName.{ActorName}
use Rattle.net_base.specs.declared.actor.ActorName.TheVariants as name
use Rattle.net_base.specs.declared.address.Proto.{Proto}
use Rattle.net_base.specs.declared.address.Proto.TheVariants as proto
use Rattle.net_base.specs.declared.history.Entry.{Entry}
use Rattle.net_base.specs.declared.history.With.{With}
use Rattle.end_rows.specs.declared.count.Count.{Count}
use Rattle.end_rows.specs.declared.ends.EndName.{EndName}
use Rattle.end_rows.specs.Counts.{count_after, fresh_conversation}

-- the conversation that an actor is
abbrev pub end_named : ActorName → Option EndName
end_named (name.Conv h p n) = Some (record { host = h; proto = p; slot = n })
end_named (name.Desk h) = None
end_named (name.Dir h p) = None
end_named (name.Medium m) = None
end_named name.Clock = None

-- its host, the number of its protocol in an IP header, and its slot
abbrev pub SlotKey : Type 0
SlotKey = ℕ × (ℕ × ℕ)

abbrev pub same_slot : SlotKey → SlotKey → Bool
same_slot a b = (a.0 == b.0) && ((a.1.0 == b.1.0) && (a.1.1 == b.1.1))

abbrev pub end_proto : Proto → ℕ
end_proto proto.Il = 40
end_proto proto.Udp = 17

abbrev pub slot_of : EndName → SlotKey
slot_of e = (e.host, (end_proto e.proto, e.slot))

abbrev pub CountedEnds : Type 0
CountedEnds = List (SlotKey × Count)

-- the conversation of a protocol in a slot
abbrev pub end_in : CountedEnds → Proto → SlotKey → Count
end_in ends p slot = unwrap_or (lookup (same_slot slot) ends) (fresh_conversation p 0 0)

abbrev pub ends_in : CountedEnds → Proto → SlotKey → Entry → With → CountedEnds
ends_in ends p slot x with = insert_entry same_slot ends slot (count_after p x with (end_in ends p slot))

abbrev pub end_at : CountedEnds → EndName → Count
end_at ends e = end_in ends e.proto (slot_of e)

-- with an entry of a conversation, to which this was given
abbrev pub ends_with : EndName → Entry → With → CountedEnds → CountedEnds
ends_with e x with ends = ends_in ends e.proto (slot_of e) x with
