-- A row for each packet of a history, as words:
--     STAMP KIND LINK K FROM TO BY END PEER ID ACK AGAIN TEXT TAKES
use Rattle.std.specs.Prelude.{ℕ, ◌==◌, Bool, true, false, List, [], ◌∷◌, ◌++◌, flat_map, Option, Some, None, unwrap_or, codes, slice_get, if◌then◌else◌}
use Rattle.net_base.specs.declared.actor.ActorName.{ActorName}
use Rattle.net_base.specs.declared.actor.ActorName.TheVariants as name
use Rattle.net_base.specs.declared.event.Event.{Event}
use Rattle.net_base.specs.declared.event.Event.TheVariants as event
use Rattle.net_base.specs.declared.history.Entry.{Entry}
use Rattle.net_base.specs.declared.world.World.{World}
use Rattle.net_base.specs.Numeral.{numeral}
use Rattle.net_base.specs.Paths.{proto_name}
use Rattle.net_base.specs.Transcript.{dash, number_or_dash, spaced}
use Rattle.packet_rows.specs.declared.deed.Fate.{Fate}
use Rattle.packet_rows.specs.declared.deed.Fate.TheVariants as fate
use Rattle.packet_rows.specs.declared.facts.Talk.{Talk}
use Rattle.packet_rows.specs.declared.row.Row.{Row}
use Rattle.packet_rows.specs.Facts.{Facts, copies_of, first_of, peer_of, relative_ack, relative_id}
use Rattle.packet_rows.specs.Past.{past_of}
use Rattle.packet_rows.specs.Rows.{frame_of}

-- Words.

abbrev pub fate_word : Fate → List ℕ
fate_word (fate.Laid k) = codes "laid"
fate_word fate.TooBig = codes "toobig"
fate_word fate.NoStation = codes "nostation"
fate_word fate.NoRoute = codes "noroute"
fate_word fate.NoTtl = codes "ttl"

-- the number of the frame
abbrev pub number_in : Fate → Option ℕ
number_in (fate.Laid k) = Some k
number_in _ = None

-- a conversation, as in `0.il.0`
abbrev pub talk_word : Option Talk → List ℕ
talk_word None = dash
talk_word (Some t) = numeral t.host ++ codes "." ++ proto_name t.proto ++ codes "." ++ numeral t.slot

abbrev pub talk_at : ActorName → Option Talk
talk_at (name.Conv h p n) = Some (record { host = h; proto = p; slot = n })
talk_at _ = None

-- the first entry, where it isn't this one
abbrev pub other_than : ℕ → Option ℕ → Option ℕ
other_than by None = None
other_than by (Some first) = if first == by then None else Some first

abbrev pub is_write : Event → Bool
is_write (event.Write g text) = true
is_write _ = false

abbrev pub write_by : ℕ → Option Entry → Option ℕ
write_by s None = None
write_by s (Some x) = if is_write x.event then Some s else None

-- the entry of this stamp, if it is a write
abbrev pub write_at : List Entry → ℕ → Option ℕ
write_at h s = write_by s (slice_get h s)

abbrev pub more_stamp : ℕ → List ℕ
more_stamp s = codes "," ++ numeral s

-- stamps with a comma between two of them
abbrev pub stamps_word : List ℕ → List ℕ
stamps_word [] = dash
stamps_word (s ∷ ss) = numeral s ++ flat_map more_stamp ss

-- Rows.

-- the stamp, the kind, the link, the frame, the hosts, and the entry that emitted it
abbrev pub where_text : Row → List ℕ
where_text r =
    numeral r.stamp
    ++ spaced (fate_word r.fate ∷ [])
    ++ spaced (number_or_dash r.medium ∷ [])
    ++ spaced (number_or_dash (number_in r.fate) ∷ [])
    ++ spaced (numeral r.passage.from ∷ [])
    ++ spaced (number_or_dash r.to ∷ [])
    ++ spaced (numeral r.passage.by ∷ [])

-- the conversation of an entry's actor
abbrev pub talk_of : Option Entry → Option Talk
talk_of None = None
talk_of (Some x) = talk_at x.actor

abbrev pub end_of : List Entry → ℕ → Option Talk
end_of h by = talk_of (slice_get h by)

-- both ends, and the numbers from their first ones
abbrev pub ends_text : List Entry → Facts → Row → List ℕ
ends_text h f r =
    spaced (talk_word (end_of h r.passage.by) ∷ [])
    ++ spaced (talk_word (peer_of f r.passage.header) ∷ [])
    ++ spaced (number_or_dash (relative_id f r.passage.header) ∷ [])
    ++ spaced (number_or_dash (relative_ack f r.passage.header) ∷ [])

-- the first entry that emitted the same message, where it isn't the one that emitted this packet
abbrev pub again_of : Facts → Row → Option ℕ
again_of f r = other_than r.passage.by (first_of f r.passage.header)

abbrev pub origin_text : List Entry → Facts → Row → List ℕ
origin_text h f r =
    spaced (number_or_dash (again_of f r) ∷ []) ++ spaced (number_or_dash (write_at h (unwrap_or (again_of f r) r.passage.by)) ∷ [])

abbrev pub packet_line : List Entry → Facts → Row → List ℕ
packet_line h f r = where_text r ++ ends_text h f r ++ origin_text h f r ++ spaced (stamps_word (copies_of f (frame_of r)) ∷ []) ++ 10 ∷ []

abbrev pub packet_rows : World → List Entry → List Row
packet_rows w h = (past_of w h).rows

abbrev pub packets_text : World → List Entry → List ℕ
packets_text w h = flat_map (packet_line h (past_of w h).facts) (packet_rows w h)
