-- A line of an entry as it is read: its fields in turn, with no word left.
use Rattle.std.specs.Prelude.{ℕ, Bool, true, false, List, [], ◌∷◌, Option, Some, None, option_map, codes, bytes_eq, if◌then◌else◌}
use Rattle.net_base.specs.declared.actor.ActorName.{ActorName}
use Rattle.net_base.specs.declared.address.Addr.{Addr}
use Rattle.net_base.specs.declared.event.Event.{Event}
use Rattle.net_base.specs.declared.history.Entry.{Entry}
use Rattle.net_base.specs.declared.il.IlKind.{IlKind}
use Rattle.net_base.specs.declared.packet.BodyHeader.{BodyHeader}
use Rattle.net_base.specs.declared.packet.BodyHeader.TheVariants as body
use Rattle.net_base.specs.declared.packet.Header.{Header}
use Rattle.net_base.specs.declared.reply.Reply.{Reply}
use Rattle.history_reader.specs.EventRows.{event_of}
use Rattle.history_reader.specs.Fields.{Words, FieldReader, actor, behind, both_fields, kind_read, long, long_or_dash, read_as, narrow, octet, read_place, row_of}
use Rattle.history_reader.specs.ReplyRows.{reply_read}

-- Headers.

abbrev pub to_il : IlKind × (ℕ × (ℕ × (ℕ × ℕ))) → BodyHeader
to_il f = body.Il f.0 f.1.0 f.1.1.0 f.1.1.1.0 f.1.1.1.1

abbrev pub il_body : FieldReader BodyHeader
il_body = read_as (both_fields kind_read (both_fields octet (both_fields narrow (both_fields narrow long)))) to_il

abbrev pub udp_body : FieldReader BodyHeader
udp_body = read_as long (λ n. body.Udp n)

-- the addresses, ttl and tos
abbrev pub HeaderWay : Type 0
HeaderWay = Addr × Addr × ℕ × ℕ

abbrev pub to_way : Addr × (Addr × (ℕ × ℕ)) → HeaderWay
to_way f = (f.0, f.1.0, f.1.1.0, f.1.1.1)

abbrev pub read_way : FieldReader HeaderWay
read_way = read_as (both_fields read_place (both_fields read_place (both_fields octet octet))) to_way

abbrev pub to_header : HeaderWay × BodyHeader → Header
to_header f = record { src = f.0.0; dst = f.0.1; ttl = f.0.2; tos = f.0.3; body = f.1 }

abbrev pub header_rows : List (List ℕ × FieldReader Header)
header_rows = (codes "il", read_as (both_fields read_way il_body) to_header) ∷ (codes "udp", read_as (both_fields read_way udp_body) to_header) ∷ []

abbrev pub header_of_words : FieldReader Header
header_of_words [] = None
header_of_words (word ∷ words) = row_of header_rows word words

-- a header behind a `+`, or none
abbrev pub emitted : FieldReader (Option Header)
emitted [] = Some (None, [])
emitted (word ∷ words) = if bytes_eq word (codes "+") then read_as header_of_words (λ h. Some h) words else Some (None, word ∷ words)

-- whether it ended: the last word, or none
abbrev pub ended_read : Words → Option Bool
ended_read [] = Some false
ended_read (word ∷ []) = if bytes_eq word (codes "ended") then Some true else None
ended_read (word ∷ other ∷ words) = None

-- Entries.

-- the moment, the caller, the actor and what is cited
abbrev pub Who : Type 0
Who = ℕ × ℕ × ActorName × Option ℕ

abbrev pub to_who : ℕ × (ℕ × (ActorName × Option ℕ)) → Who
to_who f = (f.0, f.1.0, f.1.1.0, f.1.1.1)

abbrev pub who : FieldReader Who
who = read_as (both_fields long (both_fields narrow (both_fields actor long_or_dash))) to_who

-- what stands behind a word
abbrev pub behind_word : List ℕ → Words → Option Words
behind_word first [] = None
behind_word first (word ∷ words) = if bytes_eq word first then Some words else None

abbrev pub to_entry : Who → Event → Reply → Option Header → Bool → Entry
to_entry w e r h end =
    record { actor = w.2; caller = w.1; moment = w.0; event = e; cites = w.3; reply = r; emits = h; ended = end }

-- what follows the reply
abbrev pub tail_of : Who → Event → Reply → Words → Option Entry
tail_of w e r words = behind (emitted words) (λ h rest. option_map (to_entry w e r h) (ended_read rest))

abbrev pub answer_read_of : Who → Event → Option Words → Option Entry
answer_read_of w e None = None
answer_read_of w e (Some words) = behind (reply_read words) (λ r rest. tail_of w e r rest)

-- an entry by the words behind its stamp
abbrev pub entry_of : Words → Option Entry
entry_of words = behind (who words) (λ w rest. behind (event_of rest) (λ e last. answer_read_of w e (behind_word (codes "=") last)))
