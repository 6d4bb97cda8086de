-- A history as JSON: a line with an object for each entry, in the order of stamps, then one with the sums.
use Rattle.std.specs.Prelude.{ℕ, ◌+◌, List, [], ◌∷◌, ◌++◌, Option, Some, None, codes, flat_map, length}
use Rattle.net_base.specs.declared.actor.Call.{Call}
use Rattle.net_base.specs.declared.address.Addr.{Addr}
use Rattle.net_base.specs.declared.event.Event.{Event}
use Rattle.net_base.specs.declared.event.Event.TheVariants as event
use Rattle.net_base.specs.declared.history.Entry.{Entry}
use Rattle.net_base.specs.declared.names.FileName.{FileName}
use Rattle.net_base.specs.declared.names.Mode.{Mode}
use Rattle.net_base.specs.declared.packet.BodyHeader.{BodyHeader}
use Rattle.net_base.specs.declared.packet.BodyHeader.TheVariants as body
use Rattle.net_base.specs.declared.packet.Header.{Header}
use Rattle.net_base.specs.declared.reply.Reply.{Reply}
use Rattle.net_base.specs.declared.reply.Reply.TheVariants as reply
use Rattle.net_base.specs.Numeral.{numeral}
use Rattle.net_base.specs.Paths.{proto_name, file_name}
use Rattle.net_base.specs.StateWords.{cause_text, state_word}
use Rattle.net_base.specs.Summary.{Totals, totals}
use Rattle.net_base.specs.Transcript.{actor_word, addr_word, as_lines, ip_word, kind_word, mode_word}
use Rattle.history_json.specs.Members.{brace, first_number, first_word, joined, label, nothing, number, number_or_null, text, truth, word}

-- Members that several objects have.

-- the kind of an event or a reply
abbrev pub kind : List ℕ → List ℕ
kind w = first_word (codes "kind") w

abbrev pub generation : ℕ → List ℕ
generation g = number (codes "generation") g

abbrev pub slot : ℕ → ℕ → List (List ℕ)
slot n g = number (codes "slot") n ∷ generation g ∷ []

-- a kind alone, with a generation, a number, a slot, or a generation and a number
abbrev pub only : List ℕ → List (List ℕ)
only w = kind w ∷ []

abbrev pub with_generation : List ℕ → ℕ → List (List ℕ)
with_generation w g = kind w ∷ generation g ∷ []

abbrev pub with_number : List ℕ → List ℕ → ℕ → List (List ℕ)
with_number w name n = kind w ∷ number name n ∷ []

abbrev pub with_slot : List ℕ → ℕ → ℕ → List (List ℕ)
with_slot w n g = kind w ∷ slot n g

abbrev pub counted : List ℕ → ℕ → List ℕ → ℕ → List (List ℕ)
counted w g name n = kind w ∷ generation g ∷ number name n ∷ []

-- the number with which an IL end begins, and its longest message
abbrev pub beginning : ℕ → ℕ → List (List ℕ)
beginning start limit = number (codes "start") start ∷ number (codes "limit") limit ∷ []

abbrev pub addr : List ℕ → Addr → List ℕ
addr name a = word name (addr_word a)

abbrev pub address_name : List ℕ
address_name = codes "address"

abbrev pub ip_text : ℕ → List ℕ
ip_text ip = ip_word ip

abbrev pub ip_or_null : Option ℕ → List ℕ
ip_or_null None = nothing address_name
ip_or_null (Some ip) = word address_name (ip_text ip)

-- Events.

abbrev pub port_member : Option ℕ → List ℕ
port_member port = number_or_null (codes "port") port

abbrev pub with_text : List ℕ → List ℕ → List (List ℕ)
with_text w bytes = kind w ∷ text bytes

abbrev pub grant_members : ℕ → ℕ → Addr → Option ℕ → List (List ℕ)
grant_members n g remote lport = with_slot (codes "grant") n g ++ (addr (codes "remote") remote ∷ port_member lport ∷ [])

abbrev pub announce_members : ℕ → ℕ → Option ℕ → Option ℕ → List (List ℕ)
announce_members n g ip port = with_slot (codes "announce") n g ++ (ip_or_null ip ∷ port_member port ∷ [])

abbrev pub bind_members : ℕ → ℕ → ℕ → List (List ℕ)
bind_members n g port = with_slot (codes "bind") n g ++ (number (codes "port") port ∷ [])

abbrev pub open_members : FileName → Mode → List (List ℕ)
open_members f m = kind (codes "open") ∷ word (codes "file") (file_name f) ∷ word (codes "mode") (mode_word m) ∷ []

abbrev pub file_members : ℕ → FileName → ℕ → List (List ℕ)
file_members g f count = with_generation (codes "file") g ++ (word (codes "file") (file_name f) ∷ number (codes "count") count ∷ [])

-- the number of the station that a packet is for, or null
abbrev pub station_members : Option ℕ → List (List ℕ)
station_members to = kind (codes "put") ∷ number_or_null (codes "station") to ∷ []

abbrev pub event_members : Event → List (List ℕ)
event_members (event.Cs query) = with_text (codes "cs") query
event_members (event.LsPath path) = with_text (codes "ls") path
event_members (event.OpenPath path m) = kind (codes "open") ∷ word (codes "mode") (mode_word m) ∷ text path
event_members (event.Use called) = with_text (codes "use") called
event_members (event.Misuse called) = with_text (codes "misuse") called
event_members (event.Until m) = with_number (codes "until") (codes "moment") m
event_members event.Refresh = only (codes "refresh")
event_members event.Reserve = only (codes "reserve")
event_members (event.Grant n g remote lport) = grant_members n g remote lport
event_members (event.Announce n g ip port) = announce_members n g ip port
event_members (event.Bind n g port) = bind_members n g port
event_members (event.Listen n) = with_number (codes "listen") (codes "slot") n
event_members (event.Withdraw n g) = with_slot (codes "withdraw") n g
event_members (event.Release n g) = with_slot (codes "release") n g
event_members event.Arrive = only (codes "arrive")
event_members event.Ls = only (codes "ls")
event_members (event.Begin g) = with_generation (codes "begin") g
event_members (event.Born g) = with_generation (codes "born") g
event_members (event.Claim g) = with_generation (codes "claim") g
event_members (event.Connect g) = with_generation (codes "connect") g
event_members (event.Announced g) = with_generation (codes "announced") g
event_members (event.Bound g) = with_generation (codes "bound") g
event_members (event.Await g) = with_generation (codes "await") g
event_members (event.Open f m) = open_members f m
event_members (event.File g f count) = file_members g f count
event_members (event.Read g count) = counted (codes "read") g (codes "count") count
event_members (event.Write g bytes) = with_generation (codes "write") g ++ text bytes
event_members (event.Hangup g) = with_generation (codes "hangup") g
event_members (event.Ttl g n) = counted (codes "ttl") g (codes "value") n
event_members (event.Tos g n) = counted (codes "tos") g (codes "value") n
event_members (event.Ctl g bytes) = with_generation (codes "ctl") g ++ text bytes
event_members (event.Close g) = with_generation (codes "close") g
event_members (event.ArriveAt g) = with_generation (codes "arrive") g
event_members (event.Tick g) = with_generation (codes "tick") g
event_members (event.Put to) = station_members to
event_members event.Take = only (codes "take")
event_members (event.Move m) = with_number (codes "move") (codes "moment") m

-- Replies.

-- a call that waits: its slot and its generation
unfoldable pub call_pair : Call → List ℕ
call_pair call = 91 ∷ (numeral call.slot ++ (44 ∷ (numeral call.generation ++ 93 ∷ [])))

abbrev pub later_calls : List Call → List ℕ
later_calls [] = []
later_calls (call ∷ calls) = 44 ∷ (call_pair call ++ later_calls calls)

abbrev pub call_pairs : List Call → List ℕ
call_pairs [] = []
call_pairs (call ∷ calls) = call_pair call ++ later_calls calls

unfoldable pub calls_member : List Call → List ℕ
calls_member calls = label (codes "calls") ++ (91 ∷ (call_pairs calls ++ 93 ∷ []))

abbrev pub with_word : List ℕ → List ℕ → List ℕ → List (List ℕ)
with_word w name value = kind w ∷ word name value ∷ []

abbrev pub born_members : ℕ → ℕ → ℕ → ℕ → List (List ℕ)
born_members n g start limit = with_slot (codes "born") n g ++ beginning start limit

abbrev pub granted_members : Addr → Addr → ℕ → ℕ → List (List ℕ)
granted_members local remote start limit =
    kind (codes "granted") ∷ addr (codes "local") local ∷ addr (codes "remote") remote ∷ beginning start limit

abbrev pub long_members : ℕ → ℕ → List (List ℕ)
long_members count limit =
    kind (codes "toolong") ∷ number (codes "length") count ∷ number (codes "limit") limit ∷ []

abbrev pub reply_members : Reply → List (List ℕ)
reply_members (reply.Lines lines) = kind (codes "lines") ∷ text (as_lines lines)
reply_members (reply.CsRefused n) = with_number (codes "csrefused") (codes "number") n
reply_members (reply.Names names) = kind (codes "names") ∷ text (as_lines names)
reply_members reply.NoFile = only (codes "nofile")
reply_members reply.BadMode = only (codes "badmode")
reply_members reply.BadFid = only (codes "badfid")
reply_members reply.Ok = only (codes "ok")
reply_members (reply.Version n) = with_number (codes "version") (codes "number") n
reply_members (reply.Slot n g) = with_slot (codes "slot") n g
reply_members reply.NoSlot = only (codes "noslot")
reply_members (reply.Granted pair start limit) = granted_members pair.local pair.remote start limit
reply_members (reply.WrongState s) = with_word (codes "wrong") (codes "state") (state_word s)
reply_members reply.NoRoute = only (codes "noroute")
reply_members reply.NoPort = only (codes "noport")
reply_members reply.SelfPair = only (codes "selfpair")
reply_members (reply.PairUsed k) = with_number (codes "pairused") (codes "number") k
reply_members (reply.PortTaken n) = with_number (codes "taken") (codes "slot") n
reply_members (reply.Call n g) = with_slot (codes "call") n g
reply_members (reply.Calls calls) = kind (codes "calls") ∷ calls_member calls ∷ []
reply_members (reply.To n g) = with_slot (codes "to") n g
reply_members (reply.Born n g start limit) = born_members n g start limit
reply_members reply.Refused = only (codes "refused")
reply_members reply.Dropped = only (codes "dropped")
reply_members reply.Stale = only (codes "stale")
reply_members (reply.Hungup c) = with_word (codes "hungup") (codes "cause") (cause_text c)
reply_members (reply.Opened g) = with_generation (codes "opened") g
reply_members reply.NotOpen = only (codes "notopen")
reply_members (reply.Bytes bytes) = with_text (codes "bytes") bytes
reply_members (reply.Count n) = with_number (codes "count") (codes "number") n
reply_members reply.ZeroWrite = only (codes "zerowrite")
reply_members (reply.TooLong count limit) = long_members count limit
reply_members reply.Left = only (codes "left")
reply_members (reply.BadCtl n) = with_number (codes "badctl") (codes "number") n
reply_members reply.Took = only (codes "took")
reply_members reply.Full = only (codes "full")
reply_members reply.Ticked = only (codes "ticked")
reply_members reply.NotDue = only (codes "notdue")
reply_members (reply.Laid k) = with_number (codes "laid") (codes "frame") k
reply_members reply.TooBig = only (codes "toobig")
reply_members reply.NoStation = only (codes "nostation")
reply_members (reply.Copy k) = with_number (codes "copy") (codes "frame") k

-- Packets.

-- the addresses, ttl and tos
abbrev pub way_members : Header → List (List ℕ)
way_members h =
    addr (codes "source") h.src
    ∷ addr (codes "destination") h.dst
    ∷ number (codes "ttl") h.ttl
    ∷ number (codes "tos") h.tos
    ∷ []

-- what an IL header numbers
abbrev pub sequence_members : ℕ → ℕ → ℕ → ℕ → List (List ℕ)
sequence_members spec id ack count =
    number (codes "spec") spec
    ∷ number (codes "id") id
    ∷ number (codes "ack") ack
    ∷ number (codes "length") count
    ∷ []

-- what the header of the protocol says
abbrev pub body_members : BodyHeader → List (List ℕ)
body_members (body.Il k spec id ack count) =
    first_word (codes "protocol") (codes "il")
    ∷ word (codes "type") (kind_word k)
    ∷ sequence_members spec id ack count
body_members (body.Udp count) = first_word (codes "protocol") (codes "udp") ∷ number (codes "length") count ∷ []

abbrev pub packet_member : Option Header → List ℕ
packet_member None = nothing (codes "packet")
packet_member (Some h) = label (codes "packet") ++ (joined (body_members h.body) ++ (joined (way_members h) ++ brace))

-- Entries.

-- the stamp, the moment in ms, the caller, the actor, and the stamp of the entry that caused it
abbrev pub who_members : ℕ → Entry → List (List ℕ)
who_members stamp x =
    first_number (codes "stamp") stamp
    ∷ number (codes "moment") x.moment
    ∷ number (codes "caller") x.caller
    ∷ word (codes "actor") (actor_word x.actor)
    ∷ number_or_null (codes "cause") x.cites
    ∷ []

abbrev pub event_member : Event → List ℕ
event_member e = label (codes "event") ++ (joined (event_members e) ++ brace)

abbrev pub reply_member : Reply → List ℕ
reply_member r = label (codes "reply") ++ (joined (reply_members r) ++ brace)

-- the line of the entry with this stamp
unfoldable pub entry_line : ℕ → Entry → List ℕ
entry_line stamp x =
    joined (who_members stamp x)
    ++ (event_member x.event
    ++ (reply_member x.reply
    ++ (packet_member x.emits
    ++ (truth (codes "ended") x.ended
    ++ (brace ++ 10 ∷ [])))))

-- the lines of entries, the first of which has this stamp
abbrev pub lines_from : ℕ → List Entry → List ℕ
lines_from stamp [] = []
lines_from stamp (x ∷ xs) = entry_line stamp x ++ lines_from (stamp + 1) xs

-- how many entries there are, and messages and bytes that were written and read
unfoldable pub sums_line : ℕ → Totals → List ℕ
sums_line entries t =
    joined (first_number (codes "entries") entries
    ∷ number (codes "messages_written") t.written
    ∷ number (codes "messages_read") t.read
    ∷ number (codes "bytes_written") t.bytes_written
    ∷ number (codes "bytes_read") t.bytes_read
    ∷ [])
    ++ (brace ++ 10 ∷ [])

-- the history as JSON
abbrev pub history_json : List Entry → List ℕ
history_json h = lines_from 0 h ++ sums_line (length h) (totals h)
