-- A history for people: a line for each entry, of words with a blank between two of them. Numbers have their names before them,
-- hosts and media are named as the world does, and causes are told in words.
use Rattle.std.specs.Prelude.{ℕ, ◌+◌, ◌==◌, Bool, true, false, List, [], ◌∷◌, ◌++◌, Option, Some, None, codes, slice_get, if◌then◌else◌}
use Rattle.std.specs.Option.{option_map_or}
use Rattle.net_base.specs.declared.actor.ActorName.{ActorName}
use Rattle.net_base.specs.declared.actor.ActorName.TheVariants as name
use Rattle.net_base.specs.declared.actor.Call.{Call}
use Rattle.net_base.specs.declared.address.Addr.{Addr}
use Rattle.net_base.specs.declared.event.Event.{Event}
use Rattle.net_base.specs.declared.event.Event.TheVariants as event
use Rattle.net_base.specs.declared.history.Entry.{Entry}
use Rattle.net_base.specs.declared.names.Mode.{Mode}
use Rattle.net_base.specs.declared.names.Mode.TheVariants as mode
use Rattle.net_base.specs.declared.packet.BodyHeader.{BodyHeader}
use Rattle.net_base.specs.declared.packet.BodyHeader.TheVariants as body
use Rattle.net_base.specs.declared.packet.Header.{Header}
use Rattle.net_base.specs.declared.reply.Reply.{Reply}
use Rattle.net_base.specs.declared.reply.Reply.TheVariants as reply
use Rattle.net_base.specs.declared.world.HostSpec.{HostSpec}
use Rattle.net_base.specs.declared.world.MediumSpec.{MediumSpec}
use Rattle.net_base.specs.declared.world.World.{World}
use Rattle.net_base.specs.Callers.{Caller, IsScript, IsCourier, IsClock, IsNobody, caller_of}
use Rattle.net_base.specs.Numeral.{numeral}
use Rattle.net_base.specs.Paths.{proto_name, file_name}
use Rattle.net_base.specs.StateWords.{cause_text, state_word}
use Rattle.net_base.specs.Transcript.{addr_word, ip_or_star, kind_word, number_or_star, spaced}
use Rattle.history_words.specs.Shown.{all_shown, shown}

-- Numbers with their names.

abbrev pub name_words : List ℕ → ℕ → List (List ℕ)
name_words label n = label ∷ numeral n ∷ []

abbrev pub generation : ℕ → List (List ℕ)
generation g = name_words (codes "generation") g

abbrev pub slot : ℕ → ℕ → List (List ℕ)
slot n g = codes "slot" ∷ numeral n ∷ generation g

-- what an IL end begins with, and its greatest message
abbrev pub beginning : ℕ → ℕ → List (List ℕ)
beginning start limit = codes "start" ∷ numeral start ∷ name_words (codes "limit") limit

-- Who and where.

-- a host or a medium by its name, or by its number where the world hasn't that many
unfoldable pub host_word : World → ℕ → List ℕ
host_word w h = option_map_or (λ (s : HostSpec). s.name) (slice_get w.hosts h) (numeral h)

unfoldable pub medium_word : World → ℕ → List ℕ
medium_word w m = option_map_or (λ (s : MediumSpec). s.name) (slice_get w.media m) (numeral m)

-- a word with a number, of a host
abbrev pub numbered_words : World → List ℕ → ℕ → ℕ → List (List ℕ)
numbered_words w word n h = word ∷ numeral n ∷ codes "of" ∷ host_word w h ∷ []

abbrev pub caller_words : World → ℕ → Caller → List (List ℕ)
caller_words w c (IsScript s) = numbered_words w (codes "script") c s.host
caller_words w c (IsCourier m) = codes "courier of" ∷ medium_word w m ∷ []
caller_words w c IsClock = codes "clock" ∷ []
caller_words w c IsNobody = name_words (codes "nobody,") c

abbrev pub actor_shown : World → ActorName → List (List ℕ)
actor_shown w (name.Desk h) = codes "desk of" ∷ host_word w h ∷ []
actor_shown w (name.Dir h p) = proto_name p ∷ codes "directory of" ∷ host_word w h ∷ []
actor_shown w (name.Conv h p n) = proto_name p ∷ numbered_words w (codes "conversation") n h
actor_shown w (name.Medium m) = codes "medium" ∷ medium_word w m ∷ []
actor_shown w name.Clock = codes "clock" ∷ []

-- Events.

abbrev pub mode_words : Mode → List ℕ
mode_words mode.Read = codes "for reading"
mode_words mode.Write = codes "for writing"
mode_words mode.Both = codes "for both"

-- the station that a packet is for
abbrev pub station_word : World → Option ℕ → List ℕ
station_word w None = codes "nobody"
station_word w (Some h) = host_word w h

abbrev pub port_word : Option ℕ → List ℕ
port_word None = codes "any"
port_word (Some port) = numeral port

abbrev pub grant_words : ℕ → ℕ → Addr → Option ℕ → List (List ℕ)
grant_words n g remote lport = codes "grant" ∷ slot n g ++ (codes "to" ∷ addr_word remote ∷ codes "from port" ∷ port_word lport ∷ [])

abbrev pub announce_words : ℕ → ℕ → Option ℕ → Option ℕ → List (List ℕ)
announce_words n g ip port = codes "announce" ∷ slot n g ++ (codes "at" ∷ ip_or_star ip ∷ codes "port" ∷ number_or_star port ∷ [])

abbrev pub bind_words : ℕ → ℕ → ℕ → List (List ℕ)
bind_words n g port = codes "bind" ∷ slot n g ++ name_words (codes "port") port

abbrev pub event_shown : World → Event → List (List ℕ)
event_shown w (event.Cs query) = codes "cs" ∷ shown query ∷ []
event_shown w (event.LsPath path) = codes "ls" ∷ shown path ∷ []
event_shown w (event.OpenPath path m) = codes "open" ∷ shown path ∷ mode_words m ∷ []
event_shown w (event.Use called) = codes "use of a name that isn't bound:" ∷ shown called ∷ []
event_shown w (event.Misuse called) = codes "misuse of" ∷ shown called ∷ []
event_shown w (event.Until m) = codes "wait until" ∷ numeral m ∷ codes "ms" ∷ []
event_shown w event.Refresh = codes "read the database again" ∷ []
event_shown w event.Reserve = codes "reserve" ∷ []
event_shown w (event.Grant n g remote lport) = grant_words n g remote lport
event_shown w (event.Announce n g ip port) = announce_words n g ip port
event_shown w (event.Bind n g port) = bind_words n g port
event_shown w (event.Listen n) = codes "listen" ∷ name_words (codes "slot") n
event_shown w (event.Withdraw n g) = codes "withdraw" ∷ slot n g
event_shown w (event.Release n g) = codes "release" ∷ slot n g
event_shown w event.Arrive = codes "arrive" ∷ []
event_shown w event.Ls = codes "ls" ∷ []
event_shown w (event.Begin g) = codes "begin" ∷ generation g
event_shown w (event.Born g) = codes "born" ∷ generation g
event_shown w (event.Claim g) = codes "claim" ∷ generation g
event_shown w (event.Connect g) = codes "connect" ∷ generation g
event_shown w (event.Announced g) = codes "announced" ∷ generation g
event_shown w (event.Bound g) = codes "bound" ∷ generation g
event_shown w (event.Await g) = codes "await" ∷ generation g
event_shown w (event.Open f m) = codes "open" ∷ file_name f ∷ mode_words m ∷ []
event_shown w (event.File g f count) = codes "read" ∷ file_name f ∷ name_words (codes "count") count ++ generation g
event_shown w (event.Read g count) = codes "read data" ∷ name_words (codes "count") count ++ generation g
event_shown w (event.Write g text) = codes "write data" ∷ shown text ∷ generation g
event_shown w (event.Hangup g) = codes "hangup" ∷ generation g
event_shown w (event.Ttl g n) = name_words (codes "ttl") n ++ generation g
event_shown w (event.Tos g n) = name_words (codes "tos") n ++ generation g
event_shown w (event.Ctl g text) = codes "write ctl" ∷ shown text ∷ generation g
event_shown w (event.Close g) = codes "close" ∷ generation g
event_shown w (event.ArriveAt g) = codes "arrive" ∷ generation g
event_shown w (event.Tick g) = codes "tick" ∷ generation g
event_shown w (event.Put to) = codes "put for" ∷ station_word w to ∷ []
event_shown w event.Take = codes "take" ∷ []
event_shown w (event.Move m) = codes "move to" ∷ numeral m ∷ codes "ms" ∷ []

-- Replies.

-- why cs refuses a query
abbrev pub refusal_words : ℕ → List ℕ
refusal_words n =
    if n == 1 then codes "bad query"
    else if n == 2 then codes "no net"
    else if n == 3 then codes "no host"
    else if n == 4 then codes "no service"
    else if n == 5 then codes "no value"
    else numeral n

abbrev pub born_words : ℕ → ℕ → ℕ → ℕ → List (List ℕ)
born_words n g start limit = codes "born at" ∷ slot n g ++ beginning start limit

-- the calls that waited
abbrev pub each_call_shown : List Call → List (List ℕ)
each_call_shown [] = []
each_call_shown (call ∷ calls) = slot call.slot call.generation ++ each_call_shown calls

abbrev pub calls_shown : List Call → List (List ℕ)
calls_shown [] = codes "none" ∷ []
calls_shown (call ∷ calls) = each_call_shown (call ∷ calls)

abbrev pub reply_shown : Reply → List (List ℕ)
reply_shown (reply.Lines lines) = codes "lines" ∷ all_shown lines
reply_shown (reply.CsRefused n) = codes "refused:" ∷ refusal_words n ∷ []
reply_shown (reply.Names names) = codes "names" ∷ all_shown names
reply_shown reply.NoFile = codes "no such file" ∷ []
reply_shown reply.BadMode = codes "bad mode" ∷ []
reply_shown reply.BadFid = codes "bad fid" ∷ []
reply_shown reply.Ok = codes "ok" ∷ []
reply_shown (reply.Version n) = codes "version" ∷ numeral n ∷ []
reply_shown (reply.Slot n g) = slot n g
reply_shown reply.NoSlot = codes "no slot" ∷ []
reply_shown (reply.Granted pair start limit) = codes "granted" ∷ addr_word pair.local ∷ codes "to" ∷ addr_word pair.remote ∷ beginning start limit
reply_shown (reply.WrongState s) = codes "wrong state:" ∷ state_word s ∷ []
reply_shown reply.NoRoute = codes "no route" ∷ []
reply_shown reply.NoPort = codes "no port" ∷ []
reply_shown reply.SelfPair = codes "a pair with itself" ∷ []
reply_shown (reply.PairUsed k) = codes "pair used before, as number" ∷ numeral k ∷ []
reply_shown (reply.PortTaken n) = name_words (codes "port taken by slot") n
reply_shown (reply.Call n g) = codes "call at" ∷ slot n g
reply_shown (reply.Calls calls) = codes "calls that waited:" ∷ calls_shown calls
reply_shown (reply.To n g) = codes "to" ∷ slot n g
reply_shown (reply.Born n g start limit) = born_words n g start limit
reply_shown reply.Refused = codes "refused" ∷ []
reply_shown reply.Dropped = codes "dropped" ∷ []
reply_shown reply.Stale = codes "stale" ∷ []
reply_shown (reply.Hungup c) = codes "hung up:" ∷ cause_text c ∷ []
reply_shown (reply.Opened g) = codes "opened" ∷ generation g
reply_shown reply.NotOpen = codes "not open" ∷ []
reply_shown (reply.Bytes bytes) = codes "bytes" ∷ shown bytes ∷ []
reply_shown (reply.Count n) = name_words (codes "count") n
reply_shown reply.ZeroWrite = codes "nothing to write" ∷ []
reply_shown (reply.TooLong count limit) = codes "too long:" ∷ name_words (codes "length") count ++ name_words (codes "limit") limit
reply_shown reply.Left = codes "left" ∷ []
reply_shown (reply.BadCtl n) = codes "bad control, number" ∷ numeral n ∷ []
reply_shown reply.Took = codes "took" ∷ []
reply_shown reply.Full = codes "full" ∷ []
reply_shown reply.Ticked = codes "ticked" ∷ []
reply_shown reply.NotDue = codes "not due" ∷ []
reply_shown (reply.Laid k) = codes "laid as frame" ∷ numeral k ∷ []
reply_shown reply.TooBig = codes "too big" ∷ []
reply_shown reply.NoStation = codes "no station" ∷ []
reply_shown (reply.Copy k) = codes "copy of frame" ∷ numeral k ∷ []

-- Headers.

abbrev pub way_shown : Header → List (List ℕ)
way_shown h = addr_word h.src ∷ codes "to" ∷ addr_word h.dst ∷ name_words (codes "ttl") h.ttl ++ name_words (codes "tos") h.tos

-- what an IL header numbers
abbrev pub sequence_words : ℕ → ℕ → ℕ → List (List ℕ)
sequence_words spec id ack = name_words (codes "spec") spec ++ (name_words (codes "id") id ++ name_words (codes "ack") ack)

abbrev pub body_shown : BodyHeader → List (List ℕ)
body_shown (body.Il k spec id ack count) = sequence_words spec id ack ++ name_words (codes "length") count
body_shown (body.Udp count) = name_words (codes "length") count

-- the protocol, and the kind of an IL message
abbrev pub kind_words : BodyHeader → List (List ℕ)
kind_words (body.Il k spec id ack count) = codes "il" ∷ kind_word k ∷ []
kind_words (body.Udp count) = codes "udp" ∷ []

abbrev pub emitted_shown : Option Header → List (List ℕ)
emitted_shown None = []
emitted_shown (Some h) = codes "| sends" ∷ kind_words h.body ++ (way_shown h ++ body_shown h.body)

abbrev pub ended_shown : Bool → List (List ℕ)
ended_shown false = []
ended_shown true = codes "| ended" ∷ []

-- Lines.

abbrev pub cited_words : Option ℕ → List (List ℕ)
cited_words None = []
cited_words (Some stamp) = codes "for" ∷ numeral stamp ∷ []

-- the entry that is cited, the moment, the caller and the actor
abbrev pub who_shown : World → Entry → List (List ℕ)
who_shown w x =
    cited_words x.cites
    ++ (codes "|" ∷ numeral x.moment ∷ codes "ms |" ∷ []
    ++ (caller_words w x.caller (caller_of w x.caller)
    ++ (codes "|" ∷ actor_shown w x.actor)))

-- what was asked for, the reply, and what else came of it
abbrev pub what_words : World → Entry → List (List ℕ)
what_words w x =
    codes "|" ∷ event_shown w x.event
    ++ (codes "|" ∷ reply_shown x.reply
    ++ (emitted_shown x.emits
    ++ ended_shown x.ended))

-- the line of the entry with this stamp
unfoldable pub line_shown : World → ℕ → Entry → List ℕ
line_shown w stamp x = numeral stamp ++ (spaced (who_shown w x) ++ (spaced (what_words w x) ++ 10 ∷ []))

-- the lines of entries, the first of which has this stamp
abbrev pub lines_shown : World → ℕ → List Entry → List ℕ
lines_shown w stamp [] = []
lines_shown w stamp (x ∷ xs) = line_shown w stamp x ++ lines_shown w (stamp + 1) xs

-- the history of a world
abbrev pub history_words : World → List Entry → List ℕ
history_words w h = lines_shown w 0 h
