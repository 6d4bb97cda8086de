-- The text of a history: a line for each entry, of words with a blank between two of them.
use Rattle.std.specs.Prelude.{ℕ, ◌+◌, Bool, true, false, List, [], ◌∷◌, ◌++◌, Option, Some, None, flat_map, codes}
use Rattle.net_base.specs.declared.actor.ActorName.{ActorName}
use Rattle.net_base.specs.declared.actor.ActorName.TheVariants as name
use Rattle.net_base.specs.declared.actor.Call.{Call}
use Rattle.net_base.specs.declared.address.Addr.{Addr}
use Rattle.net_base.specs.declared.event.Event.{Event}
use Rattle.net_base.specs.declared.event.Event.TheVariants as event
use Rattle.net_base.specs.declared.history.Entry.{Entry}
use Rattle.net_base.specs.declared.il.Cause.{Cause}
use Rattle.net_base.specs.declared.il.Cause.TheVariants as cause
use Rattle.net_base.specs.declared.il.IlKind.{IlKind}
use Rattle.net_base.specs.declared.il.IlKind.TheVariants as kind
use Rattle.net_base.specs.declared.names.Mode.{Mode}
use Rattle.net_base.specs.declared.names.Mode.TheVariants as mode
use Rattle.net_base.specs.declared.packet.BodyHeader.{BodyHeader}
use Rattle.net_base.specs.declared.packet.BodyHeader.TheVariants as body
use Rattle.net_base.specs.declared.packet.Header.{Header}
use Rattle.net_base.specs.declared.reply.Reply.{Reply}
use Rattle.net_base.specs.declared.reply.Reply.TheVariants as reply
use Rattle.net_base.specs.Addresses.{dotted_by}
pub use Rattle.net_base.specs.Hexadecimal.{hex_digit, hex_digits, hex_word}
use Rattle.net_base.specs.Numeral.{numeral}
use Rattle.net_base.specs.Paths.{proto_name, file_name}
use Rattle.net_base.specs.StateWords.{state_word}

-- Words.

-- a word for nothing
abbrev pub dash : List ℕ
dash = codes "-"

-- a word for anything
abbrev pub star : List ℕ
star = codes "*"

-- texts with a newline after each
abbrev pub as_lines : List (List ℕ) → List ℕ
as_lines texts = flat_map (λ text. text ++ 10 ∷ []) texts

abbrev pub number_or_dash : Option ℕ → List ℕ
number_or_dash None = dash
number_or_dash (Some n) = numeral n

abbrev pub number_or_star : Option ℕ → List ℕ
number_or_star None = star
number_or_star (Some n) = numeral n

-- an address: four numbers joined by dots
abbrev pub ip_word : ℕ → List ℕ
ip_word ip = dotted_by numeral ip

abbrev pub ip_or_star : Option ℕ → List ℕ
ip_or_star None = star
ip_or_star (Some ip) = ip_word ip

-- an address and its port
unfoldable pub addr_word : Addr → List ℕ
addr_word a = ip_word a.ip ++ codes "!" ++ numeral a.port

abbrev pub mode_word : Mode → List ℕ
mode_word mode.Read = codes "r"
mode_word mode.Write = codes "w"
mode_word mode.Both = codes "rw"

abbrev pub cause_number : Cause → ℕ
cause_number cause.Refused = 1
cause_number cause.TimedOut = 2
cause_number cause.Hungup = 3
cause_number cause.ByPeer = 4

abbrev pub kind_word : IlKind → List ℕ
kind_word kind.Sync = codes "sync"
kind_word kind.Data = codes "data"
kind_word kind.DataQuery = codes "dataquery"
kind_word kind.Ack = codes "ack"
kind_word kind.Query = codes "query"
kind_word kind.State = codes "state"
kind_word kind.Close = codes "close"

abbrev pub actor_word : ActorName → List ℕ
actor_word (name.Desk h) = codes "desk." ++ numeral h
actor_word (name.Dir h p) = codes "dir." ++ numeral h ++ codes "." ++ proto_name p
actor_word (name.Conv h p n) = codes "conv." ++ numeral h ++ codes "." ++ proto_name p ++ codes "." ++ numeral n
actor_word (name.Medium m) = codes "medium." ++ numeral m
actor_word name.Clock = codes "clock"

-- Events.

abbrev pub event_words : Event → List (List ℕ)
event_words (event.Cs query) = codes "cs" ∷ hex_word query ∷ []
event_words (event.LsPath path) = codes "ls" ∷ hex_word path ∷ []
event_words (event.OpenPath path m) = codes "open" ∷ hex_word path ∷ mode_word m ∷ []
event_words (event.Use called) = codes "use" ∷ called ∷ []
event_words (event.Misuse called) = codes "misuse" ∷ called ∷ []
event_words (event.Until m) = codes "until" ∷ numeral m ∷ []
event_words event.Refresh = codes "refresh" ∷ []
event_words event.Reserve = codes "reserve" ∷ []
event_words (event.Grant n g remote lport) = codes "grant" ∷ numeral n ∷ numeral g ∷ addr_word remote ∷ number_or_dash lport ∷ []
event_words (event.Announce n g ip port) = codes "announce" ∷ numeral n ∷ numeral g ∷ ip_or_star ip ∷ number_or_star port ∷ []
event_words (event.Bind n g port) = codes "bind" ∷ numeral n ∷ numeral g ∷ numeral port ∷ []
event_words (event.Listen n) = codes "listen" ∷ numeral n ∷ []
event_words (event.Withdraw n g) = codes "withdraw" ∷ numeral n ∷ numeral g ∷ []
event_words (event.Release n g) = codes "release" ∷ numeral n ∷ numeral g ∷ []
event_words event.Arrive = codes "arrive" ∷ []
event_words event.Ls = codes "ls" ∷ []
event_words (event.Begin g) = codes "begin" ∷ numeral g ∷ []
event_words (event.Born g) = codes "born" ∷ numeral g ∷ []
event_words (event.Claim g) = codes "claim" ∷ numeral g ∷ []
event_words (event.Connect g) = codes "connect" ∷ numeral g ∷ []
event_words (event.Announced g) = codes "announced" ∷ numeral g ∷ []
event_words (event.Bound g) = codes "bound" ∷ numeral g ∷ []
event_words (event.Await g) = codes "await" ∷ numeral g ∷ []
event_words (event.Open f m) = codes "open" ∷ file_name f ∷ mode_word m ∷ []
event_words (event.File g f count) = codes "file" ∷ numeral g ∷ file_name f ∷ numeral count ∷ []
event_words (event.Read g count) = codes "read" ∷ numeral g ∷ numeral count ∷ []
event_words (event.Write g text) = codes "write" ∷ numeral g ∷ hex_word text ∷ []
event_words (event.Hangup g) = codes "hangup" ∷ numeral g ∷ []
event_words (event.Ttl g n) = codes "ttl" ∷ numeral g ∷ numeral n ∷ []
event_words (event.Tos g n) = codes "tos" ∷ numeral g ∷ numeral n ∷ []
event_words (event.Ctl g text) = codes "ctl" ∷ numeral g ∷ hex_word text ∷ []
event_words (event.Close g) = codes "close" ∷ numeral g ∷ []
event_words (event.ArriveAt g) = codes "arrive" ∷ numeral g ∷ []
event_words (event.Tick g) = codes "tick" ∷ numeral g ∷ []
event_words (event.Put to) = codes "put" ∷ number_or_dash to ∷ []
event_words event.Take = codes "take" ∷ []
event_words (event.Move m) = codes "move" ∷ numeral m ∷ []

-- Replies.

-- the slot and the generation of each call
abbrev pub calls_of : List Call → List (List ℕ)
calls_of [] = []
calls_of (call ∷ calls) = numeral call.slot ∷ numeral call.generation ∷ calls_of calls

abbrev pub call_words : List Call → List (List ℕ)
call_words [] = dash ∷ []
call_words (call ∷ calls) = calls_of (call ∷ calls)

abbrev pub reply_words : Reply → List (List ℕ)
reply_words (reply.Lines lines) = codes "lines" ∷ hex_word (as_lines lines) ∷ []
reply_words (reply.CsRefused n) = codes "csrefused" ∷ numeral n ∷ []
reply_words (reply.Names names) = codes "names" ∷ hex_word (as_lines names) ∷ []
reply_words reply.NoFile = codes "nofile" ∷ []
reply_words reply.BadMode = codes "badmode" ∷ []
reply_words reply.BadFid = codes "badfid" ∷ []
reply_words reply.Ok = codes "ok" ∷ []
reply_words (reply.Version n) = codes "version" ∷ numeral n ∷ []
reply_words (reply.Slot n g) = codes "slot" ∷ numeral n ∷ numeral g ∷ []
reply_words reply.NoSlot = codes "noslot" ∷ []
reply_words (reply.Granted pair start limit) = codes "granted" ∷ addr_word pair.local ∷ addr_word pair.remote ∷ numeral start ∷ numeral limit ∷ []
reply_words (reply.WrongState s) = codes "wrong" ∷ state_word s ∷ []
reply_words reply.NoRoute = codes "noroute" ∷ []
reply_words reply.NoPort = codes "noport" ∷ []
reply_words reply.SelfPair = codes "selfpair" ∷ []
reply_words (reply.PairUsed k) = codes "pairused" ∷ numeral k ∷ []
reply_words (reply.PortTaken n) = codes "taken" ∷ numeral n ∷ []
reply_words (reply.Call n g) = codes "call" ∷ numeral n ∷ numeral g ∷ []
reply_words (reply.Calls calls) = codes "calls" ∷ call_words calls
reply_words (reply.To n g) = codes "to" ∷ numeral n ∷ numeral g ∷ []
reply_words (reply.Born n g start limit) = codes "born" ∷ numeral n ∷ numeral g ∷ numeral start ∷ numeral limit ∷ []
reply_words reply.Refused = codes "refused" ∷ []
reply_words reply.Dropped = codes "dropped" ∷ []
reply_words reply.Stale = codes "stale" ∷ []
reply_words (reply.Hungup c) = codes "hungup" ∷ numeral (cause_number c) ∷ []
reply_words (reply.Opened g) = codes "opened" ∷ numeral g ∷ []
reply_words reply.NotOpen = codes "notopen" ∷ []
reply_words (reply.Bytes bytes) = codes "bytes" ∷ hex_word bytes ∷ []
reply_words (reply.Count n) = codes "count" ∷ numeral n ∷ []
reply_words reply.ZeroWrite = codes "zerowrite" ∷ []
reply_words (reply.TooLong length limit) = codes "toolong" ∷ numeral length ∷ numeral limit ∷ []
reply_words reply.Left = codes "left" ∷ []
reply_words (reply.BadCtl n) = codes "badctl" ∷ numeral n ∷ []
reply_words reply.Took = codes "took" ∷ []
reply_words reply.Full = codes "full" ∷ []
reply_words reply.Ticked = codes "ticked" ∷ []
reply_words reply.NotDue = codes "notdue" ∷ []
reply_words (reply.Laid k) = codes "laid" ∷ numeral k ∷ []
reply_words reply.TooBig = codes "toobig" ∷ []
reply_words reply.NoStation = codes "nostation" ∷ []
reply_words (reply.Copy k) = codes "copy" ∷ numeral k ∷ []

-- Lines.

-- the protocol's word, the addresses, ttl and tos
abbrev pub way_words : List ℕ → Header → List (List ℕ)
way_words proto h = proto ∷ addr_word h.src ∷ addr_word h.dst ∷ numeral h.ttl ∷ numeral h.tos ∷ []

-- what a body shows
abbrev pub body_words : BodyHeader → List (List ℕ)
body_words (body.Il k spec id ack length) = kind_word k ∷ numeral spec ∷ numeral id ∷ numeral ack ∷ numeral length ∷ []
body_words (body.Udp length) = numeral length ∷ []

abbrev pub proto_word : BodyHeader → List ℕ
proto_word (body.Il k spec id ack length) = codes "il"
proto_word (body.Udp length) = codes "udp"

abbrev pub header_words : Header → List (List ℕ)
header_words h = way_words (proto_word h.body) h ++ body_words h.body

abbrev pub emitted_words : Option Header → List (List ℕ)
emitted_words None = []
emitted_words (Some h) = codes "+" ∷ header_words h

abbrev pub ended_words : Bool → List (List ℕ)
ended_words false = []
ended_words true = codes "ended" ∷ []

-- words, with a blank before each
abbrev pub spaced : List (List ℕ) → List ℕ
spaced words = flat_map (λ word. 32 ∷ word) words

-- the moment, the caller, the actor and what is cited
abbrev pub who_words : Entry → List (List ℕ)
who_words x = numeral x.moment ∷ numeral x.caller ∷ actor_word x.actor ∷ number_or_dash x.cites ∷ []

-- the reply, the header of what is emitted, and whether it ended
abbrev pub outcome_words : Entry → List (List ℕ)
outcome_words x = codes "=" ∷ (reply_words x.reply ++ emitted_words x.emits ++ ended_words x.ended)

-- what stands behind the stamp of an entry
abbrev pub entry_words : Entry → List (List ℕ)
entry_words x = who_words x ++ event_words x.event ++ outcome_words x

-- the line of the entry with this stamp
unfoldable pub line_of : ℕ → Entry → List ℕ
line_of stamp x = numeral stamp ++ spaced (entry_words x) ++ 10 ∷ []

-- the lines of entries, the first of which has this stamp
abbrev pub lines_from : ℕ → List Entry → List ℕ
lines_from stamp [] = []
lines_from stamp (x ∷ xs) = line_of stamp x ++ lines_from (stamp + 1) xs

-- the text of a history
abbrev pub history_text : List Entry → List ℕ
history_text h = lines_from 0 h
