-- The steps of a conversation. Moments are in ms, lengths in bytes.
use Rattle.std.specs.Prelude.{ℕ, zero, suc, ◌+◌, ◌==◌, Bool, true, false, ◌&&◌, List, [], ◌∷◌, ◌++◌, length, take, Option, Some, None, Result, Ok, Err, nat_lt, nat_le, decimal, if◌then◌else◌}
use Rattle.std.specs.Option.{option_map}
use Rattle.net_base.specs.declared.address.Addr.{Addr}
use Rattle.net_base.specs.declared.address.Pair.{Pair}
use Rattle.net_base.specs.declared.event.Event.{Event}
use Rattle.net_base.specs.declared.event.Event.TheVariants as event
use Rattle.net_base.specs.declared.history.With.{With}
use Rattle.net_base.specs.declared.history.With.TheVariants as given
use Rattle.net_base.specs.declared.il.Cause.{Cause}
use Rattle.net_base.specs.declared.il.Cause.TheVariants as cause
use Rattle.net_base.specs.declared.il.IlKind.{IlKind}
use Rattle.net_base.specs.declared.il.IlKind.TheVariants.{Sync}
use Rattle.net_base.specs.declared.il.IlMsg.{IlMsg}
use Rattle.net_base.specs.declared.il.IlState.{IlState}
use Rattle.net_base.specs.declared.il.IlState.TheVariants as state
use Rattle.net_base.specs.declared.il.StateName.{StateName}
use Rattle.net_base.specs.declared.il.StateName.TheVariants as name
use Rattle.net_base.specs.declared.names.Ctl.{Ctl}
use Rattle.net_base.specs.declared.names.FileName.{FileName}
use Rattle.net_base.specs.declared.names.FileName.TheVariants as file
use Rattle.net_base.specs.declared.packet.Body.{Body}
use Rattle.net_base.specs.declared.packet.Body.TheVariants as body
use Rattle.net_base.specs.declared.packet.Packet.{Packet}
use Rattle.net_base.specs.declared.reply.Reply.{Reply}
use Rattle.net_base.specs.declared.reply.Reply.TheVariants as reply
use Rattle.net_base.specs.declared.timer.Tick.{Tick}
use Rattle.net_base.specs.declared.timer.Tick.TheVariants as tick
use Rattle.net_base.specs.ActorStep.{Step, when}
use Rattle.net_base.specs.ControlWords as control
use Rattle.net_base.specs.IlEnd.{End, Turn, fresh_end, cause_of}
use Rattle.net_base.specs.IlTable.{arrives, connects, is_born, announced, writes, reads, has_unread, first_unread, may_write, may_go_on, is_closed, hangs_up, ticks}
use Rattle.net_base.specs.Paths.{file_names}
use Rattle.net_base.specs.StateWords.{state_word, cause_text}
use Rattle.net_base.specs.Timer as timer
use Rattle.net_base.specs.UdpEnd.{UdpEnd, fresh_udp, is_hung_up, udp_state_name, takes_datagram, datagram_comes, datagram_read, udp_connects, udp_announced, udp_hangs_up}

-- the end of a conversation
pub data Core : Type 0 where
  Il : End → Core
  Udp : UdpEnd → Core

-- what a conversation became in this generation: Connected is connected or born
pub data Stage : Type 0 where
  Unused Listening Connected : Stage

-- a conversation
pub record Conv : Type 0 where
  pub generation : ℕ
  -- how many files of it are open
  pub opens : ℕ
  pub pair : Pair
  -- the longest message that may be written
  pub limit : ℕ
  pub ttl : ℕ
  pub tos : ℕ
  pub stage : Stage
  pub core : Core

-- what isn't known
abbrev pub nowhere : Addr
nowhere = record { ip = 0; port = 0 }

-- an end of the same protocol, with the same kind of timers, that nothing happened to
abbrev pub fresh_like : Core → Core
fresh_like (Il e) = Il (fresh_end e.timer.timers)
fresh_like (Udp e) = Udp fresh_udp

-- a conversation of this generation with one open file
abbrev pub begun : ℕ → Conv → Conv
begun g c =
    record {
      generation = g;
      opens = 1;
      pair = record { local = nowhere; remote = nowhere };
      limit = 0;
      ttl = 255;
      tos = 0;
      stage = Unused;
      core = fresh_like c.core;
    }

-- States.

-- an IL state as it is printed
abbrev pub il_state_name : IlState → StateName
il_state_name state.Closed = name.Closed
il_state_name state.Syncer = name.Syncer
il_state_name state.Syncee = name.Syncee
il_state_name state.Established = name.Established
il_state_name state.Listening = name.Listening
il_state_name state.Closing = name.Closing

-- the state of an end as it is printed
abbrev pub core_name : Core → StateName
core_name (Il e) = il_state_name e.state
core_name (Udp e) = udp_state_name e.state

-- the last cause
abbrev pub core_cause : Core → Option Cause
core_cause (Il e) = e.cause
core_cause (Udp e) = if is_hung_up e.state then Some cause.Hungup else None

abbrev pub is_closed_name : StateName → Bool
is_closed_name name.Closed = true
is_closed_name _ = false

-- it is Closed, and no file of it is open
abbrev pub is_over : Conv → Bool
is_over c = is_closed_name (core_name c.core) && (c.opens == 0)

-- Leaving a step.

-- the conversation after a step; it ended where it is over now and wasn't before
abbrev pub leaves : Conv → Reply → Conv → Option Packet → Step Conv
leaves before answer after emits =
    record {
      state = after;
      outcome = record { reply = answer; copy = Some answer; emit = emits; taken = None; ended = if is_over before then false else is_over after };
    }

-- nothing changes
abbrev pub only_replies : Conv → Reply → Step Conv
only_replies c answer = leaves c answer c None

-- a packet from the conversation's local address to its remote one
abbrev pub packet_of : Conv → Body → Packet
packet_of c b = record { src = c.pair.local; dst = c.pair.remote; ttl = c.ttl; tos = c.tos; body = b }

-- the conversation after a step in which its IL end took this turn
abbrev pub turned : Conv → Reply → Turn → Conv → Step Conv
turned before answer turn after =
    leaves before answer (record after { core = Il turn.end }) (option_map (λ (m : IlMsg). packet_of after (body.Il m)) turn.emits)

-- Generations.

-- an event of the conversation's own generation, where an older one is stale and a newer one waits
abbrev pub in_generation : ℕ → Conv → Option (Step Conv) → Option (Step Conv)
in_generation g c step = if g == c.generation then step else (if nat_lt g c.generation then Some (only_replies c reply.Stale) else None)

-- an event that raises the generation by one, where an older one is stale and all else waits
abbrev pub raises : ℕ → Conv → Option (Step Conv) → Option (Step Conv)
raises g c step = if g == c.generation + 1 then step else (if nat_lt g c.generation then Some (only_replies c reply.Stale) else None)

-- What is given.

-- the packet is of the conversation's protocol
abbrev pub has_protocol : Core → Body → Bool
has_protocol (Il e) (body.Il m) = true
has_protocol (Udp e) (body.Udp text) = true
has_protocol _ _ = false

abbrev pub is_sync : IlKind → Bool
is_sync Sync = true
is_sync _ = false

-- a packet that a conversation may be born from: for IL a sync
abbrev pub may_bear : Core → Body → Bool
may_bear (Il e) (body.Il m) = is_sync m.kind
may_bear (Udp e) (body.Udp text) = true
may_bear _ _ = false

-- a limit is at most 8,192, and a start of IL isn't 0
abbrev pub may_connect : Core → ℕ → ℕ → Bool
may_connect (Il e) start limit = nat_lt 0 start && nat_le limit 8192
may_connect (Udp e) start limit = nat_le limit 8192

-- Begin, born, claim.

-- the conversation that a packet brings forth, with its addresses the other way round
abbrev pub born_to : ℕ → ℕ → Packet → Conv → Conv
born_to g limit p c = record (begun g c) { pair = record { local = p.dst; remote = p.src }; limit = limit; stage = Connected }

-- IL: the end is born; UDP: the datagram is unread
abbrev pub brought_forth : Core → ℕ → ℕ → ℕ → ℕ → Packet → Body → Conv → Option (Step Conv)
brought_forth (Il e) now g start limit p (body.Il m) c =
    Some (turned c reply.Ok (is_born now start m.id (fresh_end e.timer.timers)) (born_to g limit p c))
brought_forth (Udp e) now g start limit p (body.Udp text) c =
    Some (leaves c reply.Ok (record (born_to g limit p c) { core = Udp (datagram_comes text (udp_connects fresh_udp)) }) None)
brought_forth _ now g start limit p _ c = None

-- Connect, announced, bound: nothing changes where the conversation isn't unused.

-- the end connects
abbrev pub joined : Stage → Core → ℕ → Pair → ℕ → ℕ → Conv → Step Conv
joined Unused (Il e) now pair start limit c =
    turned c reply.Ok (connects now start e) (record c { pair = pair; limit = limit; stage = Connected })
joined Unused (Udp e) now pair start limit c =
    leaves c reply.Ok (record c { pair = pair; limit = limit; stage = Connected; core = Udp (udp_connects e) }) None
joined _ _ now pair start limit c = only_replies c reply.Ok

-- an end that listens
abbrev pub core_announced : Core → Core
core_announced (Il e) = Il (announced e)
core_announced (Udp e) = Udp (udp_announced e)

-- the state is Listening, and local shows the address and the port
abbrev pub listens : Stage → ℕ → ℕ → Conv → Step Conv
listens Unused ip port c =
    leaves c reply.Ok (record c { pair = record c.pair { local = record { ip = ip; port = port } }; stage = Listening; core = core_announced c.core }) None
listens _ ip port c = only_replies c reply.Ok

-- local shows the port
abbrev pub binds : Stage → ℕ → Conv → Step Conv
binds Unused port c = leaves c reply.Ok (record c { pair = record c.pair { local = record c.pair.local { port = port } } }) None
binds _ port c = only_replies c reply.Ok

-- Await.

-- hungup in Closed with a cause, else ok
abbrev pub hungup_or_ok : Option Cause → Reply
hungup_or_ok (Some why) = reply.Hungup why
hungup_or_ok None = reply.Ok

abbrev pub il_awaited : End → Reply
il_awaited e = if is_closed e.state then hungup_or_ok e.cause else reply.Ok

-- ready where not Syncer
abbrev pub awaited : Core → Conv → Option (Step Conv)
awaited (Il e) c = if may_go_on e.state then Some (only_replies c (il_awaited e)) else None
awaited (Udp e) c = Some (only_replies c (hungup_or_ok (core_cause (Udp e))))

-- Files.

-- one more open file, where one is open
abbrev pub opened : ℕ → Conv → Step Conv
opened zero c = only_replies c reply.NotOpen
opened (suc n) c = leaves c (reply.Opened c.generation) (record c { opens = suc n + 1 }) None

-- a text with a newline after it
abbrev pub line : List ℕ → List ℕ
line text = text ++ control.newline ∷ []

abbrev pub err_text : Option Cause → List ℕ
err_text (Some why) = line (cause_text why)
err_text None = []

-- what a file says
abbrev pub file_text : FileName → ℕ → Conv → List ℕ
file_text file.Ctl slot c = decimal slot
file_text file.Local slot c = line (control.place c.pair.local)
file_text file.Remote slot c = line (control.place c.pair.remote)
file_text file.Status slot c = line (state_word (core_name c.core))
file_text file.Err slot c = err_text (core_cause c.core)
file_text _ slot c = []

-- the names of the files, where one is open
abbrev pub listed : ℕ → Conv → Step Conv
listed zero c = only_replies c reply.NotOpen
listed (suc n) c = only_replies c (reply.Names file_names)

-- Read: wrong where the conversation was never connected or born.

-- the first bytes of the first unread message; no bytes at the end; hungup in Closed
abbrev pub il_read : ℕ → End → Conv → Option (Step Conv)
il_read count e c =
    if has_unread e
    then Some (leaves c (reply.Bytes (take count (first_unread e))) (record c { core = Il (reads count e) }) None)
    else (if e.closed_by_peer
    then Some (only_replies c (reply.Bytes []))
    else (if is_closed e.state then Some (only_replies c (reply.Hungup (cause_of e))) else None))

-- the first bytes of the first datagram; hungup where none is unread and the end is hung up
abbrev pub udp_read : List (List ℕ) → ℕ → UdpEnd → Conv → Option (Step Conv)
udp_read (text ∷ texts) count e c = Some (leaves c (reply.Bytes (take count text)) (record c { core = Udp (datagram_read e) }) None)
udp_read [] count e c = if is_hung_up e.state then Some (only_replies c (reply.Hungup cause.Hungup)) else None

abbrev pub read_at : Stage → Core → ℕ → Conv → Option (Step Conv)
read_at Connected (Il e) count c = il_read count e c
read_at Connected (Udp e) count c = udp_read e.unread count e c
read_at _ core count c = Some (only_replies c (reply.WrongState (core_name core)))

-- Write: wrong as for read.

-- in Established the message is sent; in Closed and Closing hungup
abbrev pub il_written : IlState → ℕ → List ℕ → End → Conv → Step Conv
il_written state.Established now text e c = turned c (reply.Count (length text)) (writes now text e) c
il_written _ now text e c = only_replies c (reply.Hungup (cause_of e))

-- a datagram is sent; hungup in Closed
abbrev pub udp_written : List ℕ → UdpEnd → Conv → Step Conv
udp_written text e c =
    if is_closed_name (udp_state_name e.state)
    then only_replies c (reply.Hungup cause.Hungup)
    else leaves c (reply.Count (length text)) c (Some (packet_of c (body.Udp text)))

-- an IL write is ready where the end is, a UDP write always
abbrev pub core_written : Core → ℕ → List ℕ → Conv → Option (Step Conv)
core_written (Il e) now text c = if may_write e.state e then Some (il_written e.state now text e c) else None
core_written (Udp e) now text c = Some (udp_written text e c)

-- zerowrite at 0 bytes, toolong above the limit
abbrev pub write_at : Stage → Core → ℕ → List ℕ → Conv → Option (Step Conv)
write_at Connected core now text c =
    if length text == 0
    then Some (only_replies c reply.ZeroWrite)
    else (if nat_lt c.limit (length text)
    then Some (only_replies c (reply.TooLong (length text) c.limit))
    else core_written core now text c)
write_at _ core now text c = Some (only_replies c (reply.WrongState (core_name core)))

-- Hangup and close.

-- left where it was Listening
abbrev pub left_or_ok : StateName → Reply
left_or_ok name.Listening = reply.Left
left_or_ok _ = reply.Ok

-- the step in which the end hangs up, of a conversation that was `before` and becomes `after` with the end that hung up in it
abbrev pub hung_up : Core → ℕ → Reply → Conv → Conv → Step Conv
hung_up (Il e) now answer before after = turned before answer (hangs_up now e) after
hung_up (Udp e) now answer before after = leaves before answer (record after { core = Udp (udp_hangs_up e) }) None

-- one open file fewer; the last one hangs up too
abbrev pub closed : ℕ → ℕ → Conv → Step Conv
closed zero now c = only_replies c reply.Ok
closed (suc zero) now c = hung_up c.core now reply.Ok c (record c { opens = 0 })
closed (suc (suc n)) now c = leaves c reply.Ok (record c { opens = suc n }) None

-- A control text that has no reading.

abbrev pub refused_control : Result Ctl ℕ → Option ℕ
refused_control (Ok c) = None
refused_control (Err n) = Some n

-- stale in an older generation, whatever the text says
abbrev pub bad_control : Option ℕ → ℕ → Conv → Option (Step Conv)
bad_control fault g c = in_generation g c (option_map (λ (n : ℕ). only_replies c (reply.BadCtl n)) fault)

-- Arrive and tick.

abbrev pub full_or_took : Bool → Reply
full_or_took takes = if takes then reply.Took else reply.Full

-- a packet comes; full at 64 unread datagrams, or where the UDP end is hung up
abbrev pub arrived : Core → Body → ℕ → Conv → Option (Step Conv)
arrived (Il e) (body.Il m) now c = Some (turned c reply.Took (arrives now m e) c)
arrived (Udp e) (body.Udp text) now c =
    Some (leaves c (full_or_took (takes_datagram e.state (length e.unread))) (record c { core = Udp (datagram_comes text e) }) None)
arrived _ _ now c = None

abbrev pub tick_reply : Tick → Reply
tick_reply tick.NotDue = reply.NotDue
tick_reply _ = reply.Ticked

abbrev pub ticked : Core → ℕ → Conv → Step Conv
ticked (Il e) now c = turned c (tick_reply (timer.timer_ticks now e.timer).says) (ticks now e) c
ticked (Udp e) now c = only_replies c reply.NotDue

-- the table of the conversation in a slot; none where no row answers
abbrev pub conv_step : ℕ → Event → With → ℕ → Conv → Option (Step Conv)
conv_step slot (event.Begin g) with now c = raises g c (Some (leaves c reply.Ok (begun g c) None))
conv_step slot (event.Born g) (given.Birth p start limit) now c =
    when (may_bear c.core p.body && may_connect c.core start limit) (raises g c (brought_forth c.core now g start limit p p.body c))
conv_step slot (event.Claim g) with now c = in_generation g c (Some (only_replies c reply.Ok))
conv_step slot (event.Connect g) (given.Grant pair start limit) now c =
    when (may_connect c.core start limit) (in_generation g c (Some (joined c.stage c.core now pair start limit c)))
conv_step slot (event.Announced g) (given.Key ip port) now c = in_generation g c (Some (listens c.stage ip port c))
conv_step slot (event.Bound g) (given.Key ip port) now c = in_generation g c (Some (binds c.stage port c))
conv_step slot (event.Await g) with now c = in_generation g c (awaited c.core c)
conv_step slot (event.Open file mode) with now c = Some (opened c.opens c)
conv_step slot (event.File g file count) with now c = in_generation g c (Some (only_replies c (reply.Bytes (take count (file_text file slot c)))))
conv_step slot (event.Read g count) with now c = when (nat_lt 0 count) (in_generation g c (read_at c.stage c.core count c))
conv_step slot (event.Write g text) with now c = in_generation g c (write_at c.stage c.core now text c)
conv_step slot (event.Hangup g) with now c = in_generation g c (Some (hung_up c.core now (left_or_ok (core_name c.core)) c c))
conv_step slot (event.Ttl g n) with now c = in_generation g c (Some (leaves c reply.Ok (record c { ttl = n }) None))
conv_step slot (event.Tos g n) with now c = in_generation g c (Some (leaves c reply.Ok (record c { tos = n }) None))
conv_step slot (event.Ctl g text) with now c = bad_control (refused_control (control.read text)) g c
conv_step slot (event.Close g) with now c = in_generation g c (Some (closed c.opens now c))
conv_step slot (event.ArriveAt g) (given.Packet p) now c = when (has_protocol c.core p.body) (in_generation g c (arrived c.core p.body now c))
conv_step slot (event.Tick g) with now c = in_generation g c (Some (ticked c.core now c))
conv_step slot event.Ls with now c = Some (listed c.opens c)
conv_step slot _ _ now c = None
