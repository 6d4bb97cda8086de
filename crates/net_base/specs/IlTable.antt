-- The steps of an IL end: what comes, what is asked of it, and the timer. Moments are in ms, lengths in bytes.
use Rattle.std.specs.Prelude.{ℕ, ◌+◌, ◌-◌, ◌==◌, Bool, true, false, not, List, [], ◌∷◌, ◌++◌, length, drop, Some, is_some, nat_lt, nat_le, if◌then◌else◌, ◌&&◌, ◌||◌, slice_index_or}
use Rattle.net_base.specs.declared.il.Cause.TheVariants as cause
use Rattle.net_base.specs.declared.il.IlKind.{IlKind}
use Rattle.net_base.specs.declared.il.IlKind.TheVariants.{Sync, Data, DataQuery, Ack, Query, State, Close}
use Rattle.net_base.specs.declared.il.IlMsg.{IlMsg}
use Rattle.net_base.specs.declared.il.IlState.{IlState}
use Rattle.net_base.specs.declared.il.IlState.TheVariants.{Closed, Syncer, Syncee, Established, Listening, Closing}
use Rattle.net_base.specs.Number.{number}
use Rattle.net_base.specs.declared.timer.Tick.{Tick}
use Rattle.net_base.specs.declared.timer.Tick.TheVariants as tick
use Rattle.net_base.specs.Timer as timer
use Rattle.net_base.specs.Timer.{Timer}
use Rattle.net_base.specs.IlEnd.{End, Turn, rstart_of, next, recvd, has_unacked, message, silent, emitting, syncs, retransmits, starts, sends_number, hears, establishes, closes, hears_ack, accepts}

-- Fresh.

-- connect: of a fresh end
abbrev pub connects : ℕ → ℕ → End → Turn
connects now start e = syncs (starts now (record e { state = Syncer; fresh = false; start = start }))

-- born from a sync with the id rstart: of a fresh end
abbrev pub is_born : ℕ → ℕ → ℕ → End → Turn
is_born now start rstart e = syncs (starts now (record e { state = Syncee; fresh = false; start = start; rstart = Some rstart }))

-- announced: of a fresh end
abbrev pub announced : End → End
announced e = record e { state = Listening; fresh = false }

-- What comes.

-- a close with spec 1 refuses a sync
abbrev pub refuses : IlKind → ℕ → Bool
refuses Close spec = spec == 1
refuses _ spec = false

-- Syncer: its sync is answered or refused
abbrev pub at_syncer : IlKind → ℕ → IlMsg → End → Turn
at_syncer Sync now m e =
    if m.ack == e.start then emitting Ack (establishes (hears now (record e { rstart = Some m.id }))) else silent e
at_syncer Close now m e =
    if (m.spec == 1) && (m.ack == e.start) then silent (closes (Some cause.Refused) (hears now e)) else silent e
at_syncer _ now m e = silent e

-- Established
abbrev pub at_established : IlKind → ℕ → IlMsg → End → Turn
at_established Sync now m e = if m.id == rstart_of e then emitting Ack (hears now e) else silent e
at_established Data now m e = emitting Ack (accepts m (hears_ack now m e))
at_established DataQuery now m e =
    let after = accepts m (hears_ack now m e) in
    if is_some (number (rstart_of e) m.id (length after.got)) then emitting Ack after else emitting State after
at_established Ack now m e = silent (hears_ack now m e)
at_established Query now m e = emitting State (hears_ack now m e)
at_established State now m e = retransmits (hears_ack now m e) (silent (hears_ack now m e))
at_established Close now m e =
    if m.spec == 0
    then (if m.id == recvd e
    then emitting Close (closes (Some cause.ByPeer) (record (hears_ack now m e) { closed_by_peer = true }))
    else emitting State (hears_ack now m e))
    else silent e

-- Syncee: the sync that it was born from comes again, or the first message that acknowledges its own
abbrev pub at_syncee : IlKind → ℕ → IlMsg → End → Turn
at_syncee Sync now m e = if m.id == rstart_of e then syncs (hears now e) else silent e
at_syncee kind now m e =
    if not (refuses kind m.spec) && (m.ack == e.start) then at_established kind now m (establishes (hears now e)) else silent e

-- Closing
abbrev pub at_closing : IlKind → ℕ → IlMsg → End → Turn
at_closing Sync now m e = emitting Close (hears now e)
at_closing Data now m e = emitting Close (hears_ack now m e)
at_closing DataQuery now m e = emitting Close (hears_ack now m e)
at_closing Query now m e = emitting Close (hears_ack now m e)
at_closing Ack now m e = silent (hears_ack now m e)
at_closing State now m e = retransmits (hears_ack now m e) (emitting Close (hears_ack now m e))
at_closing Close now m e = if m.spec == 0 then silent (closes e.cause (hears_ack now m e)) else silent e

-- Closed: an end that its peer closed answers a close that comes again
abbrev pub at_closed : IlKind → ℕ → IlMsg → End → Turn
at_closed Close now m e = if e.closed_by_peer && (m.spec == 0) then emitting Close (hears now e) else silent e
at_closed _ now m e = silent e

-- the rows of what comes, by the end's state
abbrev pub row : IlState → IlKind → ℕ → IlMsg → End → Turn
row Syncer kind now m e = at_syncer kind now m e
row Syncee kind now m e = at_syncee kind now m e
row Established kind now m e = at_established kind now m e
row Closing kind now m e = at_closing kind now m e
row Closed kind now m e = at_closed kind now m e
row Listening kind now m e = silent e

-- a message of data has 1 to 8,192 bytes
abbrev pub is_sized : IlKind → ℕ → Bool
is_sized Data n = nat_lt 0 n && nat_le n 8192
is_sized DataQuery n = nat_lt 0 n && nat_le n 8192
is_sized _ n = true

-- a message comes
abbrev pub arrives : ℕ → IlMsg → End → Turn
arrives now m e = if is_sized m.kind (length m.text) then row e.state m.kind now m e else silent e

-- Hanging up.

-- the rows of a hangup, by the end's state
abbrev pub hangs_up_at : IlState → ℕ → End → Turn
hangs_up_at Syncer now e = silent (closes (Some cause.Hungup) e)
hangs_up_at Syncee now e = emitting Close (starts now (record e { state = Closing; cause = Some cause.Hungup }))
hangs_up_at Established now e = emitting Close (starts now (record e { state = Closing; cause = Some cause.Hungup }))
hangs_up_at Listening now e = silent (closes (Some cause.Hungup) e)
hangs_up_at _ now e = silent e

-- the end is hung up
abbrev pub hangs_up : ℕ → End → Turn
hangs_up now e = hangs_up_at e.state now e

-- Writing.

-- the message is sent as data, and the timer has sent its number
abbrev pub sends : ℕ → List ℕ → End → Turn
sends now text e =
    let after = sends_number now (length e.sent + 1) (record e { sent = e.sent ++ text ∷ [] }) in
    record { end = after; emits = Some (message Data (next after) (recvd after) text) }

-- a message is written: in Established, where fewer than 20 are unacknowledged
abbrev pub writes : ℕ → List ℕ → End → Turn
writes now text e = if has_unacked e then sends now text e else sends now text (starts now e)

-- Reading.

-- some message is unread
abbrev pub has_unread : End → Bool
has_unread e = nat_lt e.read_count (length e.got)

-- what is left of the first unread message
abbrev pub first_unread : End → List ℕ
first_unread e = drop e.read_offset (slice_index_or e.got e.read_count [])

-- so many bytes are read, where a message is unread: they are the first of its first unread message
abbrev pub reads : ℕ → End → End
reads count e =
    if nat_lt count (length (first_unread e))
    then record e { read_offset = e.read_offset + count }
    else record e { read_count = e.read_count + 1; read_offset = 0 }

-- What is ready.

-- a write has an answer
abbrev pub may_write : IlState → End → Bool
may_write Syncer e = false
may_write Syncee e = false
may_write Established e = nat_lt (length e.sent - e.acked) 20
may_write _ e = true

abbrev pub is_closed : IlState → Bool
is_closed Closed = true
is_closed _ = false

-- a read has an answer
abbrev pub may_read : End → Bool
may_read e = has_unread e || (e.closed_by_peer || is_closed e.state)

-- who waits for the end to be connected needn't wait longer
abbrev pub may_go_on : IlState → Bool
may_go_on Syncer = false
may_go_on _ = true

-- The timer runs out.

-- the end asks once more
abbrev pub asks_again : IlState → End → Turn
asks_again Syncer e = syncs e
asks_again Syncee e = syncs e
asks_again Established e = emitting Query e
asks_again Closing e = emitting Close e
asks_again _ e = silent e

-- what the timer says, and the timer that it leaves
abbrev pub ticks_to : Tick → Timer → End → Turn
ticks_to tick.NotDue left e = silent e
ticks_to tick.TimedOut left e = silent (closes (Some cause.TimedOut) e)
ticks_to tick.Again left e = asks_again e.state (record e { timer = left })

-- a tick comes
abbrev pub ticks : ℕ → End → Turn
ticks now e = ticks_to (timer.timer_ticks now e.timer).says (timer.timer_ticks now e.timer).timer e
