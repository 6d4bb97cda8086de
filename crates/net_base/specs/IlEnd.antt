-- What an IL end is, and the parts of its steps. Moments are in ms, lengths in bytes.
use Rattle.std.specs.Prelude.{ℕ, zero, suc, ◌+◌, ◌-◌, ◌==◌, Bool, true, false, List, [], ◌∷◌, ◌++◌, length, Option, Some, None, unwrap_or, is_some, nat_lt, nat_le, if◌then◌else◌, ◌||◌, slice_index_or}
use Rattle.net_base.specs.declared.il.Cause.{Cause}
use Rattle.net_base.specs.declared.il.Cause.TheVariants as cause
use Rattle.net_base.specs.declared.il.IlKind.{IlKind}
use Rattle.net_base.specs.declared.il.IlKind.TheVariants.{Sync, DataQuery}
use Rattle.net_base.specs.declared.il.IlMsg.{IlMsg}
use Rattle.net_base.specs.declared.il.IlState.{IlState}
use Rattle.net_base.specs.declared.il.IlState.TheVariants.{Closed, Established, Closing}
use Rattle.net_base.specs.Number.{id_of, number}
use Rattle.net_base.specs.declared.timer.Timers.{Timers}
use Rattle.net_base.specs.Timer as timer
use Rattle.net_base.specs.Timer.{Timer}

-- a message that came before its turn, with its number
pub record Early : Type 0 where
  pub number : ℕ
  pub text : List ℕ

-- an IL end, whose lists never shrink and whose numbers never wrap
pub record End : Type 0 where
  pub state : IlState
  -- it was never connected, born or announced
  pub fresh : Bool
  pub start : ℕ
  -- the start of the other end, once a sync has told it
  pub rstart : Option ℕ
  -- all messages written, and how many of them the other end acknowledged
  pub sent : List (List ℕ)
  pub acked : ℕ
  -- all messages accepted in sequence, and those accepted before their turn, each number once
  pub got : List (List ℕ)
  pub early : List Early
  -- how many messages of got were read whole, and how many bytes of the next one were read
  pub read_count : ℕ
  pub read_offset : ℕ
  -- the other end closed after its last message
  pub closed_by_peer : Bool
  pub cause : Option Cause
  pub timer : Timer

-- an end that was never connected, with such timers
abbrev pub fresh_end : Timers → End
fresh_end timers =
    record {
      state = Closed;
      fresh = true;
      start = 0;
      rstart = None;
      sent = [];
      acked = 0;
      got = [];
      early = [];
      read_count = 0;
      read_offset = 0;
      closed_by_peer = false;
      cause = None;
      timer = timer.idle_timer timers;
    }

-- what a step leaves, and what it emits
pub record Turn : Type 0 where
  pub end : End
  pub emits : Option IlMsg

-- the other end's start, or 0 where no sync has told it
abbrev pub rstart_of : End → ℕ
rstart_of e = unwrap_or e.rstart 0

-- the id of the last message sent, or start
abbrev pub next : End → ℕ
next e = id_of e.start (length e.sent)

-- the id of the last message accepted in sequence, or rstart
abbrev pub recvd : End → ℕ
recvd e = id_of (rstart_of e) (length e.got)

-- why the end was hung up, which an end that was connected and is Closed or Closing tells
abbrev pub cause_of : End → Cause
cause_of e = unwrap_or e.cause cause.Hungup

-- some message isn't acknowledged
abbrev pub has_unacked : End → Bool
has_unacked e = nat_lt e.acked (length e.sent)

-- how many messages are unread or early
abbrev pub backlog : End → ℕ
backlog e = length e.got - e.read_count + length e.early

-- Emitting.

-- a message with spec 0
abbrev pub message : IlKind → ℕ → ℕ → List ℕ → IlMsg
message kind id ack text = record { kind = kind; spec = 0; id = id; ack = ack; text = text }

-- nothing is emitted
abbrev pub silent : End → Turn
silent e = record { end = e; emits = None }

-- a message of this kind without a text, with the end's own numbers
abbrev pub emitting : IlKind → End → Turn
emitting kind e = record { end = e; emits = Some (message kind (next e) (recvd e) []) }

-- the end's sync, whose ack is the start of the sync that it answers, or 0
abbrev pub syncs : End → Turn
syncs e = record { end = e; emits = Some (message Sync e.start (rstart_of e) []) }

-- the first unacknowledged message as dataquery, or the other turn where there is none
abbrev pub retransmits : End → Turn → Turn
retransmits e other =
    if has_unacked e
    then record { end = e; emits = Some (message DataQuery (id_of e.start (e.acked + 1)) (recvd e) (slice_index_or e.sent e.acked [])) }
    else other

-- The timer.

-- the timer starts
abbrev pub starts : ℕ → End → End
starts now e = record e { timer = timer.timer_starts now e.timer }

-- a message was heard
abbrev pub hears : ℕ → End → End
hears now e = record e { timer = timer.timer_hears now e.timer }

abbrev pub is_closing : IlState → Bool
is_closing Closing = true
is_closing _ = false

-- the message with this number was sent for the first time
abbrev pub sends_number : ℕ → ℕ → End → End
sends_number now k e = record e { timer = timer.timer_sends now k e.timer }

-- the other end has acknowledged the messages up to k
abbrev pub acks : ℕ → ℕ → End → End
acks now k e = record e { acked = k; timer = timer.timer_acks now k e.timer }

-- the end waits anew, where it still waits
abbrev pub waits_anew : ℕ → End → End
waits_anew now e = record e { timer = timer.timer_moves now (has_unacked e || is_closing e.state) e.timer }

-- the end becomes Established, which stops the timer
abbrev pub establishes : End → End
establishes e = record e { state = Established; timer = timer.stops e.timer }

-- the end becomes Closed with this cause, which stops the timer
abbrev pub closes : Option Cause → End → End
closes why e = record e { state = Closed; cause = why; timer = timer.stops e.timer }

-- Taking the ack.

-- the first k messages are acknowledged, where so many were sent: the round trip of the probe comes before the wait
abbrev pub acked_to : ℕ → Option ℕ → End → End
acked_to now None e = e
acked_to now (Some k) e = if nat_le k (length e.sent) then waits_anew now (acks now k e) else e

-- the end hears a message and takes its ack
abbrev pub hears_ack : ℕ → IlMsg → End → End
hears_ack now m e = acked_to now (number e.start m.ack e.acked) (hears now e)

-- Accepting.

-- the early message with this number
abbrev pub early_at : ℕ → List Early → Option (List ℕ)
early_at k [] = None
early_at k (x ∷ xs) = if x.number == k then Some x.text else early_at k xs

-- the early messages but the one with this number
abbrev pub without_early : ℕ → List Early → List Early
without_early k [] = []
without_early k (x ∷ xs) = if x.number == k then xs else x ∷ without_early k xs

-- the message becomes early, where it isn't early yet and there is room
abbrev pub becomes_early : Option ℕ → List ℕ → End → End
becomes_early None text e = e
becomes_early (Some k) text e =
    if is_some (early_at k e.early) || nat_le 64 (backlog e)
    then e
    else record e { early = record { number = k; text = text } ∷ e.early }

-- the next message in sequence moves from early to the end of got
abbrev pub comes_in_turn : Option (List ℕ) → End → End
comes_in_turn None e = e
comes_in_turn (Some text) e = record e { got = e.got ++ text ∷ []; early = without_early (length e.got + 1) e.early }

-- so do those that follow, as far as they are early; at most n of them
abbrev pub come_in_turn : ℕ → End → End
come_in_turn zero e = e
come_in_turn (suc n) e = come_in_turn n (comes_in_turn (early_at (length e.got + 1) e.early) e)

-- the message becomes early, and what is next in sequence is got
abbrev pub accepts : IlMsg → End → End
accepts m e =
    let with_it = becomes_early (number (rstart_of e) m.id (length e.got)) m.text e in
    come_in_turn (length with_it.early) with_it
