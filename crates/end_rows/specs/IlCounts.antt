-- An IL end as it is counted by the entries of a history.
use Rattle.std.specs.Prelude.{ℕ, zero, suc, ◌+◌, ◌-◌, ◌==◌, Bool, List, [], ◌∷◌, ◌++◌, length, min, position, remove, Option, Some, None, is_some, unwrap_or, nat_le, nat_lt, slice_get, if◌then◌else◌}
use Rattle.net_base.specs.declared.il.Cause.{Cause}
use Rattle.net_base.specs.declared.il.Cause.TheVariants as cause
use Rattle.net_base.specs.declared.il.IlState.{IlState}
use Rattle.net_base.specs.declared.il.IlState.TheVariants as state
use Rattle.net_base.specs.Number.{number}
use Rattle.end_rows.specs.declared.il.IlCount.{IlCount}
use Rattle.end_rows.specs.declared.il.Late.{Late}

-- the next number; the last one stays
abbrev pub next_count : ℕ → ℕ
next_count n = min (n + 1) 18446744073709551615

-- nothing happened to it
abbrev pub fresh_count : IlCount
fresh_count =
    record {
      state = state.Closed;
      start = 0;
      rstart = None;
      written = 0;
      acked = 0;
      received = 0;
      early = [];
      unread = [];
      offset = 0;
      cause = None;
    }

abbrev pub message_number : ℕ → ℕ → ℕ → Option ℕ
message_number base id got = if nat_lt got 4294967296 then number base id got else None

-- Acks.

-- the first k messages are acknowledged, if k messages were written
abbrev pub acked_up_to : Option ℕ → IlCount → IlCount
acked_up_to None e = e
acked_up_to (Some k) e = if nat_le k e.written then record e { acked = k } else e

abbrev pub ack_taken : ℕ → IlCount → IlCount
ack_taken ack e = acked_up_to (message_number e.start ack e.acked) e

-- Messages.

abbrev pub early_place : ℕ → List Late → Option ℕ
early_place k early = position (λ (x : Late). x.number == k) early

abbrev pub early_without : ℕ → List Late → List Late
early_without i early = remove early i

abbrev pub late_length : Option Late → ℕ
late_length None = 0
late_length (Some x) = x.length

abbrev pub unread_with : ℕ → List Late → List ℕ → List ℕ
unread_with i early unread = unread ++ late_length (slice_get early i) ∷ []

-- the number of messages that wait
abbrev pub backlog_of : IlCount → ℕ
backlog_of e = min (length e.unread + length e.early) 18446744073709551615

-- the message comes early, where it isn't early yet and there is room
abbrev pub comes_early : Option ℕ → ℕ → IlCount → IlCount
comes_early None n e = e
comes_early (Some k) n e =
    if is_some (early_place k e.early)
    then e
    else (if nat_le 64 (backlog_of e) then e else record e { early = e.early ++ record { number = k; length = n } ∷ [] })

-- the next message in sequence is unread, where it came early
abbrev pub comes_from : Option ℕ → IlCount → IlCount
comes_from None e = e
comes_from (Some i) e =
    record e { early = early_without i e.early; unread = unread_with i e.early e.unread; received = next_count e.received }

abbrev pub comes_in_turn : IlCount → IlCount
comes_in_turn e = comes_from (early_place (next_count e.received) e.early) e

abbrev pub come_in_turn : ℕ → IlCount → IlCount
come_in_turn zero e = e
come_in_turn (suc n) e = come_in_turn n (comes_in_turn e)

abbrev pub accepted : ℕ → ℕ → IlCount → IlCount
accepted id n e =
    let with_it = comes_early (message_number (unwrap_or e.rstart 0) id e.received) n e in
    come_in_turn (length with_it.early) with_it

-- Reads.

abbrev pub without_first : List ℕ → List ℕ
without_first unread = remove unread 0

-- at most `count` bytes of the first unread message
abbrev pub read_of : Option ℕ → ℕ → IlCount → IlCount
read_of None count e = e
read_of (Some first) count e =
    if nat_lt count (first - e.offset)
    then record e { offset = min (e.offset + count) 18446744073709551615 }
    else record e { unread = without_first e.unread; offset = 0 }

abbrev pub counted_read : ℕ → IlCount → IlCount
counted_read count e = read_of (slice_get e.unread 0) count e

-- Closing.

abbrev pub counted_close : Cause → IlCount → IlCount
counted_close why e = record e { state = state.Closed; cause = Some why }

abbrev pub begins_to_close : IlCount → IlCount
begins_to_close e = record e { state = state.Closing; cause = Some cause.Hungup }

abbrev pub hangup_at : IlState → IlCount → IlCount
hangup_at state.Syncer e = counted_close cause.Hungup e
hangup_at state.Listening e = counted_close cause.Hungup e
hangup_at state.Syncee e = begins_to_close e
hangup_at state.Established e = begins_to_close e
hangup_at state.Closed e = e
hangup_at state.Closing e = e

abbrev pub counted_hangup : IlCount → IlCount
counted_hangup e = hangup_at e.state e
