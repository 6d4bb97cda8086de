-- What a message that comes does to an IL end, as far as its counts show.
use Rattle.std.specs.Prelude.{ℕ, ◌==◌, Bool, true, false, not, ◌&&◌, ◌||◌, length, Some, unwrap_or, nat_le, nat_lt, if◌then◌else◌}
use Rattle.net_base.specs.declared.il.Cause.TheVariants as cause
use Rattle.net_base.specs.declared.il.IlKind.{IlKind}
use Rattle.net_base.specs.declared.il.IlKind.TheVariants as kind
use Rattle.net_base.specs.declared.il.IlMsg.{IlMsg}
use Rattle.net_base.specs.declared.il.IlState.{IlState}
use Rattle.net_base.specs.declared.il.IlState.TheVariants as state
use Rattle.net_base.specs.Number.{id_of}
use Rattle.end_rows.specs.declared.il.IlCount.{IlCount}
use Rattle.end_rows.specs.IlCounts.{accepted, ack_taken, counted_close}

-- a message of data has 1 to 8,192 bytes
abbrev pub is_length_of : IlKind → ℕ → Bool
is_length_of kind.Data n = nat_lt 0 n && nat_le n 8192
is_length_of kind.DataQuery n = nat_lt 0 n && nat_le n 8192
is_length_of _ n = true

-- a close with spec 1 refuses a sync
abbrev pub is_refusal : IlKind → ℕ → Bool
is_refusal kind.Close spec = spec == 1
is_refusal _ spec = false

-- Syncer

abbrev pub sync_answered : ℕ → ℕ → IlCount → IlCount
sync_answered id ack e = if ack == e.start then record e { rstart = Some id; state = state.Established } else e

abbrev pub sync_refused : ℕ → ℕ → IlCount → IlCount
sync_refused spec ack e = if (spec == 1) && (ack == e.start) then counted_close cause.Refused e else e

abbrev pub counted_at_syncer : IlKind → IlMsg → IlCount → IlCount
counted_at_syncer kind.Sync m e = sync_answered m.id m.ack e
counted_at_syncer kind.Close m e = sync_refused m.spec m.ack e
counted_at_syncer _ m e = e

-- Established

abbrev pub data_taken : IlMsg → IlCount → IlCount
data_taken m e = accepted m.id (length m.text) (ack_taken m.ack e)

-- the id of the last message that was received in sequence
abbrev pub last_id : IlCount → ℕ
last_id e = id_of (unwrap_or e.rstart 0) e.received

-- the close comes after all messages
abbrev pub is_whole : ℕ → IlCount → Bool
is_whole id e = id == last_id e

abbrev pub close_taken : IlMsg → IlCount → IlCount
close_taken m e =
    if m.spec == 0
    then (if is_whole m.id e then counted_close cause.ByPeer (ack_taken m.ack e) else ack_taken m.ack e)
    else e

abbrev pub counted_at_established : IlKind → IlMsg → IlCount → IlCount
counted_at_established kind.Sync m e = e
counted_at_established kind.Data m e = data_taken m e
counted_at_established kind.DataQuery m e = data_taken m e
counted_at_established kind.Ack m e = ack_taken m.ack e
counted_at_established kind.Query m e = ack_taken m.ack e
counted_at_established kind.State m e = ack_taken m.ack e
counted_at_established kind.Close m e = close_taken m e

-- Syncee

abbrev pub sync_acknowledged : IlMsg → IlCount → IlCount
sync_acknowledged m e =
    if is_refusal m.kind m.spec || not (m.ack == e.start)
    then e
    else counted_at_established m.kind m (record e { state = state.Established })

abbrev pub counted_at_syncee : IlKind → IlMsg → IlCount → IlCount
counted_at_syncee kind.Sync m e = e
counted_at_syncee _ m e = sync_acknowledged m e

-- Closing

abbrev pub close_answered : IlMsg → IlCount → IlCount
close_answered m e = if m.spec == 0 then record (ack_taken m.ack e) { state = state.Closed } else e

abbrev pub counted_at_closing : IlKind → IlMsg → IlCount → IlCount
counted_at_closing kind.Sync m e = e
counted_at_closing kind.Close m e = close_answered m e
counted_at_closing _ m e = ack_taken m.ack e

-- any state
abbrev pub arrival_at : IlState → IlMsg → IlCount → IlCount
arrival_at state.Syncer m e = counted_at_syncer m.kind m e
arrival_at state.Syncee m e = counted_at_syncee m.kind m e
arrival_at state.Established m e = counted_at_established m.kind m e
arrival_at state.Closing m e = counted_at_closing m.kind m e
arrival_at state.Closed m e = e
arrival_at state.Listening m e = e

abbrev pub counted_arrival : IlMsg → IlCount → IlCount
counted_arrival m e = if is_length_of m.kind (length m.text) then arrival_at e.state m e else e
