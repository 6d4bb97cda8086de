-- Replies as they are read: the reader of each row, by its first word.
use Rattle.std.specs.Prelude.{ℕ, List, [], ◌∷◌, Some, None, codes, bytes_eq, if◌then◌else◌}
use Rattle.net_base.specs.declared.actor.Call.{Call}
use Rattle.net_base.specs.declared.address.Addr.{Addr}
use Rattle.net_base.specs.declared.reply.Reply.{Reply}
use Rattle.net_base.specs.declared.reply.Reply.TheVariants as reply
use Rattle.history_reader.specs.Fields.{Words, Read, FieldReader, both_fields, read_cause, long, read_as, narrow, read_place, row_of, state_read, text, texts}

-- Calls.

-- a call by its two words
abbrev pub to_call : ℕ × ℕ → Call
to_call f = record { slot = f.0; generation = f.1 }

abbrev pub call : FieldReader Call
call = read_as (both_fields narrow long) to_call

abbrev pub Calls : Type 0
Calls = List Call × Words

-- a call before these, or none
abbrev pub call_before : Read Call → Calls → Words → Calls
call_before None read words = ([], words)
call_before (Some (first, rest)) read words = (first ∷ read.0, read.1)

-- calls as long as two numbers come
abbrev pub each_call : Words → Calls
each_call [] = ([], [])
each_call (slot_read ∷ []) = ([], slot_read ∷ [])
each_call (slot_read ∷ generation ∷ words) = call_before (call (slot_read ∷ generation ∷ [])) (each_call words) (slot_read ∷ generation ∷ words)

-- at least one
abbrev pub some_calls : Calls → Read (List Call)
some_calls ([], words) = None
some_calls (first ∷ others, words) = Some (first ∷ others, words)

-- the calls that waited, or a dash for none
abbrev pub calls_read : FieldReader (List Call)
calls_read [] = None
calls_read (word ∷ words) = if bytes_eq word (codes "-") then Some ([], words) else some_calls (each_call (word ∷ words))

-- Rows with several fields.

abbrev pub to_granted : Addr × (Addr × (ℕ × ℕ)) → Reply
to_granted f = reply.Granted (record { local = f.0; remote = f.1.0 }) f.1.1.0 f.1.1.1

abbrev pub to_born : ℕ × (ℕ × (ℕ × ℕ)) → Reply
to_born f = reply.Born f.0 f.1.0 f.1.1.0 f.1.1.1

-- Rows.

abbrev pub last_rows : List (List ℕ × FieldReader Reply)
last_rows =
    (codes "took", λ words. Some (reply.Took, words))
    ∷ (codes "full", λ words. Some (reply.Full, words))
    ∷ (codes "ticked", λ words. Some (reply.Ticked, words))
    ∷ (codes "notdue", λ words. Some (reply.NotDue, words))
    ∷ (codes "toobig", λ words. Some (reply.TooBig, words))
    ∷ (codes "nostation", λ words. Some (reply.NoStation, words))
    ∷ []

abbrev pub refused_rows : List (List ℕ × FieldReader Reply)
refused_rows =
    (codes "refused", λ words. Some (reply.Refused, words))
    ∷ (codes "dropped", λ words. Some (reply.Dropped, words))
    ∷ (codes "stale", λ words. Some (reply.Stale, words))
    ∷ (codes "notopen", λ words. Some (reply.NotOpen, words))
    ∷ (codes "zerowrite", λ words. Some (reply.ZeroWrite, words))
    ∷ (codes "left", λ words. Some (reply.Left, words))
    ∷ last_rows

abbrev pub bare_rows : List (List ℕ × FieldReader Reply)
bare_rows =
    (codes "nofile", λ words. Some (reply.NoFile, words))
    ∷ (codes "badmode", λ words. Some (reply.BadMode, words))
    ∷ (codes "badfid", λ words. Some (reply.BadFid, words))
    ∷ (codes "noslot", λ words. Some (reply.NoSlot, words))
    ∷ (codes "noroute", λ words. Some (reply.NoRoute, words))
    ∷ (codes "noport", λ words. Some (reply.NoPort, words))
    ∷ (codes "selfpair", λ words. Some (reply.SelfPair, words))
    ∷ refused_rows

abbrev pub several_rows : List (List ℕ × FieldReader Reply)
several_rows =
    (codes "call", read_as (both_fields narrow long) (λ f. reply.Call f.0 f.1))
    ∷ (codes "to", read_as (both_fields narrow long) (λ f. reply.To f.0 f.1))
    ∷ (codes "toolong", read_as (both_fields long narrow) (λ f. reply.TooLong f.0 f.1))
    ∷ (codes "granted", read_as (both_fields read_place (both_fields read_place (both_fields narrow narrow))) to_granted)
    ∷ (codes "born", read_as (both_fields narrow (both_fields long (both_fields narrow narrow))) to_born)
    ∷ (codes "wrong", read_as state_read (λ s. reply.WrongState s))
    ∷ (codes "hungup", read_as read_cause (λ c. reply.Hungup c))
    ∷ bare_rows

abbrev pub number_rows : List (List ℕ × FieldReader Reply)
number_rows =
    (codes "csrefused", read_as narrow (λ n. reply.CsRefused n))
    ∷ (codes "pairused", read_as long (λ k. reply.PairUsed k))
    ∷ (codes "taken", read_as narrow (λ n. reply.PortTaken n))
    ∷ (codes "opened", read_as long (λ g. reply.Opened g))
    ∷ (codes "badctl", read_as narrow (λ n. reply.BadCtl n))
    ∷ (codes "version", read_as long (λ n. reply.Version n))
    ∷ (codes "laid", read_as long (λ k. reply.Laid k))
    ∷ (codes "copy", read_as long (λ k. reply.Copy k))
    ∷ several_rows

abbrev pub count : FieldReader Reply
count = read_as narrow (λ n. reply.Count n)

abbrev pub slot_read : FieldReader Reply
slot_read = read_as (both_fields narrow long) (λ f. reply.Slot f.0 f.1)

abbrev pub bytes : FieldReader Reply
bytes = read_as text (λ b. reply.Bytes b)

abbrev pub lines : FieldReader Reply
lines = read_as texts (λ ls. reply.Lines ls)

abbrev pub read_names : FieldReader Reply
read_names = read_as texts (λ ns. reply.Names ns)

abbrev pub waited : FieldReader Reply
waited = read_as calls_read (λ c. reply.Calls c)

abbrev pub reply_rows : List (List ℕ × FieldReader Reply)
reply_rows =
    (codes "ok", λ words. Some (reply.Ok, words))
    ∷ (codes "count", count)
    ∷ (codes "slot", slot_read)
    ∷ (codes "bytes", bytes)
    ∷ (codes "lines", lines)
    ∷ (codes "names", read_names)
    ∷ (codes "calls", waited)
    ∷ number_rows

abbrev pub reply_read : FieldReader Reply
reply_read [] = None
reply_read (word ∷ words) = row_of reply_rows word words
