-- What the words of a line say.
use Rattle.std.proofs.Common.{ℕ, ◌+◌, ◌*◌, ◌==◌, if◌then◌else◌, List, [], ◌∷◌, drop, get_or, Option, Some, None, bytes_eq, codes}
use Rattle.net_base.specs.declared.actor.ActorName.{ActorName}
use Rattle.net_base.specs.declared.actor.ActorName.TheVariants as name
use Rattle.net_base.specs.declared.address.Addr.{Addr}
use Rattle.net_base.specs.declared.address.Proto.{Proto}
use Rattle.net_base.specs.declared.address.Proto.TheVariants as proto
use Rattle.net_base.specs.declared.il.Cause.{Cause}
use Rattle.net_base.specs.declared.il.Cause.TheVariants as cause
use Rattle.net_base.specs.declared.il.IlKind.{IlKind}
use Rattle.net_base.specs.declared.il.IlKind.TheVariants as kind
use Rattle.net_base.specs.declared.il.StateName.{StateName}
use Rattle.net_base.specs.declared.il.StateName.TheVariants as state
use Rattle.net_base.specs.declared.names.FileName.{FileName}
use Rattle.net_base.specs.declared.names.FileName.TheVariants as file
use Rattle.net_base.specs.declared.names.Mode.{Mode}
use Rattle.net_base.specs.declared.names.Mode.TheVariants as mode
use Rattle.transcript.proofs.Numbers.{take_number, number, numbers, starts_digit}

-- A word.

abbrev pub Word : Type 0
Word = List ℕ

-- the word in this place
abbrev pub at : List Word → ℕ → Word
at words k = get_or words k []

-- the first with this word, or else the given one
abbrev pub chosen : {X : Type 0} → X → List (Word × X) → Word → X
chosen none [] word = none
chosen none (row ∷ rows) word = if bytes_eq word row.0 then row.1 else chosen none rows word

-- Words of one kind.

abbrev pub read_mode : Word → Mode
read_mode = chosen mode.Read ((codes "w", mode.Write) ∷ (codes "rw", mode.Both) ∷ [])

abbrev pub read_file : Word → FileName
read_file =
    chosen file.Ctl (
    (codes "data", file.Data)
    ∷ (codes "err", file.Err)
    ∷ (codes "listen", file.Listen)
    ∷ (codes "local", file.Local)
    ∷ (codes "remote", file.Remote)
    ∷ (codes "status", file.Status)
    ∷ []
    )

abbrev pub read_kind : Word → IlKind
read_kind =
    chosen kind.Sync (
    (codes "data", kind.Data)
    ∷ (codes "dataquery", kind.DataQuery)
    ∷ (codes "ack", kind.Ack)
    ∷ (codes "query", kind.Query)
    ∷ (codes "state", kind.State)
    ∷ (codes "close", kind.Close)
    ∷ []
    )

abbrev pub read_state : Word → StateName
read_state =
    chosen state.Free (
    (codes "Reserved", state.Reserved)
    ∷ (codes "Announced", state.Announced)
    ∷ (codes "Granted", state.Granted)
    ∷ (codes "Withdrawn", state.Withdrawn)
    ∷ (codes "Closed", state.Closed)
    ∷ (codes "Syncer", state.Syncer)
    ∷ (codes "Syncee", state.Syncee)
    ∷ (codes "Established", state.Established)
    ∷ (codes "Listening", state.Listening)
    ∷ (codes "Closing", state.Closing)
    ∷ (codes "Open", state.Open)
    ∷ []
    )

abbrev pub numbered : ℕ → Cause
numbered n = if n == 1 then cause.Refused else (if n == 2 then cause.TimedOut else (if n == 3 then cause.Hungup else cause.ByPeer))

-- a number, or none where no digit comes first
unfoldable pub read_number : Word → Option ℕ
read_number word = if starts_digit word then Some (number word) else None

-- Addresses.

abbrev pub ip_of : List ℕ → ℕ
ip_of ns = ((get_or ns 0 0 * 256 + get_or ns 1 0) * 256 + get_or ns 2 0) * 256 + get_or ns 3 0

unfoldable pub read_ip : Word → Option ℕ
read_ip word = if starts_digit word then Some (ip_of (numbers 4 word)) else None

abbrev pub addr_of : List ℕ → Addr
addr_of ns = record { ip = ip_of ns; port = get_or ns 4 0 }

unfoldable pub read_addr : Word → Addr
read_addr word = addr_of (numbers 5 word)

-- Actors.

-- `il` and `udp` by their first letters
abbrev pub proto_at : List ℕ → Proto
proto_at bytes = if get_or bytes 1 0 == 105 then proto.Il else proto.Udp

abbrev pub slot_at : List ℕ → ℕ
slot_at bytes = if get_or bytes 1 0 == 105 then number (drop 4 bytes) else number (drop 5 bytes)

abbrev pub dir_of : ℕ × List ℕ → ActorName
dir_of read = name.Dir read.0 (proto_at read.1)

abbrev pub conv_of : ℕ × List ℕ → ActorName
conv_of read = name.Conv read.0 (proto_at read.1) (slot_at read.1)

-- by the first two letters
abbrev pub actor_of : ℕ → ℕ → Word → ActorName
actor_of first second word =
    if first == 109
    then name.Medium (number (drop 7 word))
    else (if second == 101
    then name.Desk (number (drop 5 word))
    else (if second == 105
    then dir_of (take_number 0 (drop 4 word))
    else (if second == 111 then conv_of (take_number 0 (drop 5 word)) else name.Clock)))

unfoldable pub read_actor : Word → ActorName
read_actor word = actor_of (get_or word 0 0) (get_or word 1 0) word
