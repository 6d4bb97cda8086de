-- Events as they are read: the reader of each row, by its first word.
use Rattle.std.specs.Prelude.{ℕ, List, [], ◌∷◌, Option, Some, None, codes}
use Rattle.net_base.specs.declared.address.Addr.{Addr}
use Rattle.net_base.specs.declared.event.Event.{Event}
use Rattle.net_base.specs.declared.event.Event.TheVariants as event
use Rattle.net_base.specs.declared.names.FileName.{FileName}
use Rattle.history_reader.specs.Fields.{Read, FieldReader, both_fields, read_called, file, read_ip_or_star, long, read_as, mode_of, narrow, narrow_or_dash, octet, read_place, port, port_or_dash, port_or_star, row_of, text}

-- this, or else that
abbrev pub otherwise : {X : Type 0} → Read X → Read X → Read X
otherwise (Some read) other = Some read
otherwise None other = other

-- Rows with several fields.

abbrev pub to_grant : ℕ × (ℕ × (Addr × Option ℕ)) → Event
to_grant f = event.Grant f.0 f.1.0 f.1.1.0 f.1.1.1

abbrev pub to_announce : ℕ × (ℕ × (Option ℕ × Option ℕ)) → Event
to_announce f = event.Announce f.0 f.1.0 f.1.1.0 f.1.1.1

abbrev pub to_bind : ℕ × (ℕ × ℕ) → Event
to_bind f = event.Bind f.0 f.1.0 f.1.1

abbrev pub to_file : ℕ × (FileName × ℕ) → Event
to_file f = event.File f.0 f.1.0 f.1.1

-- Rows.

abbrev pub other_rows : List (List ℕ × FieldReader Event)
other_rows =
    (codes "reserve", λ words. Some (event.Reserve, words))
    ∷ (codes "take", λ words. Some (event.Take, words))
    ∷ (codes "put", read_as narrow_or_dash (λ to. event.Put to))
    ∷ (codes "move", read_as long (λ m. event.Move m))
    ∷ (codes "until", read_as long (λ m. event.Until m))
    ∷ (codes "refresh", λ words. Some (event.Refresh, words))
    ∷ []

-- those that name a slot, and those behind them
abbrev pub slot_rows : List (List ℕ × FieldReader Event)
slot_rows =
    (codes "grant", read_as (both_fields narrow (both_fields long (both_fields read_place port_or_dash))) to_grant)
    ∷ (codes "announce", read_as (both_fields narrow (both_fields long (both_fields read_ip_or_star port_or_star))) to_announce)
    ∷ (codes "bind", read_as (both_fields narrow (both_fields long port)) to_bind)
    ∷ (codes "listen", read_as narrow (λ n. event.Listen n))
    ∷ (codes "withdraw", read_as (both_fields narrow long) (λ f. event.Withdraw f.0 f.1))
    ∷ (codes "release", read_as (both_fields narrow long) (λ f. event.Release f.0 f.1))
    ∷ (codes "file", read_as (both_fields long (both_fields file narrow)) to_file)
    ∷ other_rows

-- an `arrive` with a generation is a conversation's, one without a directory's
abbrev pub arrive : FieldReader Event
arrive words = otherwise (read_as long (λ g. event.ArriveAt g) words) (Some (event.Arrive, words))

abbrev pub end_rows : List (List ℕ × FieldReader Event)
end_rows =
    (codes "hangup", read_as long (λ g. event.Hangup g))
    ∷ (codes "close", read_as long (λ g. event.Close g))
    ∷ (codes "tick", read_as long (λ g. event.Tick g))
    ∷ (codes "arrive", arrive)
    ∷ (codes "read", read_as (both_fields long narrow) (λ f. event.Read f.0 f.1))
    ∷ (codes "ttl", read_as (both_fields long octet) (λ f. event.Ttl f.0 f.1))
    ∷ (codes "tos", read_as (both_fields long octet) (λ f. event.Tos f.0 f.1))
    ∷ slot_rows

abbrev pub generation_rows : List (List ℕ × FieldReader Event)
generation_rows =
    (codes "begin", read_as long (λ g. event.Begin g))
    ∷ (codes "born", read_as long (λ g. event.Born g))
    ∷ (codes "claim", read_as long (λ g. event.Claim g))
    ∷ (codes "connect", read_as long (λ g. event.Connect g))
    ∷ (codes "announced", read_as long (λ g. event.Announced g))
    ∷ (codes "bound", read_as long (λ g. event.Bound g))
    ∷ (codes "await", read_as long (λ g. event.Await g))
    ∷ end_rows

-- an `ls` with a path is the desk's
abbrev pub ls_read : FieldReader Event
ls_read words = otherwise (read_as text (λ path. event.LsPath path) words) (Some (event.Ls, words))

-- an `open` of a file's name is a conversation's
abbrev pub open_file : FieldReader Event
open_file = read_as (both_fields file mode_of) (λ f. event.Open f.0 f.1)

abbrev pub open_path : FieldReader Event
open_path = read_as (both_fields text mode_of) (λ f. event.OpenPath f.0 f.1)

abbrev pub read_opening : FieldReader Event
read_opening words = otherwise (open_file words) (open_path words)

abbrev pub cs : FieldReader Event
cs = read_as text (λ query. event.Cs query)

abbrev pub use_of : FieldReader Event
use_of = read_as read_called (λ n. event.Use n)

abbrev pub read_misuse : FieldReader Event
read_misuse = read_as read_called (λ n. event.Misuse n)

abbrev pub write_read : FieldReader Event
write_read = read_as (both_fields long text) (λ f. event.Write f.0 f.1)

abbrev pub ctl : FieldReader Event
ctl = read_as (both_fields long text) (λ f. event.Ctl f.0 f.1)

-- those with texts, and all others
abbrev pub event_rows : List (List ℕ × FieldReader Event)
event_rows =
    (codes "cs", cs)
    ∷ (codes "ls", ls_read)
    ∷ (codes "open", read_opening)
    ∷ (codes "use", use_of)
    ∷ (codes "misuse", read_misuse)
    ∷ (codes "write", write_read)
    ∷ (codes "ctl", ctl)
    ∷ generation_rows

abbrev pub event_of : FieldReader Event
event_of [] = None
event_of (word ∷ words) = row_of event_rows word words
