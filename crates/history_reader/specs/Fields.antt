-- Fields: what the first words of a line are read as, and the words behind them.
use Rattle.std.specs.Prelude.{ℕ, List, [], ◌∷◌, Option, Some, None, option_map, codes, bytes_eq, if◌then◌else◌}
use Rattle.net_base.specs.declared.actor.ActorName.{ActorName}
use Rattle.net_base.specs.declared.actor.ActorName.TheVariants as name
use Rattle.net_base.specs.declared.address.Addr.{Addr}
use Rattle.net_base.specs.declared.address.Proto.{Proto}
use Rattle.net_base.specs.declared.il.Cause.{Cause}
use Rattle.net_base.specs.declared.il.Cause.TheVariants as cause
use Rattle.net_base.specs.declared.il.IlKind.{IlKind}
use Rattle.net_base.specs.declared.il.IlKind.TheVariants as kind
use Rattle.net_base.specs.declared.il.StateName.{StateName}
use Rattle.net_base.specs.declared.il.StateName.TheVariants as state
use Rattle.net_base.specs.declared.names.FileName.{FileName}
use Rattle.net_base.specs.declared.names.Mode.{Mode}
use Rattle.net_base.specs.Addresses.{address_in, number_in, parts_at}
pub use Rattle.net_base.specs.Hexadecimal.{hex_text}
use Rattle.net_base.specs.Paths.{file_named, mode_named, proto_named}

-- Readers.

abbrev pub Words : Type 0
Words = List (List ℕ)

-- what was read, and the words behind it
abbrev pub Read : Type 0 → Type 0
Read X = Option (X × Words)

-- how words are read
abbrev pub FieldReader : Type 0 → Type 0
FieldReader X = Words → Read X

abbrev pub with_rest : {X : Type 0} → Option X → Words → Read X
with_rest None words = None
with_rest (Some x) words = Some (x, words)

-- one word
abbrev pub one : {X : Type 0} → (List ℕ → Option X) → FieldReader X
one read [] = None
one read (word ∷ words) = with_rest (read word) words

-- what is read, where something was read before
abbrev pub behind : {X Y : Type 0} → Read X → (X → Words → Option Y) → Option Y
behind None go = None
behind (Some read) go = go read.0 read.1

-- one after the other
abbrev pub both_fields : {X Y : Type 0} → FieldReader X → FieldReader Y → FieldReader (X × Y)
both_fields first second words = behind (first words) (λ x rest. behind (second rest) (λ y last. Some ((x, y), last)))

-- what is made of what is read
abbrev pub read_as : {X Y : Type 0} → FieldReader X → (X → Y) → FieldReader Y
read_as fields make words = behind (fields words) (λ x rest. Some (make x, rest))

-- what is read, where no word is left
abbrev pub whole : {X : Type 0} → Read X → Option X
whole None = None
whole (Some (x, [])) = Some x
whole (Some (x, word ∷ words)) = None

-- the reader of the row with this word
abbrev pub row_of : {X : Type 0} → List (List ℕ × FieldReader X) → List ℕ → FieldReader X
row_of [] word words = None
row_of (row ∷ rows) word words = if bytes_eq word row.0 then row.1 words else row_of rows word words

-- the value of the row with this word
abbrev pub row_named : {X : Type 0} → List (List ℕ × X) → List ℕ → Option X
row_named [] word = None
row_named (row ∷ rows) word = if bytes_eq word row.0 then Some row.1 else row_named rows word

-- Numbers.

abbrev pub long : FieldReader ℕ
long = one (number_in 0 18446744073709551615)

abbrev pub narrow : FieldReader ℕ
narrow = one (number_in 0 4294967295)

abbrev pub port : FieldReader ℕ
port = one (number_in 0 65535)

abbrev pub octet : FieldReader ℕ
octet = one (number_in 0 255)

-- a word that may be a mark in place of a value
abbrev pub read_marked : List ℕ → (List ℕ → Option ℕ) → List ℕ → Option (Option ℕ)
read_marked mark read word = if bytes_eq word mark then Some None else option_map (λ (n : ℕ). Some n) (read word)

abbrev pub long_or_dash : FieldReader (Option ℕ)
long_or_dash = one (read_marked (codes "-") (number_in 0 18446744073709551615))

abbrev pub narrow_or_dash : FieldReader (Option ℕ)
narrow_or_dash = one (read_marked (codes "-") (number_in 0 4294967295))

abbrev pub port_or_dash : FieldReader (Option ℕ)
port_or_dash = one (read_marked (codes "-") (number_in 0 65535))

abbrev pub port_or_star : FieldReader (Option ℕ)
port_or_star = one (read_marked (codes "*") (number_in 0 65535))

-- Addresses.

abbrev pub read_ip_or_star : FieldReader (Option ℕ)
read_ip_or_star = one (read_marked (codes "*") address_in)

abbrev pub to_place : ℕ × ℕ → Addr
to_place a = record { ip = a.0; port = a.1 }

-- an address and its port
abbrev pub field_place : List ℕ → Option Addr
field_place word = whole (read_as (both_fields (one address_in) port) to_place (parts_at 33 word))

abbrev pub read_place : FieldReader Addr
read_place = one field_place

-- Names.

-- the name of a protocol
abbrev pub proto : FieldReader Proto
proto = one proto_named

abbrev pub file : FieldReader FileName
file = one file_named

abbrev pub mode_of : FieldReader Mode
mode_of = one mode_named

abbrev pub kind_names : List (List ℕ × IlKind)
kind_names = (codes "sync", kind.Sync) ∷ (codes "data", kind.Data) ∷ (codes "dataquery", kind.DataQuery) ∷ (codes "ack", kind.Ack) ∷ (codes "query", kind.Query) ∷ (codes "state", kind.State) ∷ (codes "close", kind.Close) ∷ []

abbrev pub kind_in : List ℕ → Option IlKind
kind_in = row_named kind_names

abbrev pub kind_read : FieldReader IlKind
kind_read = one kind_in

-- the states of a conversation's end
abbrev pub end_state_names : List (List ℕ × StateName)
end_state_names = (codes "Syncer", state.Syncer) ∷ (codes "Syncee", state.Syncee) ∷ (codes "Established", state.Established) ∷ (codes "Listening", state.Listening) ∷ (codes "Closing", state.Closing) ∷ (codes "Open", state.Open) ∷ []

abbrev pub end_state_in : List ℕ → Option StateName
end_state_in = row_named end_state_names

abbrev pub state_names : List (List ℕ × StateName)
state_names = (codes "Free", state.Free) ∷ (codes "Reserved", state.Reserved) ∷ (codes "Announced", state.Announced) ∷ (codes "Granted", state.Granted) ∷ (codes "Withdrawn", state.Withdrawn) ∷ (codes "Closed", state.Closed) ∷ end_state_names

abbrev pub state_in : List ℕ → Option StateName
state_in = row_named state_names

abbrev pub state_read : FieldReader StateName
state_read = one state_in

abbrev pub cause_names : List (List ℕ × Cause)
cause_names = (codes "1", cause.Refused) ∷ (codes "2", cause.TimedOut) ∷ (codes "3", cause.Hungup) ∷ (codes "4", cause.ByPeer) ∷ []

abbrev pub cause_in : List ℕ → Option Cause
cause_in = row_named cause_names

abbrev pub read_cause : FieldReader Cause
read_cause = one cause_in

-- a name: any word that isn't empty
abbrev pub field_name : List ℕ → Option (List ℕ)
field_name [] = None
field_name (b ∷ word) = Some (b ∷ word)

abbrev pub read_called : FieldReader (List ℕ)
read_called = one field_name

-- Actors.

abbrev pub to_dir : ℕ × Proto → ActorName
to_dir a = name.Dir a.0 a.1

abbrev pub to_conv : ℕ × (Proto × ℕ) → ActorName
to_conv a = name.Conv a.0 a.1.0 a.1.1

abbrev pub actor_rows : List (List ℕ × FieldReader ActorName)
actor_rows =
    (codes "desk", read_as narrow (λ h. name.Desk h))
    ∷ (codes "dir", read_as (both_fields narrow proto) to_dir)
    ∷ (codes "conv", read_as (both_fields narrow (both_fields proto narrow)) to_conv)
    ∷ (codes "medium", read_as narrow (λ m. name.Medium m))
    ∷ (codes "clock", λ words. Some (name.Clock, words))
    ∷ []

-- an actor by its words between dots
abbrev pub actor_words : FieldReader ActorName
actor_words [] = None
actor_words (word ∷ words) = row_of actor_rows word words

abbrev pub actor_in : List ℕ → Option ActorName
actor_in word = whole (actor_words (parts_at 46 word))

abbrev pub actor : FieldReader ActorName
actor = one actor_in

-- Texts.

abbrev pub text : FieldReader (List ℕ)
text = one hex_text

-- texts with a newline after each, cut before these newlines
abbrev pub cut_texts : List (List ℕ) → Option (List (List ℕ))
cut_texts [] = None
cut_texts ([] ∷ []) = Some []
cut_texts ((b ∷ last) ∷ []) = None
cut_texts (text ∷ next ∷ texts) = option_map (λ (ts : List (List ℕ)). text ∷ ts) (cut_texts (next ∷ texts))

abbrev pub texts_in : Option (List ℕ) → Option (List (List ℕ))
texts_in None = None
texts_in (Some bytes) = cut_texts (parts_at 10 bytes)

abbrev pub texts : FieldReader (List (List ℕ))
texts = one (λ word. texts_in (hex_text word))
