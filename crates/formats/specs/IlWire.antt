-- An IL message as bytes: a header of eighteen, then the text.
use Rattle.std.specs.Prelude.{◌≡◌, ◌<◌, ℕ, ◌+◌, ◌^◌, List, ◌∷◌, ◌++◌, length, drop, slice_index, ◌==◌, if◌then◌else◌}
use Rattle.std.specs.Int.{bytes_high_first}
use Rattle.net_base.specs.declared.il.IlKind.{IlKind}
use Rattle.net_base.specs.declared.il.IlKind.TheVariants as kind
use Rattle.net_base.specs.declared.il.IlMsg.{IlMsg}
use Rattle.net_base.specs.Bytes.{word_at, long_at, blanked}
use Rattle.formats.specs.Sum.{sum_of}

-- a message's type as a number
abbrev pub type_number : IlKind → ℕ
type_number kind.Sync = 0
type_number kind.Data = 1
type_number kind.DataQuery = 2
type_number kind.Ack = 3
type_number kind.Query = 4
type_number kind.State = 5
type_number kind.Close = 6

-- ---- spelling

-- a message with this in its sum field
abbrev pub il_with : ℕ → ℕ → ℕ → IlMsg → List ℕ
il_with sum sport dport m =
    bytes_high_first 2 sum ++ (bytes_high_first 2 (18 + length m.text)
    ++ type_number m.kind ∷ m.spec ∷ (bytes_high_first 2 sport
    ++ (bytes_high_first 2 dport
    ++ (bytes_high_first 4 m.id
    ++ (bytes_high_first 4 m.ack
    ++ m.text)))))

-- a message with its sum, which covers header and text with a zero in the sum field
unfoldable pub il_bytes : ℕ → ℕ → IlMsg → List ℕ
il_bytes sport dport m = il_with (sum_of (il_with 0 sport dport m)) sport dport m

-- a message whose numbers fit their fields
pub record IsMessage (m : IlMsg) : Type 0 where
  pub spec : m.spec < 2 ^ 8
  pub id : m.id < 2 ^ 32
  pub ack : m.ack < 2 ^ 32

-- these bytes spell the message from one port to the other
pub record SpellsIl (sport dport : ℕ) (m : IlMsg) (bytes : List ℕ) : Type 0 where
  pub sport_fits : sport < 2 ^ 16
  pub dport_fits : dport < 2 ^ 16
  pub message : IsMessage m
  pub fits : 18 + length m.text < 2 ^ 16
  pub spelled : bytes ≡ il_bytes sport dport m

-- ---- reading

-- what the sum field has to be
abbrev pub il_sum : List ℕ → ℕ
il_sum bytes = sum_of (blanked 0 bytes)

-- the number of bytes that the header tells
abbrev pub il_length : List ℕ → ℕ
il_length bytes = word_at 2 bytes

abbrev pub il_type_field : List ℕ → ℕ
il_type_field bytes = slice_index bytes 4

-- the type with this number, of those up to six
abbrev pub kind_of : ℕ → IlKind
kind_of n =
    if n == 0 then kind.Sync
    else if n == 1 then kind.Data
    else if n == 2 then kind.DataQuery
    else if n == 3 then kind.Ack
    else if n == 4 then kind.Query
    else if n == 5 then kind.State
    else kind.Close

abbrev pub il_sport : List ℕ → ℕ
il_sport bytes = word_at 6 bytes

abbrev pub il_dport : List ℕ → ℕ
il_dport bytes = word_at 8 bytes

-- the message in bytes of a known type
abbrev pub message_of : List ℕ → IlMsg
message_of bytes = record {
  kind = kind_of (il_type_field bytes);
  spec = slice_index bytes 5;
  id = long_at 10 bytes;
  ack = long_at 14 bytes;
  text = drop 18 bytes;
}
