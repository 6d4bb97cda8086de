-- An IPv4 datagram without options (RFC 791): a header of twenty bytes, then the payload.
use Rattle.std.specs.Prelude.{◌≡◌, ◌<◌, ℕ, ◌+◌, ◌/◌, ◌%◌, ◌^◌, Bool, false, List, ◌∷◌, ◌++◌, length, take, drop, slice_index, ◌==◌, if◌then◌else◌}
use Rattle.std.specs.Int.{bytes_high_first}
use Rattle.net_base.specs.Bytes.{word_at, long_at, blanked}
use Rattle.formats.specs.Sum.{sum_of}

-- what a header says, besides lengths and the sum
pub record Ipv4 : Type 0 where
  pub tos : ℕ
  pub ident : ℕ
  pub dont_fragment : Bool
  pub ttl : ℕ
  pub proto : ℕ
  pub src : ℕ
  pub dst : ℕ

-- a header whose numbers fit their fields
pub record IsHeader (h : Ipv4) : Type 0 where
  pub tos : h.tos < 2 ^ 8
  pub ident : h.ident < 2 ^ 16
  pub ttl : h.ttl < 2 ^ 8
  pub proto : h.proto < 2 ^ 8
  pub src : h.src < 2 ^ 32
  pub dst : h.dst < 2 ^ 32

-- ---- spelling

-- the 16 bits of flags and offset, of which a whole datagram has at most the first two set
abbrev pub flags : Bool → Bool → ℕ
flags reserved dont_fragment = (if reserved then 32768 else 0) + (if dont_fragment then 16384 else 0)

-- a header with these in its reserved flag, its total length and its sum field
abbrev pub header_with : Bool → ℕ → ℕ → Ipv4 → List ℕ
header_with reserved total sum h =
    0x45 ∷ h.tos ∷ (bytes_high_first 2 total
    ++ (bytes_high_first 2 h.ident
    ++ (bytes_high_first 2 (flags reserved h.dont_fragment)
    ++ h.ttl ∷ h.proto ∷ (bytes_high_first 2 sum
    ++ (bytes_high_first 4 h.src
    ++ bytes_high_first 4 h.dst)))))

-- a header with its sum, which covers the header with a zero in the sum field
abbrev pub summed : Bool → ℕ → Ipv4 → List ℕ
summed reserved total h = header_with reserved total (sum_of (header_with reserved total 0 h)) h

-- the datagram with this in its reserved flag
unfoldable pub flagged_bytes : Bool → Ipv4 → List ℕ → List ℕ
flagged_bytes reserved h payload = summed reserved (20 + length payload) h ++ payload

-- the datagram, as it is sent
abbrev pub ipv4_bytes : Ipv4 → List ℕ → List ℕ
ipv4_bytes h payload = flagged_bytes false h payload

-- these bytes spell the header and the payload, whatever the reserved flag is
pub record SpellsIpv4 (h : Ipv4) (payload bytes : List ℕ) : Type 0 where
  pub header : IsHeader h
  pub fits : 20 + length payload < 2 ^ 16
  pub reserved : Bool
  pub spelled : bytes ≡ flagged_bytes reserved h payload

-- ---- reading

abbrev pub version : List ℕ → ℕ
version bytes = slice_index bytes 0 / 16

-- the length of the header, in words of 32 bits
abbrev pub length_words : List ℕ → ℕ
length_words bytes = slice_index bytes 0 % 16

abbrev pub total_length : List ℕ → ℕ
total_length bytes = word_at 2 bytes

-- the more-fragments flag and the offset, of which a whole datagram has none
abbrev pub fragment : List ℕ → ℕ
fragment bytes = word_at 6 bytes % 16384

-- what the sum field has to be
abbrev pub header_sum : List ℕ → ℕ
header_sum bytes = sum_of (blanked 10 (take 20 bytes))

-- the header in the first twenty bytes
abbrev pub header_of : List ℕ → Ipv4
header_of bytes = record {
  tos = slice_index bytes 1;
  ident = word_at 4 bytes;
  dont_fragment = word_at 6 bytes / 16384 % 2 == 1;
  ttl = slice_index bytes 8;
  proto = slice_index bytes 9;
  src = long_at 12 bytes;
  dst = long_at 16 bytes;
}

-- the bytes after the header
abbrev pub payload_of : List ℕ → List ℕ
payload_of bytes = drop 20 bytes
