-- A UDP datagram (RFC 768): a header of eight bytes, then the text.
use Rattle.std.specs.Prelude.{◌≡◌, ◌<◌, ℕ, ◌+◌, ◌^◌, ◌⊎◌, List, ◌∷◌, ◌++◌, length, drop, ◌==◌, if◌then◌else◌}
use Rattle.std.specs.Int.{bytes_high_first}
use Rattle.net_base.specs.declared.address.Addr.{Addr}
use Rattle.net_base.specs.Bytes.{word_at, blanked}
use Rattle.formats.specs.Sum.{sum_of}

-- an IPv4 address with a port
abbrev pub address : ℕ → ℕ → Addr
address ip port = record { ip = ip; port = port }

-- what the sum covers ahead of the datagram: both addresses, zero, the protocol and the length
abbrev pub pseudo_header : ℕ → ℕ → ℕ → List ℕ
pseudo_header src dst count =
    bytes_high_first 4 src ++ (bytes_high_first 4 dst ++ 0 ∷ 17 ∷ bytes_high_first 2 count)

-- the sum as it is sent: a computed 0 as FFFF, since 0 says that there is no sum
abbrev pub sent_sum : ℕ → ℕ
sent_sum computed = if computed == 0 then 65535 else computed

-- ---- spelling

-- a datagram with this in its sum field
abbrev pub udp_with : ℕ → ℕ → ℕ → List ℕ → List ℕ
udp_with sum sport dport text =
    bytes_high_first 2 sport ++ (bytes_high_first 2 dport
    ++ (bytes_high_first 2 (8 + length text)
    ++ (bytes_high_first 2 sum ++ text)))

-- the sum of a datagram, which covers the pseudo header, the header with a zero in the sum field, and the text
abbrev pub udp_sum : Addr → Addr → List ℕ → ℕ
udp_sum src dst text =
    sent_sum (sum_of (pseudo_header src.ip dst.ip (8 + length text) ++ udp_with 0 src.port dst.port text))

-- the datagram, as it is sent
unfoldable pub udp_bytes : Addr → Addr → List ℕ → List ℕ
udp_bytes src dst text = udp_with (udp_sum src dst text) src.port dst.port text

-- the datagram without a sum
unfoldable pub unsummed_bytes : Addr → Addr → List ℕ → List ℕ
unsummed_bytes src dst text = udp_with 0 src.port dst.port text

-- these bytes spell the text between the ports of these addresses, with or without a sum
pub record SpellsUdp (src dst : Addr) (text bytes : List ℕ) : Type 0 where
  pub sport : src.port < 2 ^ 16
  pub dport : dst.port < 2 ^ 16
  pub fits : 8 + length text < 2 ^ 16
  pub spelled : (bytes ≡ udp_bytes src dst text) ⊎ (bytes ≡ unsummed_bytes src dst text)

-- ---- reading

abbrev pub sport_of : List ℕ → ℕ
sport_of bytes = word_at 0 bytes

abbrev pub dport_of : List ℕ → ℕ
dport_of bytes = word_at 2 bytes

-- the number of bytes that the header tells
abbrev pub udp_length : List ℕ → ℕ
udp_length bytes = word_at 4 bytes

abbrev pub sum_field : List ℕ → ℕ
sum_field bytes = word_at 6 bytes

-- what a sum field other than 0 has to be, between these addresses
abbrev pub received_sum : ℕ → ℕ → List ℕ → ℕ
received_sum src dst bytes =
    sent_sum (sum_of (pseudo_header src dst (udp_length bytes) ++ blanked 6 bytes))

-- the bytes after the header
abbrev pub udp_text : List ℕ → List ℕ
udp_text bytes = drop 8 bytes
