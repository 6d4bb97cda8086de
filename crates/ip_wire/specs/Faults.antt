-- How far bytes look like a datagram: each step is what the fault after it presumes.
use Rattle.std.specs.Prelude.{◌≡◌, ◌≤◌, ◌⊎◌, List, length, ℕ}
use Rattle.net_base.specs.Bytes.{word_at}
use Rattle.formats.specs.Ipv4.{version, length_words, fragment, header_sum}
use Rattle.formats.specs.UdpWire.{sum_field, received_sum}

-- there are bytes enough for a header
abbrev pub HasIpHeader : List ℕ → Type 0
HasIpHeader bytes = 20 ≤ length bytes

-- .. of version 4
abbrev pub IsVersion4 : List ℕ → Type 0
IsVersion4 bytes = HasIpHeader bytes × (version bytes ≡ 4)

-- .. without options
abbrev pub HasNoOptions : List ℕ → Type 0
HasNoOptions bytes = IsVersion4 bytes × (length_words bytes ≡ 5)

-- .. of a whole datagram
abbrev pub IsNoFragment : List ℕ → Type 0
IsNoFragment bytes = HasNoOptions bytes × (fragment bytes ≡ 0)

-- .. with the right sum
abbrev pub HasHeaderSum : List ℕ → Type 0
HasHeaderSum bytes = IsNoFragment bytes × (word_at 10 bytes ≡ header_sum bytes)

-- there are bytes enough for a UDP header
abbrev pub HasUdpHeader : List ℕ → Type 0
HasUdpHeader bytes = 8 ≤ length bytes

-- .. with no sum, or the right one between these addresses
abbrev pub HasUdpSum : ℕ → ℕ → List ℕ → Type 0
HasUdpSum src dst bytes = HasUdpHeader bytes × ((sum_field bytes ≡ 0) ⊎ (sum_field bytes ≡ received_sum src dst bytes))
