-- The blocks of a capture file, as the format pcapng says. The magic number gives a reader the order of bytes in numbers, which is
-- the lowest first here. Each block begins and ends with its length, and fills whole groups of 4 bytes.
use Rattle.std.specs.Prelude.{ℕ, ◌+◌, ◌-◌, ◌/◌, ◌%◌, ◌^◌, List, [], ◌∷◌, ◌++◌, length, take}
use Rattle.std.specs.Int.{bytes_low_first}

-- the low 16 bits of a number, and the low 32
unfoldable pub short_number : ℕ → List ℕ
short_number n = bytes_low_first 0 2 n

unfoldable pub long_number : ℕ → List ℕ
long_number n = bytes_low_first 0 4 n

-- bytes of 0 from this length to the next multiple of 4
abbrev pub padding : ℕ → List ℕ
padding n = take ((4 - n % 4) % 4) (0 ∷ 0 ∷ 0 ∷ [])

abbrev pub padded : List ℕ → List ℕ
padded bytes = bytes ++ padding (length bytes)

-- its type, its total length, its body, and its total length again
unfoldable pub block : ℕ → List ℕ → List ℕ
block kind body = long_number kind ++ long_number (length body + 12) ++ body ++ long_number (length body + 12)

-- the code of an option, the length of its value without padding, and the value
unfoldable pub option_bytes : ℕ → List ℕ → List ℕ
option_bytes code value = short_number code ++ short_number (length value) ++ padded value

-- the option with code 0 ends the list
abbrev pub options_end : List ℕ
options_end = long_number 0

-- the section header block: the magic number, the version 1.0, and a length that is not given
abbrev pub section_body : List ℕ
section_body = long_number 0x1a2b3c4d ++ short_number 1 ++ short_number 0 ++ long_number 0xffffffff ++ long_number 0xffffffff

unfoldable pub section_block : List ℕ
section_block = block 0x0a0d0d0a section_body

-- the link type 101, which says that each packet begins with its IP header; two bytes of 0; and the greatest length that is kept
abbrev pub interface_start : List ℕ
interface_start = short_number 101 ++ short_number 0 ++ long_number 65535

-- an interface description block: its name, and the unit of times, which is 10^-3 seconds
unfoldable pub interface_body : List ℕ → List ℕ
interface_body name = interface_start ++ option_bytes 2 name ++ option_bytes 9 (3 ∷ []) ++ options_end

unfoldable pub interface_block : List ℕ → List ℕ
interface_block name = block 1 (interface_body name)

-- a packet: the number of its interface, its time, its bytes, and a comment
pub record Shown : Type 0 where
  pub interface : ℕ
  pub moment : ℕ
  pub bytes : List ℕ
  pub comment : List ℕ

-- the high and the low half of a time; how many bytes of the packet are in the file, and how many it had
abbrev pub packet_start : ℕ → ℕ → ℕ → List ℕ
packet_start interface moment count =
    long_number interface ++ long_number (moment / 2 ^ 32) ++ long_number moment ++ long_number count ++ long_number count

-- an enhanced packet block
unfoldable pub packet_body : Shown → List ℕ
packet_body p = packet_start p.interface p.moment (length p.bytes) ++ padded p.bytes ++ option_bytes 1 p.comment ++ options_end

unfoldable pub packet_block : Shown → List ℕ
packet_block p = block 6 (packet_body p)
