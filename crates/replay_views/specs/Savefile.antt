-- A capture file as pcap-savefile(5) says: a header of 24 bytes, then each packet behind a header of 16. The magic number tells
-- a reader the order of bytes in numbers, which is the lowest first here, and that times are in microseconds.
use Rattle.std.specs.Prelude.{ℕ, ◌*◌, ◌/◌, ◌%◌, List, ◌++◌, length, flat_map}
use Rattle.std.specs.Int.{bytes_low_first}

-- a number of 16 bits, and one of 32
abbrev pub short : ℕ → List ℕ
short n = bytes_low_first 0 2 n

abbrev pub long_field : ℕ → List ℕ
long_field n = bytes_low_first 0 4 n

-- a packet, and when it was seen: the seconds since 1970 began, which is moment 0 here, and the microseconds after them
pub record Seen : Type 0 where
  pub seconds : ℕ
  pub microseconds : ℕ
  pub bytes : List ℕ

-- seen at a moment, in ms
abbrev pub seen_at_moment : ℕ → List ℕ → Seen
seen_at_moment moment bytes = record { seconds = moment / 1000; microseconds = moment % 1000 * 1000; bytes = bytes }

-- the magic number, the version 2.4, two numbers that are 0, the greatest length of a packet that is kept, and the link type:
-- 101 says that each packet begins with its IP header
abbrev pub file_header : List ℕ
file_header =
    long_field 0xa1b2c3d4 ++ (short 2 ++ (short 4 ++ (long_field 0 ++ (long_field 0 ++ (long_field 65535 ++ long_field 101)))))

-- the time, how many bytes of the packet are in the file, and how many it had
abbrev pub record_header : ℕ → ℕ → ℕ → List ℕ
record_header seconds microseconds count =
    long_field seconds ++ (long_field microseconds ++ (long_field count ++ long_field count))

abbrev pub packet_record : Seen → List ℕ
packet_record p = record_header p.seconds p.microseconds (length p.bytes) ++ p.bytes

-- the file of these packets
abbrev pub savefile : List Seen → List ℕ
savefile packets = file_header ++ flat_map packet_record packets
