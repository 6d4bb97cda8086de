-- A header's fields stand where they are read, and what is read is spelled so.
use Rattle.std.proofs.Common.{◌≡◌, ℕ, ◌+◌, ◌*◌, ◌/◌, ◌%◌, ◌^◌, ◌<◌, ◌≤◌, Bool, true, false, List, ◌∷◌, ◌++◌, length, take, drop, get_or, ◌==◌, slice_index, refl, sym, ap, ◌∙◌, arith}
use Rattle.std.proofs.lemmas.Bool.Decides.{nat_tests}
use Rattle.std.proofs.lemmas.List.{length-drop}
use Rattle.net_base.specs.Bytes.{word_at, blanked}
use Rattle.formats.specs.Sum.{sum_of}
use Rattle.formats.specs.Ipv4.{Ipv4, IsHeader, SpellsIpv4, flags, header_with, flagged_bytes, total_length, fragment, header_sum, header_of, payload_of}
use Rattle.formats.proofs.WireSums.{sum_of-fits}
use Rattle.formats.proofs.WireNumbers.{IsBytes, word_again, long_again, word_high, word_low, long_0, long_1, long_2, long_3, items, by_items}

-- ---- what was spelled is read

-- a header of version 4 without options, of a whole datagram
pub record IsPlain (bytes : List ℕ) : Type 0 where
  pub long : 20 ≤ length bytes
  pub version : slice_index bytes 0 / 16 ≡ 4
  pub words : slice_index bytes 0 % 16 ≡ 5
  pub whole : fragment bytes ≡ 0

pub payload_again : (reserved : Bool) (h : Ipv4) (payload : List ℕ) → payload_of (flagged_bytes reserved h payload) ≡ payload
unfolding flagged_bytes
payload_again reserved h payload = refl

flag_again : (reserved dont_fragment : Bool) → ((256 * (flags reserved dont_fragment / 256 % 256) + flags reserved dont_fragment % 256) / 16384 % 2 == 1) ≡ dont_fragment
flag_again true true = refl
flag_again true false = refl
flag_again false true = refl
flag_again false false = refl

pub header_again : (reserved : Bool) (h : Ipv4) (payload : List ℕ) → IsHeader h → header_of (flagged_bytes reserved h payload) ≡ h
unfolding flagged_bytes
header_again reserved h payload fits =
    rw (word_again h.ident fits.ident, flag_again reserved h.dont_fragment, long_again h.src fits.src, long_again h.dst fits.dst) refl

-- a spelled datagram passes every test of a reader
pub record IsSoundIpv4 (bytes : List ℕ) : Type 0 where
  pub plain : IsPlain bytes
  pub summed : word_at 10 bytes ≡ header_sum bytes
  pub whole : total_length bytes ≡ length bytes

fragment_none : (reserved dont_fragment : Bool) → (256 * (flags reserved dont_fragment / 256 % 256) + flags reserved dont_fragment % 256) % 16384 ≡ 0
fragment_none true true = refl
fragment_none true false = refl
fragment_none false true = refl
fragment_none false false = refl

pub sound_again : (reserved : Bool) (h : Ipv4) (payload : List ℕ) → 20 + length payload < 2 ^ 16 → IsSoundIpv4 (flagged_bytes reserved h payload)
unfolding flagged_bytes
sound_again reserved h payload fits = record {
  plain = record { long = omega arith; version = refl; words = refl; whole = fragment_none reserved h.dont_fragment };
  summed = word_again (sum_of (header_with reserved (20 + length payload) 0 h)) (sum_of-fits (header_with reserved (20 + length payload) 0 h));
  whole = word_again (20 + length payload) fits ∙ omega arith;
}

-- ---- what is read is spelled so

flags_read : (w : ℕ) → w < 65536 → w % 16384 ≡ 0 → flags (w / 32768 == 1) (w / 16384 % 2 == 1) ≡ w
flags_read w h e = grind (arith, nat_tests)

abbrev pub reserved_of : List ℕ → Bool
reserved_of bytes = word_at 6 bytes / 32768 == 1

pub header_read : (bytes : List ℕ) (sum : ℕ) → IsBytes bytes → IsPlain bytes → header_with (reserved_of bytes) (total_length bytes) sum (header_of bytes) ≡ items 0 10 bytes ++ sum / 256 % 256 ∷ sum % 256 ∷ items 12 8 bytes
header_read bytes sum fits plain =
    let b : ℕ → ℕ = λ i. get_or bytes i 0 in
    let first : 69 ≡ get_or bytes 0 0 = omega (arith, plain.version, plain.words) in
    rw (
      flags_read (256 * b 6 + b 7) (omega (arith, fits 6, fits 7)) plain.whole,
      ← first,
      word_high (b 2) (b 3) (fits 2) (fits 3),
      word_low (b 2) (b 3) (fits 3),
      word_high (b 4) (b 5) (fits 4) (fits 5),
      word_low (b 4) (b 5) (fits 5),
      word_high (b 6) (b 7) (fits 6) (fits 7),
      word_low (b 6) (b 7) (fits 7),
      long_0 (b 12) (b 13) (b 14) (b 15) (fits 12) (fits 13) (fits 14) (fits 15),
      long_1 (b 12) (b 13) (b 14) (b 15) (fits 13) (fits 14) (fits 15),
      long_2 (b 12) (b 13) (b 14) (b 15) (fits 14) (fits 15),
      long_3 (b 12) (b 13) (b 14) (b 15) (fits 15),
      long_0 (b 16) (b 17) (b 18) (b 19) (fits 16) (fits 17) (fits 18) (fits 19),
      long_1 (b 16) (b 17) (b 18) (b 19) (fits 17) (fits 18) (fits 19),
      long_2 (b 16) (b 17) (b 18) (b 19) (fits 18) (fits 19),
      long_3 (b 16) (b 17) (b 18) (b 19) (fits 19),
    ) refl

blanked_items : (bytes : List ℕ) → 20 ≤ length bytes → blanked 10 (take 20 bytes) ≡ items 0 10 bytes ++ 0 ∷ 0 ∷ items 12 8 bytes
blanked_items bytes h =
    ap (λ (b : List ℕ). blanked 10 (take 20 b)) (by_items 20 bytes h)

total_read : (bytes : List ℕ) → 20 ≤ length bytes → total_length bytes ≡ length bytes → 20 + length (drop 20 bytes) ≡ total_length bytes
total_read bytes long e = omega (arith, length-drop 20 bytes)

pub spelled_read : (bytes : List ℕ) → IsBytes bytes → IsSoundIpv4 bytes → bytes ≡ flagged_bytes (reserved_of bytes) (header_of bytes) (payload_of bytes)
unfolding flagged_bytes
spelled_read bytes fits sound =
    let b : ℕ → ℕ = λ i. get_or bytes i 0 in
    let total = total_read bytes sound.plain.long sound.whole in
    let zeroed : header_with (reserved_of bytes) (total_length bytes) 0 (header_of bytes) ≡ blanked 10 (take 20 bytes) =
    header_read bytes 0 fits sound.plain ∙ sym (blanked_items bytes sound.plain.long) in
    let sum : sum_of (header_with (reserved_of bytes) (20 + length (drop 20 bytes)) 0 (header_of bytes)) ≡ word_at 10 bytes =
    ap (λ (n : ℕ). sum_of (header_with (reserved_of bytes) n 0 (header_of bytes))) total ∙ ap sum_of zeroed ∙ sym sound.summed in
    let front : items 0 20 bytes ≡ header_with (reserved_of bytes) (total_length bytes) (word_at 10 bytes) (header_of bytes) =
    rw (header_read bytes (word_at 10 bytes) fits sound.plain, word_high (b 10) (b 11) (fits 10) (fits 11), word_low (b 10) (b 11) (fits 11)) refl in
    by_items 20 bytes sound.plain.long
    ∙ ap (λ (x : List ℕ). x ++ drop 20 bytes) (front
    ∙ ap (λ (n : ℕ). header_with (reserved_of bytes) n (word_at 10 bytes) (header_of bytes)) (sym total)
    ∙ ap (λ (n : ℕ). header_with (reserved_of bytes) (20 + length (drop 20 bytes)) n (header_of bytes)) (sym sum))

pub header_fits : (bytes : List ℕ) → IsBytes bytes → IsHeader (header_of bytes)
header_fits bytes fits = record {
  tos = fits 1;
  ident = omega (arith, fits 4, fits 5);
  ttl = fits 8;
  proto = fits 9;
  src = omega (arith, fits 12, fits 13, fits 14, fits 15);
  dst = omega (arith, fits 16, fits 17, fits 18, fits 19);
}

pub spells_ipv4_read : (bytes : List ℕ) → IsBytes bytes → IsSoundIpv4 bytes → SpellsIpv4 (header_of bytes) (payload_of bytes) bytes
spells_ipv4_read bytes fits sound = record {
  header = header_fits bytes fits;
  fits = omega (arith, total_read bytes sound.plain.long sound.whole, fits 2, fits 3);
  reserved = reserved_of bytes;
  spelled = spelled_read bytes fits sound;
}

-- ---- all that a decoder needs of bytes that spell something

pub spells_ipv4_sound : (h : Ipv4) (payload bytes : List ℕ) → SpellsIpv4 h payload bytes → IsSoundIpv4 bytes
spells_ipv4_sound h payload bytes s = rw s.spelled (sound_again s.reserved h payload s.fits)

pub spells_header : (h : Ipv4) (payload bytes : List ℕ) → SpellsIpv4 h payload bytes → header_of bytes ≡ h
spells_header h payload bytes s = ap header_of s.spelled ∙ header_again s.reserved h payload s.header

pub spells_payload : (h : Ipv4) (payload bytes : List ℕ) → SpellsIpv4 h payload bytes → payload_of bytes ≡ payload
spells_payload h payload bytes s = ap payload_of s.spelled ∙ payload_again s.reserved h payload
