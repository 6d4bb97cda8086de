-- An IL message's fields stand where they are read, and what is read is spelled so.
use Rattle.std.proofs.Common.{◌≡◌, ℕ, zero, suc, ◌+◌, ◌*◌, ◌/◌, ◌%◌, ◌^◌, ◌<◌, ◌≤◌, List, ◌∷◌, ◌++◌, length, drop, get_or, refl, sym, ap, ◌∙◌, arith}
use Rattle.std.proofs.lemmas.List.{length-drop}
use Rattle.net_base.specs.declared.il.IlKind.{IlKind}
use Rattle.net_base.specs.declared.il.IlKind.TheVariants as kind
use Rattle.net_base.specs.declared.il.IlMsg.{IlMsg}
use Rattle.net_base.specs.Bytes.{word_at, blanked}
use Rattle.formats.specs.Sum.{sum_of}
use Rattle.formats.specs.IlWire.{IsMessage, SpellsIl, type_number, il_with, il_bytes, il_sum, il_length, il_type_field, kind_of, il_sport, il_dport, message_of}
use Rattle.formats.proofs.WireNumbers.{IsBytes, word_again, long_again, word_high, word_low, long_0, long_1, long_2, long_3, items, by_items}
use Rattle.formats.proofs.WireSums.{sum_of-fits}

-- ---- what was spelled is read

-- a spelled message passes every test of a reader
pub record IsSoundIl (bytes : List ℕ) : Type 0 where
  pub long : 18 ≤ length bytes
  pub summed : word_at 0 bytes ≡ il_sum bytes
  pub whole : il_length bytes ≡ length bytes
  pub known : il_type_field bytes ≤ 6

kind_again : (k : IlKind) → kind_of (type_number k) ≡ k
kind_again kind.Sync = refl
kind_again kind.Data = refl
kind_again kind.DataQuery = refl
kind_again kind.Ack = refl
kind_again kind.Query = refl
kind_again kind.State = refl
kind_again kind.Close = refl

type_known : (k : IlKind) → type_number k ≤ 6
type_known kind.Sync = omega arith
type_known kind.Data = omega arith
type_known kind.DataQuery = omega arith
type_known kind.Ack = omega arith
type_known kind.Query = omega arith
type_known kind.State = omega arith
type_known kind.Close = omega arith

pub sound_again : (sport dport : ℕ) (m : IlMsg) → 18 + length m.text < 2 ^ 16 → IsSoundIl (il_bytes sport dport m)
unfolding il_bytes
sound_again sport dport m fits = record {
  long = omega arith;
  summed = word_again (sum_of (il_with 0 sport dport m)) (sum_of-fits (il_with 0 sport dport m));
  whole = word_again (18 + length m.text) fits ∙ omega arith;
  known = type_known m.kind;
}

pub message_again : (sport dport : ℕ) (m : IlMsg) → IsMessage m → message_of (il_bytes sport dport m) ≡ m
unfolding il_bytes
message_again sport dport m fits =
    rw (kind_again m.kind, long_again m.id fits.id, long_again m.ack fits.ack) refl

pub sport_again : (sport dport : ℕ) (m : IlMsg) → sport < 2 ^ 16 → il_sport (il_bytes sport dport m) ≡ sport
unfolding il_bytes
sport_again sport dport m fits = word_again sport fits

pub dport_again : (sport dport : ℕ) (m : IlMsg) → dport < 2 ^ 16 → il_dport (il_bytes sport dport m) ≡ dport
unfolding il_bytes
dport_again sport dport m fits = word_again dport fits

-- ---- all that a decoder needs of bytes that spell something

pub spells_il_sound : (sport dport : ℕ) (m : IlMsg) (bytes : List ℕ) → SpellsIl sport dport m bytes → IsSoundIl bytes
spells_il_sound sport dport m bytes s = rw s.spelled (sound_again sport dport m s.fits)

pub spells_message : (sport dport : ℕ) (m : IlMsg) (bytes : List ℕ) → SpellsIl sport dport m bytes → message_of bytes ≡ m
spells_message sport dport m bytes s = ap message_of s.spelled ∙ message_again sport dport m s.message

pub spells_sport : (sport dport : ℕ) (m : IlMsg) (bytes : List ℕ) → SpellsIl sport dport m bytes → il_sport bytes ≡ sport
spells_sport sport dport m bytes s = ap il_sport s.spelled ∙ sport_again sport dport m s.sport_fits

pub spells_dport : (sport dport : ℕ) (m : IlMsg) (bytes : List ℕ) → SpellsIl sport dport m bytes → il_dport bytes ≡ dport
spells_dport sport dport m bytes s = ap il_dport s.spelled ∙ dport_again sport dport m s.dport_fits

-- ---- what is read is spelled so

type_read : (n : ℕ) → n ≤ 6 → type_number (kind_of n) ≡ n
type_read zero h = refl
type_read (suc zero) h = refl
type_read (suc (suc zero)) h = refl
type_read (suc (suc (suc zero))) h = refl
type_read (suc (suc (suc (suc zero)))) h = refl
type_read (suc (suc (suc (suc (suc zero))))) h = refl
type_read (suc (suc (suc (suc (suc (suc zero)))))) h = refl
type_read (suc (suc (suc (suc (suc (suc (suc n))))))) h = absurd (omega (arith, h))

-- a message by its fields, whatever the sum field is replaced by
with_read : (bytes : List ℕ) (sum : ℕ) → IsBytes bytes → IsSoundIl bytes → il_with sum (il_sport bytes) (il_dport bytes) (message_of bytes) ≡ sum / 256 % 256 ∷ sum % 256 ∷ (items 2 16 bytes ++ drop 18 bytes)
with_read bytes sum fits sound =
    let b : ℕ → ℕ = λ i. get_or bytes i 0 in
    let total : 18 + length (drop 18 bytes) ≡ 256 * get_or bytes 2 0 + get_or bytes 3 0 = omega (arith, length-drop 18 bytes, sound.whole, sound.long) in
    rw (
      total,
      type_read (b 4) sound.known,
      word_high (b 2) (b 3) (fits 2) (fits 3),
      word_low (b 2) (b 3) (fits 3),
      word_high (b 6) (b 7) (fits 6) (fits 7),
      word_low (b 6) (b 7) (fits 7),
      word_high (b 8) (b 9) (fits 8) (fits 9),
      word_low (b 8) (b 9) (fits 9),
      long_0 (b 10) (b 11) (b 12) (b 13) (fits 10) (fits 11) (fits 12) (fits 13),
      long_1 (b 10) (b 11) (b 12) (b 13) (fits 11) (fits 12) (fits 13),
      long_2 (b 10) (b 11) (b 12) (b 13) (fits 12) (fits 13),
      long_3 (b 10) (b 11) (b 12) (b 13) (fits 13),
      long_0 (b 14) (b 15) (b 16) (b 17) (fits 14) (fits 15) (fits 16) (fits 17),
      long_1 (b 14) (b 15) (b 16) (b 17) (fits 15) (fits 16) (fits 17),
      long_2 (b 14) (b 15) (b 16) (b 17) (fits 16) (fits 17),
      long_3 (b 14) (b 15) (b 16) (b 17) (fits 17),
    ) refl

pub spelled_read : (bytes : List ℕ) → IsBytes bytes → IsSoundIl bytes → bytes ≡ il_bytes (il_sport bytes) (il_dport bytes) (message_of bytes)
unfolding il_bytes
spelled_read bytes fits sound =
    let b : ℕ → ℕ = λ i. get_or bytes i 0 in
    let zeroed : il_with 0 (il_sport bytes) (il_dport bytes) (message_of bytes) ≡ blanked 0 bytes =
    with_read bytes 0 fits sound ∙ ap (λ (rest : List ℕ). 0 ∷ 0 ∷ rest) (sym (ap (drop 2) (by_items 18 bytes sound.long))) in
    let sum : sum_of (il_with 0 (il_sport bytes) (il_dport bytes) (message_of bytes)) ≡ word_at 0 bytes = ap sum_of zeroed ∙ sym sound.summed in
    let whole : items 0 18 bytes ++ drop 18 bytes ≡ il_with (word_at 0 bytes) (il_sport bytes) (il_dport bytes) (message_of bytes) =
    rw (with_read bytes (word_at 0 bytes) fits sound, word_high (b 0) (b 1) (fits 0) (fits 1), word_low (b 0) (b 1) (fits 1)) refl in
    by_items 18 bytes sound.long ∙ whole ∙ ap (λ (s : ℕ). il_with s (il_sport bytes) (il_dport bytes) (message_of bytes)) (sym sum)

pub spells_il_read : (bytes : List ℕ) → IsBytes bytes → IsSoundIl bytes → SpellsIl (il_sport bytes) (il_dport bytes) (message_of bytes) bytes
spells_il_read bytes fits sound = record {
  sport_fits = omega (arith, fits 6, fits 7);
  dport_fits = omega (arith, fits 8, fits 9);
  message = record { spec = fits 5; id = omega (arith, fits 10, fits 11, fits 12, fits 13); ack = omega (arith, fits 14, fits 15, fits 16, fits 17) };
  fits = omega (arith, length-drop 18 bytes, sound.long, sound.whole, fits 2, fits 3);
  spelled = spelled_read bytes fits sound;
}
