-- A user datagram's fields stand where they are read, and what is read is spelled so.
use Rattle.std.proofs.Common.{◌≡◌, ◌⊎◌, ℕ, ◌+◌, ◌*◌, ◌/◌, ◌%◌, ◌^◌, ◌<◌, ◌≤◌, List, ◌∷◌, ◌++◌, length, take, drop, get_or, refl, sym, ap, ◌∙◌, inl, inr, arith}
use Rattle.std.proofs.lemmas.Bool.Decides.{nat_tests}
use Rattle.std.proofs.lemmas.List.{length-drop}
use Rattle.net_base.specs.declared.address.Addr.{Addr}
use Rattle.net_base.specs.Bytes.{blanked}
use Rattle.formats.specs.Sum.{sum_of}
use Rattle.formats.specs.UdpWire.{SpellsUdp, address, pseudo_header, sent_sum, udp_with, udp_sum, udp_bytes, unsummed_bytes, sport_of, dport_of, udp_length, sum_field, received_sum, udp_text}
use Rattle.formats.proofs.WireNumbers.{IsBytes, word_again, word_high, word_low, items, by_items}
use Rattle.formats.proofs.WireSums.{sum_of-fits}

-- ---- what was spelled is read

-- a spelled datagram passes every test of a reader
pub record IsSoundUdp (src dst : ℕ) (bytes : List ℕ) : Type 0 where
  pub long : 8 ≤ length bytes
  pub summed : (sum_field bytes ≡ 0) ⊎ (sum_field bytes ≡ received_sum src dst bytes)
  pub whole : udp_length bytes ≡ length bytes

pub sent_sum-fits : (bytes : List ℕ) → sent_sum (sum_of bytes) < 2 ^ 16
sent_sum-fits bytes = let fits = sum_of-fits bytes in grind (arith, nat_tests)

whole_again : (sum sport dport : ℕ) (text : List ℕ) → 8 + length text < 2 ^ 16 → udp_length (udp_with sum sport dport text) ≡ length (udp_with sum sport dport text)
whole_again sum sport dport text fits = word_again (8 + length text) fits ∙ omega arith

unsummed_sound : (src dst : Addr) (text : List ℕ) → 8 + length text < 2 ^ 16 → IsSoundUdp src.ip dst.ip (unsummed_bytes src dst text)
unfolding unsummed_bytes
unsummed_sound src dst text fits = record {
  long = omega arith;
  summed = inl refl;
  whole = whole_again 0 src.port dst.port text fits;
}

summed_again : (src dst : Addr) (text : List ℕ) → 8 + length text < 2 ^ 16 → sum_field (udp_bytes src dst text) ≡ received_sum src.ip dst.ip (udp_bytes src dst text)
unfolding udp_bytes
summed_again src dst text fits =
    word_again (udp_sum src dst text) (sent_sum-fits (pseudo_header src.ip dst.ip (8 + length text) ++ udp_with 0 src.port dst.port text))
    ∙ ap (λ (n : ℕ). sent_sum (sum_of (pseudo_header src.ip dst.ip n ++ udp_with 0 src.port dst.port text))) (sym (word_again (8 + length text) fits))

pub summed_sound : (src dst : Addr) (text : List ℕ) → 8 + length text < 2 ^ 16 → IsSoundUdp src.ip dst.ip (udp_bytes src dst text)
unfolding udp_bytes
summed_sound src dst text fits = record {
  long = omega arith;
  summed = inr (summed_again src dst text fits);
  whole = whole_again (udp_sum src dst text) src.port dst.port text fits;
}

sound_either : (src dst : Addr) (text bytes : List ℕ) → 8 + length text < 2 ^ 16 → (bytes ≡ udp_bytes src dst text) ⊎ (bytes ≡ unsummed_bytes src dst text) → IsSoundUdp src.ip dst.ip bytes
sound_either src dst text bytes fits (inl e) = rw e (summed_sound src dst text fits)
sound_either src dst text bytes fits (inr e) = rw e (unsummed_sound src dst text fits)

pub spells_udp_sound : (src dst : Addr) (text bytes : List ℕ) → SpellsUdp src dst text bytes → IsSoundUdp src.ip dst.ip bytes
spells_udp_sound src dst text bytes s = sound_either src dst text bytes s.fits s.spelled

abbrev HasFields : Addr → Addr → List ℕ → List ℕ → Type 0
HasFields src dst text bytes = (sport_of bytes ≡ src.port) × (dport_of bytes ≡ dst.port) × (udp_text bytes ≡ text)

fields_either : (src dst : Addr) (text bytes : List ℕ) → src.port < 2 ^ 16 → dst.port < 2 ^ 16 → (bytes ≡ udp_bytes src dst text) ⊎ (bytes ≡ unsummed_bytes src dst text) → HasFields src dst text bytes
unfolding udp_bytes unsummed_bytes
fields_either src dst text bytes p q (inl e) = rw e (word_again src.port p, word_again dst.port q, refl)
fields_either src dst text bytes p q (inr e) = rw e (word_again src.port p, word_again dst.port q, refl)

pub spells_fields : (src dst : Addr) (text bytes : List ℕ) → SpellsUdp src dst text bytes → HasFields src dst text bytes
spells_fields src dst text bytes s = fields_either src dst text bytes s.sport s.dport s.spelled

-- ---- what is read is spelled so

-- a datagram by its fields, whatever the sum field is replaced by
with_read : (bytes : List ℕ) (sum : ℕ) → IsBytes bytes → 8 ≤ length bytes → udp_length bytes ≡ length bytes → udp_with sum (sport_of bytes) (dport_of bytes) (udp_text bytes) ≡ items 0 6 bytes ++ sum / 256 % 256 ∷ sum % 256 ∷ drop 8 bytes
with_read bytes sum fits long whole =
    let b : ℕ → ℕ = λ i. get_or bytes i 0 in
    let total : 8 + length (drop 8 bytes) ≡ 256 * get_or bytes 4 0 + get_or bytes 5 0 = omega (arith, length-drop 8 bytes, whole) in
    rw (
      total,
      word_high (b 0) (b 1) (fits 0) (fits 1),
      word_low (b 0) (b 1) (fits 1),
      word_high (b 2) (b 3) (fits 2) (fits 3),
      word_low (b 2) (b 3) (fits 3),
      word_high (b 4) (b 5) (fits 4) (fits 5),
      word_low (b 4) (b 5) (fits 5),
    ) refl

itself_read : (bytes : List ℕ) → IsBytes bytes → 8 ≤ length bytes → udp_length bytes ≡ length bytes → bytes ≡ udp_with (sum_field bytes) (sport_of bytes) (dport_of bytes) (udp_text bytes)
itself_read bytes fits long whole =
    let b : ℕ → ℕ = λ i. get_or bytes i 0 in
    let same : items 0 6 bytes ++ sum_field bytes / 256 % 256 ∷ sum_field bytes % 256 ∷ drop 8 bytes ≡ items 0 8 bytes ++ drop 8 bytes =
    rw (word_high (b 6) (b 7) (fits 6) (fits 7), word_low (b 6) (b 7) (fits 7)) refl in
    by_items 8 bytes long ∙ sym same ∙ sym (with_read bytes (sum_field bytes) fits long whole)

blanked_read : (bytes : List ℕ) → IsBytes bytes → 8 ≤ length bytes → udp_length bytes ≡ length bytes → udp_with 0 (sport_of bytes) (dport_of bytes) (udp_text bytes) ≡ blanked 6 bytes
blanked_read bytes fits long whole =
    with_read bytes 0 fits long whole
    ∙ ap (λ (front : List ℕ). front ++ 0 ∷ 0 ∷ drop 8 bytes) (sym (ap (take 6) (by_items 8 bytes long)))

spelled_either : (src dst : ℕ) (bytes : List ℕ) → IsBytes bytes → 8 ≤ length bytes → udp_length bytes ≡ length bytes → (sum_field bytes ≡ 0) ⊎ (sum_field bytes ≡ received_sum src dst bytes)
    → (bytes ≡ udp_bytes (address src (sport_of bytes)) (address dst (dport_of bytes)) (udp_text bytes)) ⊎ (bytes ≡ unsummed_bytes (address src (sport_of bytes)) (address dst (dport_of bytes)) (udp_text bytes))
unfolding udp_bytes unsummed_bytes
spelled_either src dst bytes fits long whole (inl none) =
    inr (itself_read bytes fits long whole ∙ ap (λ (s : ℕ). udp_with s (sport_of bytes) (dport_of bytes) (udp_text bytes)) none)
spelled_either src dst bytes fits long whole (inr e) =
    let total : udp_length bytes ≡ 8 + length (drop 8 bytes) = omega (arith, length-drop 8 bytes, whole) in
    let sum : received_sum src dst bytes ≡ udp_sum (address src (sport_of bytes)) (address dst (dport_of bytes)) (udp_text bytes) =
    ap (λ (n : ℕ). sent_sum (sum_of (pseudo_header src dst n ++ blanked 6 bytes))) total
    ∙ ap (λ (x : List ℕ). sent_sum (sum_of (pseudo_header src dst (8 + length (drop 8 bytes)) ++ x))) (sym (blanked_read bytes fits long whole)) in
    inl (itself_read bytes fits long whole ∙ ap (λ (s : ℕ). udp_with s (sport_of bytes) (dport_of bytes) (udp_text bytes)) (e ∙ sum))

pub spells_udp_read : (src dst : ℕ) (bytes : List ℕ) → IsBytes bytes → IsSoundUdp src dst bytes → SpellsUdp (address src (sport_of bytes)) (address dst (dport_of bytes)) (udp_text bytes) bytes
spells_udp_read src dst bytes fits sound = record {
  sport = omega (arith, fits 0, fits 1);
  dport = omega (arith, fits 2, fits 3);
  fits = omega (arith, length-drop 8 bytes, sound.long, sound.whole, fits 4, fits 5);
  spelled = spelled_either src dst bytes fits sound.long sound.whole sound.summed;
}
