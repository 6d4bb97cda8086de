-- The fields of headers stand where they are read, and what is read is spelled so.
use Rattle.std.proofs.Common.{◌≡◌, ℕ, ◌≤◌, true, ◌&&◌, List, ◌++◌, length, take, drop, get_or, refl, sym, ap, ◌∙◌, arith}
use Rattle.std.proofs.lemmas.Slice.Eq.{bytes_eq-Decides}
use Rattle.std.proofs.lemmas.Bool.{and_parts}
use Rattle.formats.proofs.Shared.{IsBytes, word_again, long_again, word_high, word_low, long_0, long_1, long_2, long_3, items, by_items}
use Rattle.net_base.specs.declared.headers.Headers.{Headers}
use Rattle.net_base.specs.DatagramHeaders.{AreHeaders, SpellsHeaders, all_mapped, headers_bytes, headers_of, is_mapped, mapped_front}

-- ---- what was spelled is read

pub headers_again : (h : Headers) (text : List ℕ) → AreHeaders h → headers_of (headers_bytes h ++ text) ≡ h
headers_again h text fits =
    rw (
      long_again h.remote.ip fits.remote_ip,
      word_again h.remote.port fits.remote_port,
      long_again h.local.ip fits.local_ip,
      word_again h.local.port fits.local_port,
      long_again h.iface fits.iface,
    ) refl

-- spelled bytes pass every test of a reader
pub record AreSound (bytes : List ℕ) : Type 0 where
  pub long : 52 ≤ length bytes
  pub mapped : all_mapped bytes ≡ true

sound_again : (h : Headers) (text : List ℕ) → AreSound (headers_bytes h ++ text)
sound_again h text = record { long = omega arith; mapped = refl }

pub spells_sound : (h : Headers) (text bytes : List ℕ) → SpellsHeaders h text bytes → AreSound bytes
spells_sound h text bytes s = rw s.spelled (sound_again h text)

pub spells_headers : (h : Headers) (text bytes : List ℕ) → SpellsHeaders h text bytes → headers_of bytes ≡ h
spells_headers h text bytes s = ap headers_of s.spelled ∙ headers_again h text s.headers

pub spells_text : (h : Headers) (text bytes : List ℕ) → SpellsHeaders h text bytes → drop 52 bytes ≡ text
spells_text h text bytes s = ap (drop 52) s.spelled

pub spells_once : (h other : Headers) (text rest bytes : List ℕ) → SpellsHeaders h text bytes → SpellsHeaders other rest bytes → (h ≡ other) × (text ≡ rest)
spells_once h other text rest bytes s t = (
  sym (spells_headers h text bytes s) ∙ spells_headers other rest bytes t,
  sym (spells_text h text bytes s) ∙ spells_text other rest bytes t,
)

-- ---- what is read is spelled so

-- the fronts of the three addresses
front_0 : (bytes : List ℕ) → 52 ≤ length bytes → is_mapped 0 bytes ≡ true → items 0 12 bytes ≡ mapped_front
front_0 bytes long is =
    sym (ap (λ (b : List ℕ). take 12 (drop 0 b)) (by_items 52 bytes long)) ∙ (bytes_eq-Decides (take 12 (drop 0 bytes)) mapped_front).0 is

front_16 : (bytes : List ℕ) → 52 ≤ length bytes → is_mapped 16 bytes ≡ true → items 16 12 bytes ≡ mapped_front
front_16 bytes long is =
    sym (ap (λ (b : List ℕ). take 12 (drop 16 b)) (by_items 52 bytes long)) ∙ (bytes_eq-Decides (take 12 (drop 16 bytes)) mapped_front).0 is

front_32 : (bytes : List ℕ) → 52 ≤ length bytes → is_mapped 32 bytes ≡ true → items 32 12 bytes ≡ mapped_front
front_32 bytes long is =
    sym (ap (λ (b : List ℕ). take 12 (drop 32 b)) (by_items 52 bytes long)) ∙ (bytes_eq-Decides (take 12 (drop 32 bytes)) mapped_front).0 is

-- 52 bytes with these as the fronts of their addresses
abbrev fronted : List ℕ → List ℕ → List ℕ → List ℕ → List ℕ
fronted remote local iface bytes =
    remote ++ (items 12 4 bytes ++ (local ++ (items 28 4 bytes ++ (iface ++ items 44 8 bytes))))

fronts_read : (bytes : List ℕ) → AreSound bytes → items 0 52 bytes ≡ fronted mapped_front mapped_front mapped_front bytes
fronts_read bytes sound =
    let all = and_parts (is_mapped 0 bytes && is_mapped 16 bytes) (is_mapped 32 bytes) sound.mapped in
    let first = and_parts (is_mapped 0 bytes) (is_mapped 16 bytes) all.0 in
    ap (λ (f : List ℕ). fronted f (items 16 12 bytes) (items 32 12 bytes) bytes) (front_0 bytes sound.long first.0)
    ∙ ap (λ (f : List ℕ). fronted mapped_front f (items 32 12 bytes) bytes) (front_16 bytes sound.long first.1)
    ∙ ap (λ (f : List ℕ). fronted mapped_front mapped_front f bytes) (front_32 bytes sound.long all.1)

fields_read : (bytes : List ℕ) → IsBytes bytes → headers_bytes (headers_of bytes) ≡ fronted mapped_front mapped_front mapped_front bytes
fields_read bytes fits =
    let b : ℕ → ℕ = λ i. get_or bytes i 0 in
    rw (
      long_0 (b 12) (b 13) (b 14) (b 15) (fits 12) (fits 13) (fits 14) (fits 15),
      long_1 (b 12) (b 13) (b 14) (b 15) (fits 13) (fits 14) (fits 15),
      long_2 (b 12) (b 13) (b 14) (b 15) (fits 14) (fits 15),
      long_3 (b 12) (b 13) (b 14) (b 15) (fits 15),
      long_0 (b 28) (b 29) (b 30) (b 31) (fits 28) (fits 29) (fits 30) (fits 31),
      long_1 (b 28) (b 29) (b 30) (b 31) (fits 29) (fits 30) (fits 31),
      long_2 (b 28) (b 29) (b 30) (b 31) (fits 30) (fits 31),
      long_3 (b 28) (b 29) (b 30) (b 31) (fits 31),
      long_0 (b 44) (b 45) (b 46) (b 47) (fits 44) (fits 45) (fits 46) (fits 47),
      long_1 (b 44) (b 45) (b 46) (b 47) (fits 45) (fits 46) (fits 47),
      long_2 (b 44) (b 45) (b 46) (b 47) (fits 46) (fits 47),
      long_3 (b 44) (b 45) (b 46) (b 47) (fits 47),
      word_high (b 48) (b 49) (fits 48) (fits 49),
      word_low (b 48) (b 49) (fits 49),
      word_high (b 50) (b 51) (fits 50) (fits 51),
      word_low (b 50) (b 51) (fits 51),
    ) refl

headers_fit : (bytes : List ℕ) → IsBytes bytes → AreHeaders (headers_of bytes)
headers_fit bytes fits = record {
  remote_ip = omega (arith, fits 12, fits 13, fits 14, fits 15);
  remote_port = omega (arith, fits 48, fits 49);
  local_ip = omega (arith, fits 28, fits 29, fits 30, fits 31);
  local_port = omega (arith, fits 50, fits 51);
  iface = omega (arith, fits 44, fits 45, fits 46, fits 47);
}

pub spells_read : (bytes : List ℕ) → IsBytes bytes → AreSound bytes → SpellsHeaders (headers_of bytes) (drop 52 bytes) bytes
spells_read bytes fits sound = record {
  headers = headers_fit bytes fits;
  spelled = by_items 52 bytes sound.long ∙ ap (λ (front : List ℕ). front ++ drop 52 bytes) (fronts_read bytes sound ∙ sym (fields_read bytes fits));
}
