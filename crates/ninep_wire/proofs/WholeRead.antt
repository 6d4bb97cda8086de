-- What bytes spell is what a reading of them gives.
use Rattle.std.proofs.Common.{◌≡◌, ℕ, suc, ◌<◌, ◌==◌, Bool, true, false, nat_le, List, [], ◌∷◌, length, Option, Some, None, if◌then◌else◌, refl, arith}
use Rattle.std.specs.List.{list_all}
use Rattle.std.proofs.lemmas.Bool.{and_parts, eqb-true, and_from, eq-eqb, leb-true, le-leb}
use Rattle.std.proofs.lemmas.Bool.Decides.{nat_tests}
use Rattle.net_base.specs.declared.ninep.Tmsg.{Tmsg}
use Rattle.net_base.specs.declared.ninep.Rmsg.{Rmsg}
use Rattle.net_base.specs.NinepFaults.{HasSize, size_field}
use Rattle.net_base.specs.NinepMessages.{SpellsR, SpellsT, longest}
use Rattle.net_base.specs.NinepReading.{is_framed, r_of, read_r, read_t, t_of}
use Rattle.net_base.specs.World.{is_byte}
use Rattle.ninep_wire.proofs.Laws.{IsBytes}
use Rattle.ninep_wire.proofs.Whole.{r_found, r_heads, r_only, t_found, t_heads, t_only}

byte_test : (b : ℕ) → b < 256 → is_byte b ≡ true
byte_test b lt = grind (arith, nat_tests)

are_bytes : (bytes : List ℕ) → IsBytes bytes → list_all is_byte bytes ≡ true
are_bytes [] fits = refl
are_bytes (b ∷ bs) fits = and_from (is_byte b) (list_all is_byte bs) (byte_test b (fits 0)) (are_bytes bs (λ i. fits (suc i)))

-- bytes with a good header are framed
framed_so : (bytes : List ℕ) → IsBytes bytes → HasSize bytes → is_framed bytes ≡ true
framed_so bytes fits sized =
    and_from (list_all is_byte bytes) _ (are_bytes bytes fits)
    (and_from (nat_le 7 (length bytes)) _ (le-leb 7 (length bytes) sized.header)
    (and_from (size_field bytes == length bytes) (nat_le (length bytes) longest) (eq-eqb (size_field bytes) (length bytes) sized.whole) (le-leb (length bytes) longest sized.short)))

sized_so : (bytes : List ℕ) → is_framed bytes ≡ true → HasSize bytes
sized_so bytes is =
    let behind = (and_parts (list_all is_byte bytes) _ is).1 in
    let last = (and_parts (nat_le 7 (length bytes)) _ behind).1 in
    let ends = and_parts (size_field bytes == length bytes) (nat_le (length bytes) longest) last in
    record {
      header = leb-true 7 (length bytes) (and_parts (nat_le 7 (length bytes)) _ behind).0;
      whole = eqb-true (size_field bytes) (length bytes) ends.0;
      short = leb-true (length bytes) longest ends.1;
    }

-- ---- T-messages

pub t_reads : (bytes : List ℕ) (m : Tmsg) → IsBytes bytes → SpellsT m bytes → Some m ≡ read_t bytes
t_reads bytes m fits s = rw (framed_so bytes fits (t_heads m bytes s).sized, t_only m bytes s) refl

pub t_none : (bytes : List ℕ) → IsBytes bytes → ((m : Tmsg) → SpellsT m bytes → ⊥) → None ≡ read_t bytes
t_none bytes fits none = by (is_framed bytes) refl (t_of bytes) refl
  where
    by : (v : Bool) → is_framed bytes ≡ v → (o : Option Tmsg) → t_of bytes ≡ o → None ≡ (if v then o else None)
    by false is o read = refl
    by true is None read = refl
    by true is (Some m) read = absurd (none m (t_found bytes m fits (sized_so bytes is) read))

-- ---- R-messages

pub r_reads : (bytes : List ℕ) (m : Rmsg) → IsBytes bytes → SpellsR m bytes → Some m ≡ read_r bytes
r_reads bytes m fits s = rw (framed_so bytes fits (r_heads m bytes s).sized, r_only m bytes s) refl

pub r_none : (bytes : List ℕ) → IsBytes bytes → ((m : Rmsg) → SpellsR m bytes → ⊥) → None ≡ read_r bytes
r_none bytes fits none = by (is_framed bytes) refl (r_of bytes) refl
  where
    by : (v : Bool) → is_framed bytes ≡ v → (o : Option Rmsg) → r_of bytes ≡ o → None ≡ (if v then o else None)
    by false is o read = refl
    by true is None read = refl
    by true is (Some m) read = absurd (none m (r_found bytes m fits (sized_so bytes is) read))
