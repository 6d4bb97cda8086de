-- Texts that are written one behind the other.
use Rattle.std.proofs.Common.{◌≡◌, ℕ, ◌+◌, ◌<◌, ◌≤◌, suc, zero, List, [], ◌∷◌, ◌++◌, length, get_or, take, drop, sym, ap, ◌∙◌, arith, append_assoc, length-append, add-one}
use Rattle.std.specs.Borrow.{Bor}
use Rattle.std.proofs.lemmas.List.{append-nil, length-drop}
use Rattle.dial_lib.specs.Written.{call_written}

written_next : (ts : List (Bor (List ℕ))) (i : ℕ) (d : Bor (List ℕ)) → i < length ts → call_written (take (suc i) ts) ≡ call_written (take i ts) ++ (get_or ts i d).now
written_next [] i d within = absurd (omega (arith, within))
written_next (t ∷ ts) zero d within = append-nil t.now
written_next (t ∷ ts) (suc i) d within =
    ap (λ (xs : List ℕ). t.now ++ xs) (written_next ts i d (omega (arith, within)))
    ∙ sym (append_assoc t.now (call_written (take i ts)) ((get_or ts i d).now))

-- the texts up to a place, and one more
pub written_more : (ts : List (Bor (List ℕ))) (i : ℕ) (d : Bor (List ℕ)) → i < length ts → call_written (take (i + 1) ts) ≡ call_written (take i ts) ++ (get_or ts i d).now
written_more ts i d within = rw add-one (written_next ts i d within)

-- what is written so far is no longer than the whole
written_fits : (ts : List (Bor (List ℕ))) (i : ℕ) (d : Bor (List ℕ)) → i < length ts → length (call_written (take i ts)) + length ((get_or ts i d).now) ≤ length (call_written ts)
written_fits [] i d within = absurd (omega (arith, within))
written_fits (t ∷ ts) zero d within = omega (arith, length-append t.now (call_written ts))
written_fits (t ∷ ts) (suc i) d within =
    omega (arith, written_fits ts i d (omega (arith, within)), length-append t.now (call_written ts), length-append t.now (call_written (take i ts)))

-- what was written over keeps its length
kept_length : (front old now : List ℕ) (n : ℕ) → now ≡ front ++ drop n old → n ≡ length front → n ≤ length old → length now ≡ length old
kept_length front old now n is at within = omega (arith, ap length is, length-append front (drop n old), length-drop n old, at, within)

-- there is room for the next text
pub has_room : (ts : List (Bor (List ℕ))) (i : ℕ) (d : Bor (List ℕ)) (at : ℕ) (old now : List ℕ) → at ≡ length (call_written (take i ts)) → now ≡ call_written (take i ts) ++ drop at old
    → length (call_written ts) ≤ length old → i < length ts → at + length ((get_or ts i d).now) ≤ length now
has_room ts i d at old now is text short within =
    let fits = written_fits ts i d within in
    omega (arith, is, short, fits, kept_length (call_written (take i ts)) old now at text is (omega (arith, is, short, fits)))

pub end_is : (ts : List (Bor (List ℕ))) (i : ℕ) (d : Bor (List ℕ)) (at end : ℕ) → at ≡ length (call_written (take i ts)) → end ≡ at + length ((get_or ts i d).now) → i < length ts → end ≡ length (call_written (take (i + 1) ts))
end_is ts i d at end is next within = omega (arith, is, next, ap length (written_more ts i d within), length-append (call_written (take i ts)) ((get_or ts i d).now))
