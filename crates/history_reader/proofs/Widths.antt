-- Lists whose elements all fit.
use Rattle.std.proofs.Common.{◌≡◌, ℕ, ◌<◌, ◌≤◌, suc, List, [], ◌∷◌, length, get_or, refl, arith}
use Rattle.std.specs.Prelude.{Some, slice_get}
use Rattle.net_base.specs.declared.actor.Call.{Call}
use Rattle.net_base.specs.declared.history.Entry.{Entry}
use Rattle.net_base.specs.Plain.{AreBytes}
use Rattle.history_reader.specs.Wide.{AreByteLines, AreWideCalls, IsLongField, IsNarrow, IsWide, IsWideEntry}

-- each element before this place has the fact
abbrev pub EachBefore : {A : Type 0} → (A → Type 0) → ℕ → List A → Type 0
EachBefore {A = A} P n xs = (k : ℕ) (x : A) → k < n → slice_get xs k ≡ Some x → P x

-- a call that fits
abbrev pub IsWideCall : Call → Type 0
IsWideCall call = IsNarrow call.slot × IsLongField call.generation

pub bytes_by : (bytes : List ℕ) → ((i : ℕ) → i < length bytes → get_or bytes i 0 < 256) → AreBytes bytes
bytes_by [] h = tt
bytes_by (b ∷ bytes) h = (h 0 (omega arith), bytes_by bytes (λ i within. h (suc i) (omega (arith, within))))

pub calls_by : (calls : List Call) (n : ℕ) → length calls ≤ n → EachBefore IsWideCall n calls → AreWideCalls calls
calls_by [] n le h = tt
calls_by (x ∷ xs) n le h =
    let first = h 0 x (omega (arith, le)) refl in
    (first.0, first.1, calls_by xs (length xs) (omega arith) (λ k y within is. h (suc k) y (omega (arith, within, le)) is))

pub lines_by : (lines : List (List ℕ)) (n : ℕ) → length lines ≤ n → EachBefore AreBytes n lines → AreByteLines lines
lines_by [] n le h = tt
lines_by (x ∷ xs) n le h =
    (h 0 x (omega (arith, le)) refl, lines_by xs (length xs) (omega arith) (λ k y within is. h (suc k) y (omega (arith, within, le)) is))

pub wide_by : (history : List Entry) (n : ℕ) → length history ≤ n → EachBefore IsWideEntry n history → IsWide history
wide_by [] n le h = tt
wide_by (x ∷ xs) n le h =
    (h 0 x (omega (arith, le)) refl, wide_by xs (length xs) (omega arith) (λ k y within is. h (suc k) y (omega (arith, within, le)) is))
