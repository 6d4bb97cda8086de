-- A call that succeeded, or failed.
use Rattle.std.proofs.Common.{◌≡◌, ℕ, Bool, true, false, List, [], Option, Result, Ok, Err, is_err, OnOk, sym, ap, subst}
use Rattle.std.specs.Prelude.{OnErr}
use Rattle.std.proofs.KnownBytes.{Appends-nil}
use Rattle.std.proofs.lemmas.Bool.{false≢true}
use Rattle.live_answers.specs.Lines.{lines_text}
use Rattle.live_answers.specs.Speech.{GrowsAs, IsWritten, Speech}
use Rattle.netlive.specs.Ends.{IsFresh}

pub on_ok : {T E P : Type 0} (r : Result T E) → is_err r ≡ false → OnOk r P → P
on_ok (Ok x) fine given = given
on_ok (Err e) fine given = absurd (false≢true (sym fine))

pub on_err : {T E P : Type 0} (r : Result T E) → is_err r ≡ true → OnErr r P → P
on_err (Ok x) failed given = absurd (false≢true failed)
on_err (Err e) failed given = given

-- before the first line
pub fresh_written : (s : Speech) → IsFresh s → IsWritten s.held s
fresh_written s fresh =
    subst (λ (f : Bool). GrowsAs f s.held s.held (lines_text s.lines)) (sym fresh.well)
    (subst (λ (t : List ℕ). GrowsAs false s.held s.held t) (sym (ap lines_text fresh.none)) (Appends-nil s.held))
