-- The parts of a text between the occurrences of a byte.
use Rattle.std.proofs.Common.{◌≡◌, ℕ, ◌+◌, ◌<◌, true, false, ◌==◌, List, ◌∷◌, ◌++◌, length, get_or, take, drop, sym, ap, ◌∙◌, add-one}
use Rattle.std.specs.List.{All}
use Rattle.std.proofs.lemmas.List.{take-append-drop}
use Rattle.std.proofs.lemmas.List.Splits.{slice_split_at}
use Rattle.std.proofs.Math.Seq.{drop-cons}
use Rattle.net_base.specs.Addresses.{parts_at}

-- the first part ends at the first separator
pub parts_first : (separator : ℕ) (text : List ℕ) (i : ℕ) → i < length text → All (λ byte. (byte == separator) ≡ false) (take i text) → (get_or text i 0 == separator) ≡ true → parts_at separator text ≡ take i text ∷ parts_at separator (drop (i + 1) text)
parts_first separator text i within none here =
    let whole : take i text ++ get_or text i 0 ∷ drop (i + 1) text ≡ text =
    rw add-one (ap (λ rest. take i text ++ rest) (sym (drop-cons text i 0 within)) ∙ take-append-drop i text) in
    ap (parts_at separator) (sym whole)
    ∙ slice_split_at (λ byte. byte == separator) (take i text) (get_or text i 0) (drop (i + 1) text) none here
