-- What a slice holds after texts were copied into it, one behind the other.
use Rattle.std.proofs.Common.{◌≡◌, ℕ, ◌+◌, ◌-◌, List, ◌++◌, length, take, drop, sym, ap, ◌∙◌, append_assoc, arith}
use Rattle.std.proofs.lemmas.List.{take_at, drop_at, drop-drop}
use borrow.Rule.Slice.PartMut.{put_mid}

-- a front and a back
pub laid : (n : ℕ) (front back old : List ℕ) → length front ≡ n → put_mid n (n + length back - n) (front ++ drop n old) back ≡ (front ++ back) ++ drop (n + length back) old
laid n front back old e =
    let k : n + length back - n ≡ length back = omega arith in
    rw (k, take_at front (drop n old) n e, drop_at front (drop n old) n e, drop-drop) (sym (append_assoc front back (drop (n + length back) old)))

-- a text behind what was written
pub laid_more : (front text old now next : List ℕ) (n r : ℕ) → n ≡ length front → now ≡ front ++ drop n old → r ≡ n + length text
    → next ≡ take n now ++ (text ++ drop r now) → next ≡ (front ++ text) ++ drop r old
laid_more front text old now next n r at is end laid =
    let before : take n now ≡ front = ap (take n) is ∙ take_at front (drop n old) n (sym at) in
    let behind : drop r now ≡ drop r old =
    ap (λ (k : ℕ). drop k now) end
    ∙ (sym (drop-drop (length text) n now)
    ∙ (ap (λ (xs : List ℕ). drop (length text) xs) (ap (drop n) is ∙ drop_at front (drop n old) n (sym at))
    ∙ (drop-drop (length text) n old ∙ ap (λ (k : ℕ). drop k old) (sym end)))) in
    laid
    ∙ (ap (λ (xs : List ℕ). xs ++ (text ++ drop r now)) before
    ∙ (ap (λ (xs : List ℕ). front ++ (text ++ xs)) behind ∙ sym (append_assoc front text (drop r old))))
