-- Parts of a text between the occurrences of a byte.
use Rattle.std.proofs.Common.{◌≡◌, ℕ, List, [], ◌∷◌, ap, arith, length, sym, ◌∙◌}
use Rattle.std.specs.List.{join_with_byte}
use Rattle.std.proofs.lemmas.List.Splits.{join_with_byte-slice_split}
use Rattle.net_base.specs.Addresses.{parts_at}
use Rattle.net_base.proofs.Shared.{some_part}

pub some_word : (separator : ℕ) (text : List ℕ) → parts_at separator text ≡ [] → ⊥
some_word separator text e =
    let some = some_part separator text in
    let n = ap (λ (ws : List (List ℕ)). length ws) e in
    absurd (omega (arith, some, n))

-- the only part is the text
pub only_part : (separator : ℕ) (text part : List ℕ) → parts_at separator text ≡ part ∷ [] → parts_at separator text ≡ text ∷ []
only_part separator text part e = e ∙ ap (λ (ws : List ℕ). ws ∷ []) (sym (ap (join_with_byte separator) e) ∙ join_with_byte-slice_split separator text)
