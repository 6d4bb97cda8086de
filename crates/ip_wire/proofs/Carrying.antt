-- The ones' complement sum of words is their sum, with its carries brought round at the end.
use Rattle.std.proofs.Common.{◌≡◌, ℕ, suc, ◌+◌, ◌*◌, ◌-◌, ◌^◌, ◌<◌, List, [], ◌∷◌, sum, refl, sym, ap, ◌∙◌, arith}
use Rattle.std.proofs.lemmas.Bool.Decides.{nat_tests}
use Rattle.std.proofs.lemmas.List.Sums.{sum_by-cons}
use Rattle.formats.specs.Sum.{words, add_around, total_of, sum_of}
use Rattle.formats.proofs.Shared.{IsBytes}
use Rattle.ip_wire.specs.Carries.{around}

-- one more word in front
around-plus : (w s : ℕ) → w < 2 ^ 16 → add_around w (around s) ≡ around (w + s)
around-plus w s h = grind (arith, nat_tests)

total_of-words : (bytes : List ℕ) → IsBytes bytes → total_of (words bytes) ≡ around (sum (words bytes))
total_of-words [] h = refl
total_of-words (high ∷ []) h =
    let fits : 256 * high < 2 ^ 16 = omega (arith, h 0) in
    around-plus (256 * high) 0 fits ∙ ap around (sym (sum_by-cons (λ x. x) (256 * high) []))
total_of-words (high ∷ low ∷ rest) h =
    let fits : 256 * high + low < 2 ^ 16 = omega (arith, h 0, h 1) in
    ap (add_around (256 * high + low)) (total_of-words rest (λ i. h (suc (suc i))))
    ∙ around-plus (256 * high + low) (sum (words rest)) fits
    ∙ ap around (sym (sum_by-cons (λ x. x) (256 * high + low) (words rest)))

pub sum_of-words : (bytes : List ℕ) → IsBytes bytes → sum_of bytes ≡ 65535 - around (sum (words bytes))
unfolding sum_of
sum_of-words bytes h = ap (λ (t : ℕ). 65535 - t) (total_of-words bytes h)
