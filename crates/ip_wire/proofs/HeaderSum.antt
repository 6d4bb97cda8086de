-- The sum of a header by its parts before and after the sum field.
use Rattle.std.proofs.Common.{◌≡◌, ℕ, ◌+◌, ◌-◌, ◌≤◌, List, length, take, drop, sum, ap, ◌∙◌, arith}
use Rattle.std.proofs.lemmas.List.{length-take, take-take, drop-take}
use Rattle.net_base.specs.Bytes.{blanked}
use Rattle.formats.specs.Sum.{words}
use Rattle.formats.specs.Ipv4.{header_sum}
use Rattle.formats.proofs.Shared.{IsBytes, IsBytes-blanked, IsBytes-take, sum-words-blanked}
use Rattle.ip_wire.specs.Carries.{around}
use Rattle.ip_wire.proofs.Carrying.{sum_of-words}

pub header_sum-parts : (bytes : List ℕ) → IsBytes bytes → 20 ≤ length bytes → header_sum bytes ≡ 65535 - around (sum (words (take 10 bytes)) + sum (words (take 8 (drop 12 bytes))))
header_sum-parts bytes fits long =
    let front : take 10 (take 20 bytes) ≡ take 10 bytes = take-take 10 20 bytes (omega arith) in
    let back : drop 12 (take 20 bytes) ≡ take 8 (drop 12 bytes) = drop-take 12 8 bytes in
    sum_of-words (blanked 10 (take 20 bytes)) (IsBytes-blanked 10 (take 20 bytes) (IsBytes-take 20 bytes fits))
    ∙ ap (λ (t : ℕ). 65535 - around t) (sum-words-blanked 5 (take 20 bytes) (omega (arith, length-take 20 bytes))
    ∙ ap (λ (b : List ℕ). sum (words b) + sum (words (drop 12 (take 20 bytes)))) front
    ∙ ap (λ (b : List ℕ). sum (words (take 10 bytes)) + sum (words b)) back)
