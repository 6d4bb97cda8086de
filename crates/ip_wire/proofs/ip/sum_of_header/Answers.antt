use Rattle.std.proofs.Common.{◌≡◌, ℕ, ◌+◌, ◌-◌, take, drop, sum, sym, ap, ◌∙◌, zero-add, arith}
use Rattle.std.proofs.lemmas.List.{length-take}
use Rattle.formats.specs.Sum.{words}
use Rattle.ip_wire.specs.Carries.{around}
use Rattle.ip_wire.proofs.HeaderSum.{header_sum-parts}
use Rattle.ip_wire.proofs.ip.sum_of_header.Goals as goal

pub add_words-requires-2 : goal.add_words-requires-2
add_words-requires-2 c =
    omega (arith, c.add_words.ensures.within, length-take 8 (drop 12 c.args.bytes.now), length-take 10 c.args.bytes.now)

pub returns : goal.returns
returns c =
    let parts : c.add_words-2.result ≡ sum (words (take 10 c.args.bytes.now)) + sum (words (take 8 (drop 12 c.args.bytes.now))) =
    c.add_words-2.ensures.value ∙ ap (λ (n : ℕ). n + sum (words (take 8 (drop 12 c.args.bytes.now)))) (c.add_words.ensures.value ∙ zero-add _) in
    c.complement.ensures
    ∙ ap (λ (t : ℕ). 65535 - around t) parts
    ∙ sym (header_sum-parts c.args.bytes.now (λ i. omega (arith, c.type_inv.bytes i)) c.requires)
