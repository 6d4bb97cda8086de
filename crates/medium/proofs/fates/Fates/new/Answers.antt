use Rattle.std.proofs.Common.{ℕ, ◌+◌, ap, ◌∙◌}
use Rattle.net_base.specs.Draws.{generator}
use Rattle.medium.proofs.Fating.{as_begun, knows, of_world}
use Rattle.medium.proofs.fates.Fates.new.Goals as goal

pub invariant_of-result : goal.invariant_of-result
invariant_of-result c =
    let s = c.args.spec.now in
    let f = c.fate_after-ahead in
    let is = of_world s c.requires in
    rw c.in_ok-clone.ensures.cases
    (knows s c.args.seed 0 c.in_ok-lines.lines.items f.new.lines.items c.new-words.result f.new.words f.result is.mtu is.rates (λ m lt. c.in_ok-lines.ensures.alike m) f.ensures.order f.ensures.alike
    (c.new-words.ensures ∙ ap (λ (n : ℕ). generator c.args.seed (64 + n)) c.from.ensures ∙ as_begun (generator c.args.seed (64 + s.number))) f.ensures.words f.ensures.fate)
