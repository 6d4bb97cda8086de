use Rattle.std.proofs.Common.{◌+◌, arith}
use Rattle.medium.proofs.Fating.{knows}
use Rattle.medium.proofs.fates.Fates.pass.Goals as goal

pub invariant_of-self : goal.invariant_of-self
invariant_of-self c =
    let s = c.self.inside in
    let old = c.self.invariant in
    let f = c.fate_after-self-inside in
    knows s.spec s.seed (s.laid + 1) s.lines.items f.new.lines.items s.words f.new.words f.result old.mtu old.rates (λ m lt. old.alike m (omega (arith, lt))) f.ensures.order f.ensures.alike old.drawn f.ensures.words f.ensures.fate
