use Rattle.std.proofs.Common.{ℕ, ap, ◌∙◌, ◌-◌, ◌≡◌, length, arith, get_or}
use Rattle.std.proofs.lemmas.Grind.{get_or_default_zero}
use Rattle.ndb_reader.proofs.Entries.{next-at}
use Rattle.ndb_reader.proofs.chains.Chains.next.Goals as goal

pub returns : goal.returns
returns c = λ before bucket behind are count.
    let place : c.args.left - 1 ≡ length behind = omega (arith, count) in
    c.index.ensures
    ∙ get_or_default_zero c.args.self.now.nexts.items (c.args.left - 1) c.index.result.now (omega (arith, c.requires.some, c.requires.within))
    ∙ ap (λ (k : ℕ). get_or c.args.self.now.nexts.items k 0) place
    ∙ next-at c.args.self.now.nexts.items before bucket behind are.nexts
