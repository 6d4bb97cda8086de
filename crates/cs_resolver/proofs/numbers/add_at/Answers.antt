use Rattle.std.proofs.Common.{List, ℕ, ◌++◌, sym, ap, ◌∙◌, arith, length}
use Rattle.cs_resolver.proofs.AtSpots.{Lines, at_spot_is}
use Rattle.cs_resolver.proofs.numbers.add_at.Goals as goal

pub at-tuple-requires : goal.at-tuple-requires
at-tuple-requires g c = c.requires.0

pub line-line-requires : goal.line-line-requires
line-line-requires g c = omega (arith, c.requires.1, ap (λ (lines : Lines). length lines) c.at-tuple.ensures.tuple)

pub returns-clause-numbers : goal.returns-clause-numbers
returns-clause-numbers g c =
    c.in_ok-add_beside.ensures
    ∙ ap (λ (more : List ℕ). c.args.numbers.now.items ++ more)
    (sym (at_spot_is c.args.kind c.args.index.now c.args.spot c.at-tuple.result c.line-line.result c.at-tuple.ensures.tuple c.line-line.ensures))
