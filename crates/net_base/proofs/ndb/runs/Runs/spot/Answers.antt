use Rattle.std.proofs.Common.{ℕ, List, [], length, ap, ◌∙◌, arith}
use Rattle.net_base.specs.Parts.{start_at}
use Rattle.net_base.specs.Store.{pair_with}
use Rattle.net_base.proofs.Spots.{owned, spot_found}
use Rattle.net_base.proofs.ndb.runs.Runs.spot.Goals as goal

pub returns : goal.returns
returns c = λ d.
    let r = c.args.self.now in
    let on = owned c.deref.result.now r.lines.items (length r.pairs.items) c.args.number c.owner_of-line.result c.owner_of-line.ensures c.deref.ensures.value c.requires.sound.lines (omega (arith, c.requires.whole.lines, c.requires.within)) in
    let in_tuple = owned c.deref-2.result.now r.tuples.items (length r.lines.items) c.owner_of-line.result c.owner_of-tuple.result c.owner_of-tuple.ensures c.deref-2.ensures.value c.requires.sound.tuples (omega (arith, c.requires.whole.tuples, on.within)) in
    spot_found r c.args.number c.owner_of-line.result c.owner_of-tuple.result c.begin_of-first.result (pair_with [] []) d c.requires.sound c.requires.whole on in_tuple
    (c.begin_of-first.ensures ∙ ap (λ (ends : List ℕ). start_at 0 ends c.owner_of-tuple.result) c.deref-3.ensures.value)
