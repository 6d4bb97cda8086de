use Rattle.std.proofs.Common.{List, ℕ, map, ap, ◌∙◌, arith}
use Rattle.std.proofs.lemmas.List.{take_all}
use Rattle.ndb_index.specs.Near.{tuples_at}
use Rattle.ndb_index.specs.Told.{tuple_as_line}
use Rattle.ndb_index.proofs.Behind.{lines_more}
use Rattle.ndb_index.proofs.found.place_lines.Goals as goal

pub loop-place-preserved : goal.loop-place-preserved
loop-place-preserved g c = (
  lines_more tuple_as_line c.args.tuples.now c.args.places.now c.loop-place.place-index _ c.at.result c.in_ok-line.line c.loop-place.lines c.push.new.self
      (omega arith) c.at.ensures.tuple c.loop-place.invariant.0 c.in_ok-line.ensures c.in_ok-push.ensures.ok,
  omega (arith, c.loop-place.invariant.1, c.at.ensures.cost),
)

pub returns-clause-lines : goal.returns-clause-lines
returns-clause-lines g c =
    c.loop-place.invariant.0
    ∙ ap (λ (places : List ℕ). map tuple_as_line (tuples_at c.args.tuples.now places)) (take_all c.loop-place.place-index c.args.places.now (omega arith))
