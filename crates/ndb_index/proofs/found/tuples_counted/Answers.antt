use Rattle.std.proofs.Common.{List, ℕ, length, map, ap, sym, subst, ◌∙◌, arith}
use Rattle.net_base.specs.Ndb.{NdbPair}
use Rattle.ndb_index.specs.Near.{AreWithinNear, tuples_at}
use Rattle.ndb_index.specs.Told.{tuple_as_line}
use Rattle.ndb_index.proofs.found.tuples_counted.Goals as goal

pub place_lines-requires : goal.place_lines-requires
place_lines-requires g c = subst (AreWithinNear c.args.tuples.now) (sym c.as_slice.ensures) c.in_ok-places.ensures.within

pub returns-clause-lines : goal.returns-clause-lines
returns-clause-lines g c =
    c.in_ok-lines.ensures.lines
    ∙ ap (λ (places : List ℕ). map tuple_as_line (tuples_at c.args.tuples.now places)) c.as_slice.ensures
    ∙ ap (λ (tuples : List (List (List NdbPair))). map tuple_as_line tuples) c.in_ok-places.ensures.tuples

pub returns-clause-cost : goal.returns-clause-cost
returns-clause-cost g c =
    omega (arith, c.place_lines.ensures.cost, ap (λ (places : List ℕ). length places) c.as_slice.ensures, c.in_ok-places.ensures.count)

pub returns-in_err-lines-clause-cost : goal.returns-in_err-lines-clause-cost
returns-in_err-lines-clause-cost g c =
    omega (arith, c.place_lines.ensures.cost, ap (λ (places : List ℕ). length places) c.as_slice.ensures, c.in_ok-places.ensures.count)
