use Rattle.std.proofs.Common.{List, ℕ, ◌++◌, sym, ap, ◌∙◌, arith, length, get_or, []}
use Rattle.std.specs.List.{list_any}
use Rattle.net_base.specs.Search.{has_attr}
use Rattle.ndb_search.specs.declared.tuple_numbers.Kind.TheVariants.{Address}
use Rattle.ndb_search.specs.Numbers.{numbers_in}
use Rattle.cs_resolver.specs.Probes.{numbers_at}
use Rattle.cs_resolver.proofs.AtSpots.{Lines}
use Rattle.cs_resolver.proofs.Gathered.{gather_line, gather_tuple, gather_again, gather_behind, tuples_stay, tuples_more, tuples_again, was_there}
use Rattle.cs_resolver.proofs.named.read_spot.Goals as goal

pub at-tuple-requires : goal.at-tuple-requires
at-tuple-requires g c = c.requires.spot.0

pub line-line-requires : goal.line-line-requires
line-line-requires g c = omega (arith, c.requires.spot.1, ap (λ (lines : Lines). length lines) c.at-tuple.ensures.tuple)

pub returns-then-names-clause-ips : goal.returns-then-names-clause-ips
returns-then-names-clause-ips g c =
    gather_line c.args.index.now c.args.spot c.at-tuple.result c.line-line.result c.args.ips.now.items c.add_on.new.numbers.items c.at-tuple.ensures.tuple c.line-line.ensures
    (ap (λ (attr : List ℕ). list_any (has_attr attr) c.line-line.result) (sym c.attr.ensures) ∙ sym c.names.ensures ∙ c.if-names.true) c.in_ok-add_on.ensures

pub returns-then-names-clause-read : goal.returns-then-names-clause-read
returns-then-names-clause-read g c =
    tuples_stay c.args.index.now c.args.tuples.now.keys (numbers_at c.args.index.now Address c.args.spot) c.args.ips.now.items c.add_on.new.numbers.items
    (gather_line c.args.index.now c.args.spot c.at-tuple.result c.line-line.result c.args.ips.now.items c.add_on.new.numbers.items c.at-tuple.ensures.tuple c.line-line.ensures
    (ap (λ (attr : List ℕ). list_any (has_attr attr) c.line-line.result) (sym c.attr.ensures) ∙ sym c.names.ensures ∙ c.if-names.true) c.in_ok-add_on.ensures)
    c.requires.read

pub returns-then-not-branch-clause-ips : goal.returns-then-not-branch-clause-ips
returns-then-not-branch-clause-ips g c =
    gather_again c.args.index.now c.args.spot c.at-tuple.result c.line-line.result c.args.ips.now.items c.at-tuple.ensures.tuple c.line-line.ensures
    (ap (λ (attr : List ℕ). list_any (has_attr attr) c.line-line.result) (sym c.attr.ensures) ∙ sym c.names.ensures ∙ c.if-names.false)
    (c.requires.read c.args.spot.place (was_there _ _ c.in_ok-insert.ensures.added c.if-not-branch.true))

pub returns-then-not-branch-clause-read : goal.returns-then-not-branch-clause-read
returns-then-not-branch-clause-read g c =
    tuples_again c.args.index.now c.args.tuples.now.keys c.insert.new.self.keys c.args.spot.place c.args.ips.now.items c.in_ok-insert.ensures.updates.0
    (was_there _ _ c.in_ok-insert.ensures.added c.if-not-branch.true) c.requires.read

pub returns-clause-ips : goal.returns-clause-ips
returns-clause-ips g c =
    gather_tuple c.args.index.now c.args.spot c.at-tuple.result c.line-line.result c.args.ips.now.items c.add_in.new.numbers.items c.at-tuple.ensures.tuple c.line-line.ensures
    (ap (λ (attr : List ℕ). list_any (has_attr attr) c.line-line.result) (sym c.attr.ensures) ∙ sym c.names.ensures ∙ c.if-names.false) c.in_ok-add_in.ensures

pub returns-clause-read : goal.returns-clause-read
returns-clause-read g c =
    tuples_more c.args.index.now c.args.tuples.now.keys c.insert.new.self.keys c.args.spot.place c.args.ips.now.items c.add_in.new.numbers.items c.in_ok-insert.ensures.updates.0
    (gather_behind (numbers_in Address (get_or c.args.index.now c.args.spot.place [])) c.args.ips.now.items c.add_in.new.numbers.items
    (c.in_ok-add_in.ensures ∙ ap (λ (tuple : Lines). c.args.ips.now.items ++ numbers_in Address tuple) c.at-tuple.ensures.tuple))
    c.requires.read
