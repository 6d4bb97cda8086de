use Rattle.ndb_search.specs.declared.tuple_numbers.Kind.TheVariants.{Address}
use Rattle.cs_resolver.specs.Probes.{numbers_at}
use Rattle.cs_resolver.proofs.Gathered.{gathers_known, spots_more, spots_again, was_there}
use Rattle.cs_resolver.proofs.named.add_spot.Goals as goal

pub returns-then-not-branch-clause-ips : goal.returns-then-not-branch-clause-ips
returns-then-not-branch-clause-ips g c =
    gathers_known (numbers_at c.args.index.now Address c.args.spot) c.args.ips.now.items
    (c.requires.spots c.args.spot (was_there _ _ c.in_ok-insert.ensures.added c.if-not-branch.true))

pub returns-then-not-branch-clause-spots : goal.returns-then-not-branch-clause-spots
returns-then-not-branch-clause-spots g c =
    spots_again c.args.index.now c.args.read.now.spots.keys c.insert.new.self.keys c.args.spot c.args.ips.now.items c.in_ok-insert.ensures.updates.0
    (was_there _ _ c.in_ok-insert.ensures.added c.if-not-branch.true) c.requires.spots

pub returns-clause-spots : goal.returns-clause-spots
returns-clause-spots g c =
    spots_more c.args.index.now c.args.read.now.spots.keys c.insert.new.self.keys c.args.spot c.args.ips.now.items c.read_spot.new.ips.items c.in_ok-insert.ensures.updates.0
    c.in_ok-read_spot.ensures.ips c.requires.spots
