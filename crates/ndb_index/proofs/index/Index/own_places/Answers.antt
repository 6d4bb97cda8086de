use Rattle.std.proofs.Common.{ap, ◌∙◌}
use Rattle.ndb_index.specs.Nets.{longest_places}
use Rattle.ndb_index.proofs.Own.{Db}
use Rattle.ndb_index.proofs.index.Index.own_places.Goals as goal

pub returns : goal.returns
returns c =
    c.in_ok-own.ensures c.self.inside.tuples c.self.invariant.places c.self.invariant.all_lengths
    ∙ ap (λ (db : Db). longest_places c.args.ips.now db) c.self.view_is
