use Rattle.std.proofs.Common.{List, ap, arith, length}
use Rattle.net_base.specs.Ndb.{NdbPair}
use Rattle.net_base.specs.Store.{all_pairs}
use Rattle.net_base.proofs.Flat.{all_count}
use Rattle.net_base.proofs.ndb.db.Db.pair.Goals as goal

pub pair-requires-clause-within : goal.pair-requires-clause-within
pair-requires-clause-within c =
    omega (arith, all_count c.self.inside.runs c.self.invariant.0 c.self.invariant.1, c.requires, ap (λ (db : List (List (List NdbPair))). length (all_pairs db)) c.self.view_is)
