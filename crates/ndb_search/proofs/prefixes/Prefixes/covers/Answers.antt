use Rattle.std.proofs.Common.{◌∙◌, ap}
use Rattle.ndb_search.specs.Prefixes.{covers}
use Rattle.ndb_search.proofs.Covered.{covers_is}
use Rattle.ndb_search.proofs.prefixes.Prefixes.covers.Goals as goal

pub returns : goal.returns
returns c =
    c.is_among.ensures
    ∙ covers_is c.self.inside.lengths.keys c.self.inside.prefixes.keys c.self.invariant c.args.ip
    ∙ ap (λ (prefixes : _). covers prefixes c.args.ip) c.self.view_is
