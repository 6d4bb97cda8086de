use Rattle.std.proofs.Common.{List, ℕ, ap, ◌∙◌}
use Rattle.std.specs.Prelude.{filter, filter_map}
use Rattle.std.specs.List.{list_any}
use Rattle.net_base.specs.Networks.{network_of, contains_address, is_on}
use Rattle.ndb_index.proofs.Own.{Db}
use Rattle.ndb_index.proofs.Covering.{covered_is}
use Rattle.ndb_index.proofs.index.Index.own_prefixes_counted.Goals as goal

pub returns-clause-prefixes : goal.returns-clause-prefixes
returns-clause-prefixes g c = λ ip.
    c.in_ok-prefixes.ensures ip
    ∙ covered_is c.self.inside.networks.entries c.self.inside.lengths.keys c.deref.result.now c.self.inside.tuples c.self.invariant.places c.self.invariant.all_lengths ip
    ∙ ap (λ (db : Db). is_on (filter (λ network. list_any (contains_address network) c.deref.result.now) (filter_map network_of db)) ip) c.self.view_is
    ∙ ap (λ (ips : List ℕ). is_on (filter (λ network. list_any (contains_address network) ips) (filter_map network_of c.args.self.now)) ip) (c.deref.ensures.value ∙ c.in_ok-ips.ensures.ips)
