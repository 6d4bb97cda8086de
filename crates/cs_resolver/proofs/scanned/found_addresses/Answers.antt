use Rattle.std.proofs.Common.{ap, ◌∙◌, map, List, ℕ}
use Rattle.net_base.specs.Networks.{Network, is_on}
use Rattle.net_base.specs.Cs.{own_first, once_each}
use Rattle.ndb_search.specs.Prefixes.{network_seen}
use Rattle.cs_resolver.proofs.Answering.{covered_first_is}
use Rattle.cs_resolver.proofs.Longest.{own_on}
use Rattle.cs_resolver.proofs.scanned.found_addresses.Goals as goal

pub returns : goal.returns
returns c =
    let me = c.args.me.now in
    let db = c.args.db.now in
    c.in_ok-sorted.ensures
    ∙ covered_first_is c.in_ok-prefixes.prefixes me db c.deref-2.result.now
    (λ ip. c.in_ok-prefixes.ensures ip
    ∙ ap (λ (networks : List Network). is_on networks ip) (ap (map network_seen) c.deref.ensures.value ∙ c.in_ok-networks.ensures)
    ∙ own_on me db ip)
    ∙ ap (own_first me db) (c.deref-2.ensures.value ∙ c.in_ok-once.ensures)
    ∙ ap (λ (ips : List ℕ). own_first me db (once_each ips)) c.in_ok-found.ensures
