use Rattle.std.proofs.Common.{arith, sym, ap, ◌∙◌, ◌||◌, map, take}
use Rattle.net_base.specs.Networks.{is_on}
use Rattle.ndb_search.specs.Prefixes.{network_seen, is_on_prefix}
use Rattle.ndb_search.proofs.Covered.{covers_none, on_more, on_network}
use Rattle.ndb_search.proofs.prefixes.Prefixes.of.Goals as goal

pub loop-network-init : goal.loop-network-init
loop-network-init c = λ ip. covers_none c.new-prefixes.result ip c.new-prefixes.ensures

pub loop-network-preserved : goal.loop-network-preserved
loop-network-preserved c = λ ip.
    let networks = c.args.networks.now in
    let i = c.loop-network.network-index in
    let network = c.network-item.result in
    c.in_ok-insert.ensures ip
    ∙ ap (λ b. b || is_on_prefix ip c.of.result) (c.loop-network.invariant ip)
    ∙ ap (λ b. is_on (map network_seen (take i networks)) ip || b) (ap (is_on_prefix ip) c.of.ensures ∙ on_network (network_seen network) ip)
    ∙ sym (on_more networks i network ip (omega arith) c.network-item.is)
