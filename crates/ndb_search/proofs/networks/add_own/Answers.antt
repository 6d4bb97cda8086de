use Rattle.std.proofs.Common.{map, ◌++◌, ◌∷◌, [], sym, ap, ◌∙◌, arith, append_assoc, append-nil}
use Rattle.std.proofs.lemmas.List.{map-append}
use Rattle.ndb_search.specs.Prefixes.{network_seen}
use Rattle.ndb_search.proofs.Owned.{none_at, own_more, own_less}
use Rattle.ndb_search.proofs.networks.add_own.Goals as goal

pub returns-then-not-has_length : goal.returns-then-not-has_length
returns-then-not-has_length c =
    let front = map network_seen c.args.own.now.items in
    sym (ap (λ back. front ++ back) (none_at c.args.bits c.args.ips.now c.args.networks.now (sym c.has_length.ensures ∙ c.if-not-has_length.true)) ∙ append-nil front)

pub loop-network-preserved : goal.loop-network-preserved
loop-network-preserved c =
    let front = map network_seen c.args.own.now.items in
    let network = c.network-item.result in
    let networks = c.args.networks.now in
    ap (map network_seen) c.in_ok-push.ensures.items
    ∙ map-append network_seen c.loop-network.own.items (c.again.result ∷ [])
    ∙ ap (λ n. map network_seen c.loop-network.own.items ++ n ∷ []) c.again.ensures
    ∙ ap (λ those. those ++ network_seen network ∷ []) c.loop-network.invariant
    ∙ append_assoc front _ (network_seen network ∷ [])
    ∙ ap (λ back. front ++ back) (sym (own_more c.args.bits c.args.ips.now c.in_ok-firsts.firsts.keys networks c.loop-network.network-index network (omega arith) c.network-item.is
    c.in_ok-firsts.ensures (cc) (rw c.first_bits.ensures at (sym c.contains.ensures ∙ c.if-not-contains.false))))

pub loop-network-preserved-then-not-contains : goal.loop-network-preserved-then-not-contains
loop-network-preserved-then-not-contains c =
    let front = map network_seen c.args.own.now.items in
    let network = c.network-item.result in
    let networks = c.args.networks.now in
    c.loop-network.invariant
    ∙ ap (λ back. front ++ back) (sym (own_less c.args.bits c.args.ips.now c.in_ok-firsts.firsts.keys networks c.loop-network.network-index network (omega arith) c.network-item.is
    c.in_ok-firsts.ensures (cc) (rw c.first_bits.ensures at (sym c.contains.ensures ∙ c.if-not-contains.true))))
