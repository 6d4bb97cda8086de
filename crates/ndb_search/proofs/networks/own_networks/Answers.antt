use Rattle.std.proofs.Common.{◌≡◌, ◌-◌, ◌++◌, arith, map, ap, sym, ◌∙◌, List, ℕ}
use Rattle.std.specs.Prelude.{flat_map}
use Rattle.std.specs.List.{range_with_len}
use Rattle.net_base.specs.Networks.{Network, addresses_of}
use Rattle.ndb_search.specs.Prefixes.{network_seen}
use Rattle.ndb_search.specs.Own.{own_at}
use Rattle.ndb_search.proofs.Firsts.{range_more}
use Rattle.ndb_search.proofs.networks.own_networks.Goals as goal

pub loop-ones-preserved : goal.loop-ones-preserved
loop-ones-preserved c =
    c.in_ok-add_own.ensures
    ∙ ap (λ (ips : List ℕ). map network_seen c.loop-ones.own.items ++ own_at (32 - c.loop-ones.ones) ips (map network_seen c.deref.result.now)) c.deref-in-loop-ones.ensures.value
    ∙ ap (λ (all : _). map network_seen c.loop-ones.own.items ++ own_at (32 - c.loop-ones.ones) c.in_ok-ips.ips.items (map network_seen all)) c.deref.ensures.value
    ∙ ap (λ front. front ++ own_at (32 - c.loop-ones.ones) c.in_ok-ips.ips.items (map network_seen c.in_ok-networks.networks.items)) c.loop-ones.invariant
    ∙ sym (range_more (λ ones. own_at (32 - ones) c.in_ok-ips.ips.items (map network_seen c.in_ok-networks.networks.items)) c.loop-ones.ones)

pub returns : goal.returns
returns c =
    let end : c.loop-ones.ones ≡ 33 = omega arith in
    c.loop-ones.invariant
    ∙ ap (λ n. flat_map (λ ones. own_at (32 - ones) c.in_ok-ips.ips.items (map network_seen c.in_ok-networks.networks.items)) (range_with_len 0 n)) end
    ∙ ap (λ (ips : List ℕ). flat_map (λ ones. own_at (32 - ones) ips (map network_seen c.in_ok-networks.networks.items)) (range_with_len 0 33)) c.in_ok-ips.ensures
    ∙ ap (λ (all : List Network). flat_map (λ ones. own_at (32 - ones) (addresses_of c.args.me.now c.args.db.now) all) (range_with_len 0 33)) c.in_ok-networks.ensures
