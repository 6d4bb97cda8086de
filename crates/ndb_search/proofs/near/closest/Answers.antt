use Rattle.std.proofs.Common.{[], map, sym, ap, ◌∙◌, unwrap_or}
use Rattle.std.specs.Option.{option_or}
use Rattle.net_base.specs.Networks.{Network, longest_first, own_networks}
use Rattle.ndb_search.specs.Closest.{first_filled}
use Rattle.ndb_search.specs.Prefixes.{network_seen}
use Rattle.ndb_search.proofs.NonEmpty.{near_is}
use Rattle.ndb_search.proofs.near.closest.Goals as goal

pub returns-in-Some : goal.returns-in-Some
returns-in-Some c =
    let near = first_filled c.args.attr.now (map (λ (network : Network). network.tuple) (longest_first (own_networks c.args.me.now c.args.db.now))) in
    sym (near_is c.args.attr.now c.args.me.now c.args.db.now
    ∙ ap (λ o. unwrap_or (option_or o near) []) (sym c.in_ok-values.ensures ∙ c.in-Some.is))

pub returns-in-Some-2 : goal.returns-in-Some-2
returns-in-Some-2 c =
    let near = first_filled c.args.attr.now (map (λ (network : Network). network.tuple) (longest_first (own_networks c.args.me.now c.args.db.now))) in
    sym (near_is c.args.attr.now c.args.me.now c.args.db.now
    ∙ ap (λ o. unwrap_or (option_or o near) []) (sym c.in_ok-values.ensures ∙ c.in_default.is)
    ∙ ap (λ (networks : _). unwrap_or (first_filled c.args.attr.now (map (λ (network : Network). network.tuple) networks)) []) (sym (ap (map network_seen) c.deref.ensures.value ∙ c.in_ok-networks.ensures))
    ∙ ap (λ o. unwrap_or o []) (sym c.in_ok-values-2.ensures ∙ c.in-Some-2.is))

pub returns : goal.returns
returns c =
    let near = first_filled c.args.attr.now (map (λ (network : Network). network.tuple) (longest_first (own_networks c.args.me.now c.args.db.now))) in
    c.new.ensures
    ∙ sym (near_is c.args.attr.now c.args.me.now c.args.db.now
    ∙ ap (λ o. unwrap_or (option_or o near) []) (sym c.in_ok-values.ensures ∙ c.in_default.is)
    ∙ ap (λ (networks : _). unwrap_or (first_filled c.args.attr.now (map (λ (network : Network). network.tuple) networks)) []) (sym (ap (map network_seen) c.deref.ensures.value ∙ c.in_ok-networks.ensures))
    ∙ ap (λ o. unwrap_or o []) (sym c.in_ok-values-2.ensures ∙ c.in-None.is))
