use Rattle.std.proofs.Common.{List, ℕ, ◌++◌, ap, ◌∙◌}
use Rattle.std.specs.List.{list_any}
use Rattle.ndb_index.specs.Nets.{prefix, places_kept, is_place_among}
use Rattle.ndb_index.proofs.Own.{own_found}
use Rattle.ndb_index.proofs.networks.add_own.Goals as goal

pub returns : goal.returns
returns c = λ db has.
    c.in_ok-append_places.ensures
    ∙ ap (λ (front : List ℕ). front ++ c.in_ok-set.set.keys) c.in_ok-reserve.ensures.items
    ∙ ap (λ (back : List ℕ). c.args.own.now.items ++ back)
    (own_found c.args.bits c.args.ips.now c.in_ok-firsts.firsts.keys c.in_ok-set.set.keys c.args.networks.now.entries db c.in_ok-firsts.ensures
    (λ place. c.in_ok-set.ensures place
    ∙ ap (λ (firsts : List ℕ). list_any (λ first. is_place_among place (places_kept (prefix c.args.bits first) c.args.networks.now.entries)) firsts) c.as_slice.ensures.keys)
    c.len.ensures.ordered has)
