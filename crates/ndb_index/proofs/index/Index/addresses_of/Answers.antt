use Rattle.std.proofs.Common.{List, sym, ap, ◌∙◌, arith, subst, length}
use Rattle.std.specs.Prelude.{codes}
use Rattle.net_base.specs.declared.ndb.spot.Spot.{Spot}
use Rattle.ndb_index.specs.Near.{SpotsWithin}
use Rattle.ndb_index.proofs.Nearby.{spots_within, met_are, spots_count}
use Rattle.ndb_index.proofs.index.Index.addresses_of.Goals as goal

pub add_addresses-requires : goal.add_addresses-requires
add_addresses-requires g c = subst (SpotsWithin c.args.self.now) (sym (c.deref.ensures.value ∙ c.in_ok-mine.ensures)) (spots_within (codes "sys") c.args.me.now c.args.self.now)

pub returns-clause-ips : goal.returns-clause-ips
returns-clause-ips g c =
    met_are c.args.me.now c.args.self.now c.deref.result.now c.new-ips.result.items c.add_addresses.new.ips.items (c.deref.ensures.value ∙ c.in_ok-mine.ensures) c.new-ips.ensures.items c.in_ok-add_addresses.ensures.ips

pub returns-clause-cost : goal.returns-clause-cost
returns-clause-cost g c =
    omega (arith, c.add_addresses.ensures.cost, ap (λ (spots : List Spot). length spots) (c.deref.ensures.value ∙ c.in_ok-mine.ensures), spots_count (codes "sys") c.args.me.now c.args.self.now)

pub returns-in_err-add_addresses-clause-cost : goal.returns-in_err-add_addresses-clause-cost
returns-in_err-add_addresses-clause-cost g c =
    omega (arith, c.add_addresses.ensures.cost, ap (λ (spots : List Spot). length spots) (c.deref.ensures.value ∙ c.in_ok-mine.ensures), spots_count (codes "sys") c.args.me.now c.args.self.now)
