use Rattle.std.proofs.Common.{[], arith, ◌<◌, length}
use Rattle.std.specs.Prelude.{filter_map}
use Rattle.net_base.specs.Networks.{network_of}
use Rattle.net_base.proofs.Shared.{own-default}
use Rattle.ndb_search.proofs.Behind.{of-all}
use Rattle.ndb_search.proofs.Owned.{network_more, network_less}
use Rattle.ndb_search.proofs.networks.all_networks.Goals as goal

pub loop-place-preserved : goal.loop-place-preserved
loop-place-preserved c =
    let h : c.loop-place.place < length c.args.db.now = omega (arith, c.loop-place-test.true, c.len-place-end.ensures) in
    network_more c.args.db.now c.loop-place.place c.tuple.result c.network_of.result c.in-Some.network c.loop-place.networks.items c.push.new.self.items
    h (own-default c.args.db.now c.loop-place.place c.tuple.result [] h c.tuple.ensures) c.network_of.ensures c.in-Some.is c.loop-place.invariant c.in_ok-push.ensures.items

pub loop-place-preserved-in_default : goal.loop-place-preserved-in_default
loop-place-preserved-in_default c =
    let h : c.loop-place.place < length c.args.db.now = omega (arith, c.loop-place-test.true, c.len-place-end.ensures) in
    network_less c.args.db.now c.loop-place.place c.tuple.result c.network_of.result c.loop-place.networks.items
    h (own-default c.args.db.now c.loop-place.place c.tuple.result [] h c.tuple.ensures) c.network_of.ensures c.in_default.is c.loop-place.invariant

pub returns : goal.returns
returns c = of-all (filter_map network_of) c.args.db.now c.loop-place.place _ (omega (arith, c.loop-place-test.false, c.len-place-end.ensures)) c.loop-place.invariant
