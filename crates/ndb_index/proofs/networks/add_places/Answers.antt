use Rattle.std.proofs.Common.{◌∙◌, ap, nat_eq, arith}
use Rattle.ndb_index.specs.Nets.{is_place_among}
use Rattle.ndb_index.proofs.Covering.{or_more}
use Rattle.ndb_index.proofs.Own.{among_inserted}
use Rattle.ndb_index.proofs.networks.add_places.Goals as goal

pub loop-place-preserved : goal.loop-place-preserved
loop-place-preserved c = λ place.
    or_more (nat_eq place) c.args.places.now c.loop-place.place-index 0 (is_place_among place c.args.set.now.keys) (is_place_among place c.loop-place.set.keys) _ (omega arith) (c.loop-place.invariant place)
    (ap (is_place_among place) c.in_ok-insert.ensures.keys ∙ among_inserted place c.loop-place.set.keys _)
