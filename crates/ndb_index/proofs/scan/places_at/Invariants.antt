use Rattle.std.proofs.Common.{◌≡◌, map, take}
use Rattle.ndb_index.proofs.scan.places_at.Given as goal

abbrev pub invariant-loop-spot : goal.invariant-loop-spot
invariant-loop-spot l = l.places ≡ map (λ spot. spot.place) (take l.spot-index l.spots)
