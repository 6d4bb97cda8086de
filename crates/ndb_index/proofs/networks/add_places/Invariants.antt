use Rattle.std.proofs.Common.{◌≡◌, ℕ, ◌||◌, take}
use Rattle.ndb_index.specs.Nets.{is_place_among}
use Rattle.ndb_index.proofs.networks.add_places.Given as goal

abbrev pub invariant-loop-place : goal.invariant-loop-place
invariant-loop-place l =
    (place : ℕ) → is_place_among place l.set.keys ≡ (is_place_among place l.initial.set.keys || is_place_among place (take l.place-index l.places))
