use Rattle.std.proofs.Common.{◌≡◌, ℕ, take}
use Rattle.std.specs.List.{list_any}
use Rattle.ndb_index.specs.Nets.{prefix, places_kept, is_place_among}
use Rattle.ndb_index.proofs.networks.places_with.Given as goal

abbrev pub invariant-loop-first : goal.invariant-loop-first
invariant-loop-first l =
    (place : ℕ) → is_place_among place l.set.keys
    ≡ list_any (λ first. is_place_among place (places_kept (prefix l.bits first) l.networks.entries)) (take l.first-index l.firsts)
