-- Names in a message that isn't too long are short.
use Rattle.std.proofs.Common.{◌≡◌, ℕ, ◌+◌, ◌^◌, ◌<◌, List, [], ◌∷◌, length, All, ap, ◌∙◌, arith}
use Rattle.std.specs.List.{flat_map, AllByRecursion}
use Rattle.std.proofs.lemmas.List.{length-append}
use Rattle.std.proofs.lemmas.List.Concat.{flat_map-cons}
use Rattle.std.proofs.lemmas.List.Elements.{All-from_recursion}
use Rattle.net_base.specs.NinepFields.{string, Counts}

pub each_counts : (names : List (List ℕ)) → length (flat_map string names) < 2 ^ 16 → AllByRecursion (Counts 2) names
each_counts [] h = tt
each_counts (x ∷ xs) h =
    let both : length (flat_map string (x ∷ xs)) ≡ (2 + length x) + length (flat_map string xs) =
    ap length (flat_map-cons string x xs) ∙ omega (arith, length-append x (flat_map string xs)) in
    (omega (arith, h, both), each_counts xs (omega (arith, h, both)))

pub each_short : (names : List (List ℕ)) → length (flat_map string names) < 2 ^ 16 → All (Counts 2) names
each_short names h = All-from_recursion (Counts 2) names (each_counts names h)
