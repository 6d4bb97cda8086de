-- Words that stand behind one another.
use Rattle.std.proofs.Common.{◌≡◌, ℕ, List, [], ◌∷◌, ◌++◌, refl, append_assoc}
use Rattle.net_base.specs.Transcript.{spaced}

pub spaced_both : (xs ys : List (List ℕ)) → spaced (xs ++ ys) ≡ spaced xs ++ spaced ys
spaced_both [] ys = refl
spaced_both (x ∷ xs) ys = simp (spaced_both xs ys, append_assoc) refl
