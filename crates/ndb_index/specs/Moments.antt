-- The earliest moments of versions and those after them.
use Rattle.std.specs.Prelude.{ℕ, List, [], ◌∷◌, ◌++◌, nat_lt, if◌then◌else◌}
use Rattle.net_base.specs.declared.world.Version.{Version}

-- the smaller of two moments
abbrev pub sooner : ℕ → ℕ → ℕ
sooner moment other = if nat_lt moment other then moment else other

-- the earliest moment of these versions, or 0 if there is none
abbrev pub earliest : List Version → ℕ
earliest [] = 0
earliest (v ∷ []) = v.moment
earliest (v ∷ (w ∷ vs)) = sooner v.moment (earliest (w ∷ vs))

-- for each version, from the last to the first, the earliest moment of this version and those after it
abbrev pub earliest_moments : List Version → List ℕ
earliest_moments [] = []
earliest_moments (v ∷ vs) = earliest_moments vs ++ earliest (v ∷ vs) ∷ []
