-- What it means that a line of a database's text is the first bad one.
use Rattle.std.specs.Prelude.{◌≡◌, ◌+◌, ◌<◌, ℕ, Bool, List, [], length, take, slice_index_or, Option, None, Some}
use Rattle.net_base.specs.NdbBundle.{has_tuple, least_of_causes}

-- the least cause of the line at a place of these, from 0
abbrev pub least_at : (Bool → List ℕ → List ℕ) → List (List ℕ) → ℕ → Option ℕ
least_at causes lines place = least_of_causes (causes (has_tuple (take place lines)) (slice_index_or lines place []))

-- the line with this number, from 1, has this least cause, and no line before it has a cause
pub record IsFirstBadFile (causes : Bool → List ℕ → List ℕ) (lines : List (List ℕ)) (number cause : ℕ) : Type 0 where
  pub place : ℕ
  pub within : place < length lines
  pub number_is : number ≡ place + 1
  pub cause_is : least_at causes lines place ≡ Some cause
  pub others : (j : ℕ) → j < place → least_at causes lines j ≡ None
