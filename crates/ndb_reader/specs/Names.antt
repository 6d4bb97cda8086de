-- Names of files, each once, as they are put in a row, and the tuples of the files that have them.
use Rattle.std.specs.Prelude.{◌≡◌, ℕ, ◌+◌, List, [], ◌∷◌, ◌++◌, Vec, vec_items, length, map, bytes_eq, if◌then◌else◌}
use Rattle.std.specs.List.{list_any, position_or_len}
use Rattle.net_base.specs.NdbBundle.{File}
use Rattle.ndb_reader.specs.declared.chains.Chains.{Chains}
use Rattle.ndb_reader.specs.Chains.{width_of, AreChains}

-- the names with one more, unless it stands among them
abbrev pub with_one_name : List (List ℕ) → List ℕ → List (List ℕ)
with_one_name names name = if list_any (λ other. bytes_eq other name) names then names else names ++ name ∷ []

-- the names with more of them, one after the other
abbrev pub with_names : List (List ℕ) → List (List ℕ) → List (List ℕ)
with_names names [] = names
with_names names (name ∷ more) = with_names (with_one_name names name) more

-- the number of a name among the names, or how many they are
abbrev pub name_bucket : List (List ℕ) → List ℕ → ℕ
name_bucket names name = position_or_len (bytes_eq name) names

-- the chains hold these files by the numbers of their names
pub record AreByName (names : List (List ℕ)) (files : List File) (chains : Chains) : Type 0 where
  pub width : width_of chains ≡ length names + 1
  pub are : AreChains chains (map (λ file. name_bucket names file.name) files)

module _ {Z : Type 0} where
  -- the names of these keys
  abbrev pub names_seen : List (Vec ℕ Z) → List (List ℕ)
  names_seen keys = map vec_items keys
