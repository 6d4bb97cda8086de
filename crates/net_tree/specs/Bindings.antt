-- What a contract sees of the names that are bound.
use Rattle.std.specs.Prelude.{ℕ, List, [], ◌∷◌, Vec, vec_items, Option, bytes_eq}
use Rattle.std.specs.List.{IsDistinct}
use Rattle.std.specs.Map.{keys_of}
use Rattle.net_base.specs.Steps.{Bound, Fid as File}
use Rattle.net_tree.specs.declared.fids.Fid.{Fid}

-- the names that are bound, the newest first, and the name that there is room for
pub record Bindings : Type 0 where
  pub names : List Bound
  pub reserved : Option (List ℕ)

abbrev pub bindings : List Bound → Option (List ℕ) → Bindings
bindings names reserved = record { names = names; reserved = reserved }

-- the open file of the definitions
abbrev pub bound_file : Fid → File
bound_file f = record { proto = f.proto; slot = f.slot; generation = f.generation; file = f.file; mode = f.mode }

-- a name that is bound stands first
abbrev pub name_in_front : List ℕ → File → List Bound → List Bound
name_in_front called fid names = record { called = called; fid = fid } ∷ names

module _ {Z : Type 0} where
  abbrev pub bound_of : Vec ℕ Z × Fid → Bound
  bound_of e = record { called = vec_items e.0; fid = bound_file e.1 }

  -- these names, before which stand those of the entries, the last first
  abbrev pub newest_onto : List Bound → List (Vec ℕ Z × Fid) → List Bound
  newest_onto names [] = names
  newest_onto names (e ∷ es) = newest_onto (bound_of e ∷ names) es

  -- no text stands twice
  abbrev pub AreApart : List (Vec ℕ Z × Fid) → Type 0
  AreApart entries = IsDistinct (λ x y. bytes_eq (vec_items x) (vec_items y)) (keys_of entries)
