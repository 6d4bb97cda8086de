-- What the parts of a path would name, with a slot below 32.
use Rattle.std.specs.Prelude.{◌≡◌, ◌≢◌, ℕ, List, [], ◌∷◌, ◌++◌, Option, Some, None, MatchOption, nat_lt, option_map, if◌then◌else◌}
use Rattle.std.specs.Borrow.{Bor}
use Rattle.std.specs.Str.Parse.{digits_value}
use Rattle.net_base.specs.declared.address.Proto.{Proto}
use Rattle.net_base.specs.declared.names.FileName.{FileName}
use Rattle.net_base.specs.declared.names.Node.{Node}
use Rattle.net_base.specs.declared.names.Node.TheVariants as node
use Rattle.net_base.specs.Paths.{node_in_range, clone_or_dir, file_named}

-- the node, where its slot is below 32
abbrev pub kept_node : Option Node → Option Node
kept_node None = None
kept_node (Some n) = if node_in_range n then Some n else None

-- what the parts behind a protocol would name
abbrev pub under_proto : Proto → List (List ℕ) → Option Node
under_proto p (name ∷ []) = Some (clone_or_dir name p)
under_proto p (n ∷ f ∷ []) = option_map (λ (g : FileName). node.File p (digits_value 10 n) g) (file_named f)
under_proto p _ = None

abbrev pub kept_slot : ℕ → Option ℕ
kept_slot n = if nat_lt n 32 then Some n else None

-- what stands behind a front, where the text begins with it
abbrev pub Begins : List ℕ → List ℕ → Option (Bor (List ℕ)) → Type 0
Begins text front result = MatchOption result ((rest : List ℕ) → text ≢ front ++ rest) (λ rest. text ≡ front ++ rest.now)
