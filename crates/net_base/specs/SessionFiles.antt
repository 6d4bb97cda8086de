-- The tree under /net as 9P sees it: qids, walks, and the modes of an open.
use Rattle.std.specs.Prelude.{ℕ, ◌+◌, ◌*◌, ◌==◌, ◌||◌, Bool, true, false, List, [], ◌∷◌, ◌++◌, Option, Some, None, is_some, bytes_eq, codes, if◌then◌else◌}
use Rattle.std.specs.List.{list_any}
use Rattle.std.specs.Option.{option_and_then, option_map_or}
use Rattle.net_base.specs.declared.address.Proto.{Proto}
use Rattle.net_base.specs.declared.address.Proto.TheVariants as proto
use Rattle.net_base.specs.declared.names.FileName.{FileName}
use Rattle.net_base.specs.declared.names.FileName.TheVariants as file
use Rattle.net_base.specs.declared.names.Mode.{Mode}
use Rattle.net_base.specs.declared.names.Mode.TheVariants as mode
use Rattle.net_base.specs.declared.names.Node.{Node}
use Rattle.net_base.specs.declared.names.Node.TheVariants as node
use Rattle.net_base.specs.Paths.{path_of, walk}
use Rattle.net_base.specs.declared.ninep.Qid.{Qid}

-- ---- kinds of files

abbrev pub is_directory : Node → Bool
is_directory node.Root = true
is_directory (node.Proto p) = true
is_directory (node.Dir p n) = true
is_directory _ = false

abbrev pub is_cs : Node → Bool
is_cs node.Cs = true
is_cs _ = false

abbrev pub is_data_node : Node → Bool
is_data_node (node.File p n file.Data) = true
is_data_node _ = false

-- a file but cs: what a script can open
abbrev pub is_plain : Node → Bool
is_plain (node.Clone p) = true
is_plain (node.File p n f) = true
is_plain _ = false

-- ---- qids

abbrev pub proto_number : Proto → ℕ
proto_number proto.Il = 0
proto_number proto.Udp = 1

abbrev pub file_number : FileName → ℕ
file_number file.Ctl = 1
file_number file.Data = 2
file_number file.Err = 3
file_number file.Listen = 4
file_number file.Local = 5
file_number file.Remote = 6
file_number file.Status = 7

-- the numbers of a conversation's files begin here
abbrev pub dir_number : Proto → ℕ → ℕ
dir_number p n = 16 * (1 + 32 * proto_number p + n)

abbrev pub qid_number : Node → ℕ
qid_number node.Root = 0
qid_number node.Cs = 1
qid_number (node.Proto p) = 2 + proto_number p
qid_number (node.Clone p) = 4 + proto_number p
qid_number (node.Dir p n) = dir_number p n
qid_number (node.File p n f) = dir_number p n + file_number f

-- version 0, and type 128 for a directory
abbrev pub qid_of : Node → Qid
qid_of at = record { kind = if is_directory at then 128 else 0; version = 0; path = qid_number at }

-- ---- walks

-- `..` goes up, from a file too, and from /net to itself
abbrev pub parent : Node → Node
parent node.Root = node.Root
parent node.Cs = node.Root
parent (node.Proto p) = node.Root
parent (node.Clone p) = node.Proto p
parent (node.Dir p n) = node.Proto p
parent (node.File p n f) = node.Dir p n

-- what the path, `/` and the name name, where the name has no `/` itself
abbrev pub child : Node → List ℕ → Option Node
child at name = if list_any (λ (b : ℕ). b == 47) name then None else walk (path_of at ++ codes "/" ++ name)

abbrev pub step_to : Node → List ℕ → Option Node
step_to at name = if bytes_eq name (codes "..") then Some (parent at) else child at name

-- what a walk passes, as far as its names are found
abbrev pub walked : Node → List (List ℕ) → List Node
walked at [] = []
walked at (name ∷ names) = option_map_or (λ (next : Node). next ∷ walked next names) (step_to at name) []

-- where it ends, where all of them are
abbrev pub reached : Node → List (List ℕ) → Option Node
reached at [] = Some at
reached at (name ∷ names) = option_and_then (λ (next : Node). reached next names) (step_to at name)

-- ---- modes

-- the modes of a file: 0 reads, 1 writes, 2 does both; the bit 16 is ignored
abbrev pub access : ℕ → Option Mode
access n =
    if (n == 0) || (n == 16) then Some mode.Read
    else if (n == 1) || (n == 17) then Some mode.Write
    else if (n == 2) || (n == 18) then Some mode.Both
    else None

-- a directory opens with mode 0 alone
abbrev pub can_open : Node → ℕ → Bool
can_open at n = if is_directory at then n == 0 else is_some (access n)
