-- The paths under /net, what may be opened, and the names in a directory.
use Rattle.std.specs.Prelude.{◌≡◌, ℕ, ◌==◌, Bool, true, false, ◌&&◌, List, [], ◌∷◌, ◌++◌, Option, Some, None, codes, decimal, bytes_eq, nat_lt, option_map, if◌then◌else◌, not, slice_get, filter, map}
use Rattle.std.specs.List.{slice_split}
use Rattle.std.specs.Option.{option_and_then}
use Rattle.std.specs.Str.Parse.{digits_value}
use Rattle.net_base.specs.declared.address.Proto.{Proto}
use Rattle.net_base.specs.declared.address.Proto.TheVariants as proto
use Rattle.net_base.specs.declared.names.FileName.{FileName}
use Rattle.net_base.specs.declared.names.FileName.TheVariants as file
use Rattle.net_base.specs.declared.names.Mode.{Mode}
use Rattle.net_base.specs.declared.names.Mode.TheVariants as mode
use Rattle.net_base.specs.declared.names.Node.{Node}
use Rattle.net_base.specs.declared.names.Node.TheVariants as node

-- Spellings.

abbrev pub proto_name : Proto → List ℕ
proto_name proto.Il = codes "il"
proto_name proto.Udp = codes "udp"

abbrev pub file_name : FileName → List ℕ
file_name file.Ctl = codes "ctl"
file_name file.Data = codes "data"
file_name file.Err = codes "err"
file_name file.Listen = codes "listen"
file_name file.Local = codes "local"
file_name file.Remote = codes "remote"
file_name file.Status = codes "status"

-- the one path that names the node
abbrev pub path_of : Node → List ℕ
path_of node.Root = codes "/net"
path_of node.Cs = codes "/net/cs"
path_of (node.Proto p) = codes "/net/" ++ proto_name p
path_of (node.Clone p) = codes "/net/" ++ proto_name p ++ codes "/clone"
path_of (node.Dir p n) = codes "/net/" ++ proto_name p ++ codes "/" ++ decimal n
path_of (node.File p n f) = codes "/net/" ++ proto_name p ++ codes "/" ++ decimal n ++ codes "/" ++ file_name f

-- slots are 0 to 31
abbrev pub node_in_range : Node → Bool
node_in_range (node.Dir p n) = nat_lt n 32
node_in_range (node.File p n f) = nat_lt n 32
node_in_range _ = true

-- the path names the node
abbrev pub NamesNode : List ℕ → Node → Type 0
NamesNode path n = (node_in_range n ≡ true) × (path ≡ path_of n)

-- The reading.

abbrev pub proto_named : List ℕ → Option Proto
proto_named name = if bytes_eq name (codes "il") then Some proto.Il else (if bytes_eq name (codes "udp") then Some proto.Udp else None)

abbrev pub all_files : List FileName
all_files = file.Ctl ∷ file.Data ∷ file.Err ∷ file.Listen ∷ file.Local ∷ file.Remote ∷ file.Status ∷ []

abbrev pub file_named : List ℕ → Option FileName
file_named name = slice_get (filter (λ (f : FileName). bytes_eq name (file_name f)) all_files) 0

-- how a file is opened, by the word for it
abbrev pub mode_named : List ℕ → Option Mode
mode_named word =
    if bytes_eq word (codes "r")
    then Some mode.Read
    else (if bytes_eq word (codes "w") then Some mode.Write else (if bytes_eq word (codes "rw") then Some mode.Both else None))

abbrev pub cs_or_proto : List ℕ → Option Node
cs_or_proto name = if bytes_eq name (codes "cs") then Some node.Cs else option_map (λ (p : Proto). node.Proto p) (proto_named name)

-- what stands under a protocol: its clone file, or the directory of a conversation by its number
abbrev pub clone_or_dir : List ℕ → Proto → Node
clone_or_dir name p = if bytes_eq name (codes "clone") then node.Clone p else node.Dir p (digits_value 10 name)

-- what these parts of a path would name
abbrev pub node_of : List (List ℕ) → Option Node
node_of (root ∷ net ∷ []) = Some node.Root
node_of (root ∷ net ∷ name ∷ []) = cs_or_proto name
node_of (root ∷ net ∷ p ∷ name ∷ []) = option_map (clone_or_dir name) (proto_named p)
node_of (root ∷ net ∷ p ∷ n ∷ f ∷ []) =
    option_and_then (λ (q : Proto). option_map (λ (g : FileName). node.File q (digits_value 10 n) g) (file_named f)) (proto_named p)
node_of _ = None

abbrev pub is_named : List ℕ → Node → Bool
is_named path n = node_in_range n && bytes_eq path (path_of n)

-- the node, where the path names it
abbrev pub checked_node : List ℕ → Option Node → Option Node
checked_node path None = None
checked_node path (Some n) = if is_named path n then Some n else None

-- the node that a path names
abbrev pub walk : List ℕ → Option Node
walk path = checked_node path (node_of (slice_split (λ b. b == 47) path))

-- Modes and names.

abbrev pub mode_writes : Mode → Bool
mode_writes mode.Read = false
mode_writes mode.Write = true
mode_writes mode.Both = true

abbrev pub mode_reads : Mode → Bool
mode_reads mode.Read = true
mode_reads mode.Write = false
mode_reads mode.Both = true

-- err, local, remote and status are read alone
abbrev pub is_read_alone : FileName → Bool
is_read_alone file.Ctl = false
is_read_alone file.Data = false
is_read_alone file.Err = true
is_read_alone file.Listen = false
is_read_alone file.Local = true
is_read_alone file.Remote = true
is_read_alone file.Status = true

abbrev pub may_open : Node → Mode → Bool
may_open node.Root m = false
may_open node.Cs m = false
may_open (node.Proto p) m = false
may_open (node.Clone p) m = true
may_open (node.Dir p n) m = false
may_open (node.File p n f) m = if is_read_alone f then not (mode_writes m) else true

-- the names of the files of a conversation
abbrev pub file_names : List (List ℕ)
file_names = map file_name all_files

-- the names in a directory, where these slots are taken
abbrev pub names : Node → List ℕ → List (List ℕ)
names node.Root taken = codes "cs" ∷ codes "il" ∷ codes "udp" ∷ []
names (node.Proto p) taken = codes "clone" ∷ map decimal taken
names (node.Dir p n) taken = file_names
names _ taken = []
