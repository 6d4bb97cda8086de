-- The fields of messages of 9P: unsigned numbers with the low byte first, and texts, names and qids after how many they are.
use Rattle.std.specs.Prelude.{ℕ, ◌<◌, ◌^◌, List, ◌++◌, length}
use Rattle.std.specs.List.{flat_map, AllByRecursion}
use Rattle.byteorder.specs.Endian.{little_bytes}
use Rattle.net_base.specs.declared.ninep.Qid.{Qid}

-- ---- spelling

-- a number in so many bytes
abbrev pub number_bytes : ℕ → ℕ → List ℕ
number_bytes k n = little_bytes k n

-- bytes after how many they are, which is a number of so many bytes
abbrev pub counted : ℕ → List ℕ → List ℕ
counted k bytes = number_bytes k (length bytes) ++ bytes

-- a text: its bytes after their number in two. The data of a read or a write stand after theirs in four
abbrev pub string : List ℕ → List ℕ
string text = counted 2 text

-- what a file is to its server: its type, its version and its path
abbrev pub qid : Qid → List ℕ
qid q = number_bytes 1 q.kind ++ (number_bytes 4 q.version ++ number_bytes 8 q.path)

-- values after how many they are, which is a number of two bytes
abbrev pub many : {A : Type 0} → (A → List ℕ) → List A → List ℕ
many one xs = number_bytes 2 (length xs) ++ flat_map one xs

-- ---- what has a spelling

-- so many bytes hold the number
abbrev pub Holds : ℕ → ℕ → Type 0
Holds k n = n < 256 ^ k

-- .. and the number of these bytes
abbrev pub Counts : ℕ → List ℕ → Type 0
Counts k bytes = Holds k (length bytes)

abbrev pub IsQid : Qid → Type 0
IsQid q = Holds 1 q.kind × (Holds 4 q.version × Holds 8 q.path)

-- a walk has at most sixteen names, and its answer as many qids
abbrev pub AreFew : {A : Type 0} → (A → Type 0) → List A → Type 0
AreFew Is xs = (length xs < 17) × AllByRecursion Is xs
