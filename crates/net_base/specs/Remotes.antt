-- Remote files: their names, their fids, and the paths by which they are opened.
use Rattle.std.specs.Prelude.{ℕ, ◌+◌, ◌==◌, ◌&&◌, Bool, false, not, List, [], ◌∷◌, ◌++◌, filter, length, drop, Option, find, bytes_eq, codes, nat_le, unwrap_or}
use Rattle.std.specs.List.{list_all, list_any, range_with_len}
use Rattle.net_base.specs.declared.left.Left.{Left}
use Rattle.net_base.specs.declared.left.Remote.{Remote}
use Rattle.net_base.specs.Addresses.{parts_at}

-- ---- names

-- nothing is left yet
abbrev pub nothing_left : Left
nothing_left = record { remotes = [] }

abbrev pub remote_of : List ℕ → Left → Option Remote
remote_of called left = find (λ (r : Remote). bytes_eq called r.name) left.remotes

abbrev pub is_remote : Left → List ℕ → Bool
is_remote left called = list_any (λ (r : Remote). bytes_eq called r.name) left.remotes

abbrev pub with_remote : Remote → Left → Left
with_remote r left = record left { remotes = left.remotes ++ r ∷ [] }

abbrev pub without_remote : List ℕ → Left → Left
without_remote called left = record left { remotes = filter (λ (r : Remote). not (bytes_eq called r.name)) left.remotes }

-- ---- fids

-- a remote name of this call has the fid
abbrev pub has_fid : Left → List ℕ → ℕ → Bool
has_fid left call n = list_any (λ (r : Remote). bytes_eq call r.call && (r.fid == n)) left.remotes

-- the lowest from 1 that none has
abbrev pub free_fid : Left → List ℕ → ℕ
free_fid left call = unwrap_or (find (λ (n : ℕ). not (has_fid left call n)) (range_with_len 1 (length left.remotes + 1))) 0

-- ---- paths

-- the names behind `/net`
abbrev pub path_names : List ℕ → List (List ℕ)
path_names path = drop 2 (parts_at 47 path)

-- a name of 1 to 27 bytes
abbrev pub is_remote_name : List ℕ → Bool
is_remote_name called = nat_le 1 (length called) && nat_le (length called) 27

abbrev pub are_net : List (List ℕ) → Bool
are_net (root ∷ net ∷ names) = bytes_eq root [] && (bytes_eq net (codes "net") && (nat_le (length names) 16 && list_all is_remote_name names))
are_net _ = false

-- `/net`, and at most 16 names behind it, each after a slash
abbrev pub is_remote_path : List ℕ → Bool
is_remote_path path = are_net (parts_at 47 path)
