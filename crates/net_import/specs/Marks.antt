-- Which fids the remote files of a call have, a mark for each number from 1 on.
use Rattle.std.specs.Prelude.{ℕ, ◌-◌, ◌==◌, ◌&&◌, Bool, true, if◌then◌else◌, List, map, bytes_eq, nat_le, slice_set}
use Rattle.std.specs.List.{list_any, range_with_len}
use Rattle.net_base.specs.declared.left.Remote.{Remote}

-- the remote files of this call that have the fid
abbrev pub has : List ℕ → ℕ → Remote → Bool
has call n r = bytes_eq call r.call && (r.fid == n)

-- so many marks
abbrev pub marks : List Remote → List ℕ → ℕ → List Bool
marks rs call k = map (λ (n : ℕ). list_any (λ (r : Remote). bytes_eq call r.call && (r.fid == n)) rs) (range_with_len 1 k)

-- these with that of a remote file, if it is the call's
abbrev pub remote_marked : List Bool → Remote → List ℕ → List Bool
remote_marked taken r call = if bytes_eq call r.call && nat_le 1 r.fid then slice_set taken (r.fid - 1) true else taken
