-- No message of an importing step is too long.
use Rattle.std.proofs.Common.{◌≡◌, ◌≤◌, ◌<◌, ℕ, ◌+◌, ◌*◌, ◌&&◌, true, List, [], ◌∷◌, length, drop, ap, ◌∙◌, arith}
use Rattle.std.specs.Prelude.{bytes_eq, codes, nat_le}
use Rattle.std.specs.List.{flat_map, list_all}
use Rattle.std.proofs.lemmas.Bool.{and_parts, false≢true, leb-true}
use Rattle.std.proofs.lemmas.List.{length-append}
use Rattle.std.proofs.lemmas.List.Concat.{flat_map-cons}
use Rattle.net_base.specs.declared.names.Mode.{Mode}
use Rattle.net_base.specs.declared.ninep.Tmsg.{Tmsg}
use Rattle.net_base.specs.Addresses.{parts_at}
use Rattle.net_base.specs.Imports.{attach_message, clunk_message, open_message, read_message, version_message, walk_message, write_message}
use Rattle.net_base.specs.NinepFields.{string}
use Rattle.net_base.specs.NinepMessages.{longest, t_bytes, t_fields, t_names}
use Rattle.net_base.specs.Remotes.{are_net, is_remote_name, is_remote_path, path_names}

-- behind its header a message has its fields
bytes_length : (m : Tmsg) → length (t_bytes m) ≡ 7 + length (t_fields m)
unfolding t_bytes
bytes_length m = omega arith

pub version_short : length (t_bytes version_message) ≤ longest
version_short = omega (arith, bytes_length version_message)

pub attach_short : length (t_bytes attach_message) ≤ longest
attach_short = omega (arith, bytes_length attach_message)

pub open_short : (fid : ℕ) (m : Mode) → length (t_bytes (open_message fid m)) ≤ longest
open_short fid m = omega (arith, bytes_length (open_message fid m))

pub read_short : (fid count : ℕ) → length (t_bytes (read_message fid count)) ≤ longest
read_short fid count = omega (arith, bytes_length (read_message fid count))

pub write_short : (fid : ℕ) (text : List ℕ) → length text ≤ 488 → length (t_bytes (write_message fid text)) ≤ longest
write_short fid text short = omega (arith, bytes_length (write_message fid text), short)

pub clunk_short : (fid : ℕ) → length (t_bytes (clunk_message fid)) ≤ longest
clunk_short fid = omega (arith, bytes_length (clunk_message fid))

-- ---- walks

-- names of at most 27 bytes, each after its length
names_length : (names : List (List ℕ)) → list_all is_remote_name names ≡ true → length (flat_map string names) ≤ 29 * length names
names_length [] are = omega arith
names_length (x ∷ xs) are =
    let parts = and_parts (is_remote_name x) (list_all is_remote_name xs) are in
    let ends = and_parts (nat_le 1 (length x)) (nat_le (length x) 27) parts.0 in
    let one : length x ≤ 27 = leb-true (length x) 27 ends.1 in
    let all : length (flat_map string (x ∷ xs)) ≡ (2 + length x) + length (flat_map string xs) =
    ap length (flat_map-cons string x xs) ∙ omega (arith, length-append x (flat_map string xs)) in
    omega (arith, one, all, names_length xs parts.1)

-- the names behind `/net` are few, and short
behind_net : (parts : List (List ℕ)) → are_net parts ≡ true → (length (drop 2 parts) ≤ 16) × (list_all is_remote_name (drop 2 parts) ≡ true)
behind_net [] are = absurd (false≢true are)
behind_net (root ∷ []) are = absurd (false≢true are)
behind_net (root ∷ net ∷ names) are =
    let one = and_parts (bytes_eq root []) (bytes_eq net (codes "net") && (nat_le (length names) 16 && list_all is_remote_name names)) are in
    let two = and_parts (bytes_eq net (codes "net")) (nat_le (length names) 16 && list_all is_remote_name names) one.1 in
    let three = and_parts (nat_le (length names) 16) (list_all is_remote_name names) two.1 in
    (leb-true (length names) 16 three.0, three.1)

pub walk_few : (fid : ℕ) (path : List ℕ) → is_remote_path path ≡ true → length (t_names (walk_message fid path)) < 17
walk_few fid path is = omega (arith, (behind_net (parts_at 47 path) is).0)

pub walk_short : (fid : ℕ) (path : List ℕ) → is_remote_path path ≡ true → length (t_bytes (walk_message fid path)) ≤ longest
walk_short fid path is =
    let net = behind_net (parts_at 47 path) is in
    let short : length (flat_map string (path_names path)) ≤ 29 * length (path_names path) = names_length (path_names path) net.1 in
    let few : length (path_names path) ≤ 16 = net.0 in
    omega (arith, bytes_length (walk_message fid path), short, few)
