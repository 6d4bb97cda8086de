-- Reading a message's fields from left to right. A reading is a value and the bytes after it; there is none where the fields don't fill the message.
use Rattle.std.specs.Prelude.{ℕ, zero, suc, List, [], ◌∷◌, length, take, drop, Option, Some, None, Bool, ◌&&◌, nat_lt, nat_le, ◌==◌, if◌then◌else◌}
use Rattle.std.specs.List.{list_all}
use Rattle.byteorder.specs.Endian.{little_number}
use Rattle.net_base.specs.NinepFaults.{size_field, type_field, tag_field}
use Rattle.net_base.specs.NinepMessages.{longest}
use Rattle.net_base.specs.World.{is_byte}
use Rattle.net_base.specs.declared.ninep.Qid.{Qid}
use Rattle.net_base.specs.declared.ninep.Tmsg.{Tmsg}
use Rattle.net_base.specs.declared.ninep.Tmsg.TheVariants as t
use Rattle.net_base.specs.declared.ninep.Rmsg.{Rmsg}
use Rattle.net_base.specs.declared.ninep.Rmsg.TheVariants as r

infixl 10 ◌>>=◌
abbrev pub ◌>>=◌ : {A B : Type 0} → Option A → (A → Option B) → Option B
(Some x) >>= f = f x
None >>= f = None

-- ---- fields

abbrev pub Reader : Type 0 → Type 0
Reader A = List ℕ → Option (A × List ℕ)

-- one reading, and behind it another
abbrev pub both : {A B : Type 0} → Reader A → Reader B → List ℕ → Option ((A × B) × List ℕ)
both first second bytes =
    first bytes >>= (λ a. second a.1 >>= (λ b. Some ((a.0, b.0), b.1)))

-- a reading, and what is made of it
abbrev pub making : {A B : Type 0} → Reader A → (A → B) → List ℕ → Option (B × List ℕ)
making read made bytes = read bytes >>= (λ a. Some (made a.0, a.1))

-- nothing is read
abbrev pub nothing : {A : Type 0} → A → List ℕ → Option (A × List ℕ)
nothing x bytes = Some (x, bytes)

abbrev pub number_at : ℕ → List ℕ → Option (ℕ × List ℕ)
number_at k bytes = if nat_lt (length bytes) k then None else Some (little_number k bytes, drop k bytes)

-- so many bytes
abbrev pub bytes_at : ℕ → List ℕ → Option (List ℕ × List ℕ)
bytes_at n bytes = if nat_lt (length bytes) n then None else Some (take n bytes, drop n bytes)

unfoldable pub counted_at : ℕ → List ℕ → Option (List ℕ × List ℕ)
counted_at k bytes = number_at k bytes >>= (λ n. bytes_at n.0 n.1)

abbrev pub qid_from : ℕ × (ℕ × ℕ) → Qid
qid_from q = record { kind = q.0; version = q.1.0; path = q.1.1 }

unfoldable pub qid_at : List ℕ → Option (Qid × List ℕ)
qid_at bytes = making (both (number_at 1) (both (number_at 4) (number_at 8))) qid_from bytes

unfoldable pub list_at : {A : Type 0} → Reader A → ℕ → List ℕ → Option (List A × List ℕ)
list_at one zero bytes = Some ([], bytes)
list_at one (suc n) bytes = one bytes >>= (λ x. list_at one n x.1 >>= (λ xs. Some (x.0 ∷ xs.0, xs.1)))

-- at most sixteen, after how many they are
unfoldable pub many_at : {A : Type 0} → Reader A → List ℕ → Option (List A × List ℕ)
many_at one bytes = number_at 2 bytes >>= (λ n. if nat_lt n.0 17 then list_at one n.0 n.1 else None)

-- ---- messages

-- the fields of each T-message with a tag

unfoldable pub t_version : ℕ → List ℕ → Option (Tmsg × List ℕ)
t_version tag bytes = making (both (number_at 4) (counted_at 2)) (λ f. t.Version tag f.0 f.1) bytes

unfoldable pub t_auth : ℕ → List ℕ → Option (Tmsg × List ℕ)
t_auth tag bytes = making (both (number_at 4) (both (counted_at 2) (counted_at 2))) (λ f. t.Auth tag f.0 f.1.0 f.1.1) bytes

unfoldable pub t_attach : ℕ → List ℕ → Option (Tmsg × List ℕ)
t_attach tag bytes = making (both (number_at 4) (both (number_at 4) (both (counted_at 2) (counted_at 2)))) (λ f. t.Attach tag f.0 f.1.0 f.1.1.0 f.1.1.1) bytes

unfoldable pub t_flush : ℕ → List ℕ → Option (Tmsg × List ℕ)
t_flush tag bytes = making (number_at 2) (λ f. t.Flush tag f) bytes

unfoldable pub t_walk : ℕ → List ℕ → Option (Tmsg × List ℕ)
t_walk tag bytes = making (both (number_at 4) (both (number_at 4) (many_at (counted_at 2)))) (λ f. t.Walk tag f.0 f.1.0 f.1.1) bytes

unfoldable pub t_open : ℕ → List ℕ → Option (Tmsg × List ℕ)
t_open tag bytes = making (both (number_at 4) (number_at 1)) (λ f. t.Open tag f.0 f.1) bytes

unfoldable pub t_create : ℕ → List ℕ → Option (Tmsg × List ℕ)
t_create tag bytes = making (both (number_at 4) (both (counted_at 2) (both (number_at 4) (number_at 1)))) (λ f. t.Create tag f.0 f.1.0 f.1.1.0 f.1.1.1) bytes

unfoldable pub t_read : ℕ → List ℕ → Option (Tmsg × List ℕ)
t_read tag bytes = making (both (number_at 4) (both (number_at 8) (number_at 4))) (λ f. t.Read tag f.0 f.1.0 f.1.1) bytes

unfoldable pub t_write : ℕ → List ℕ → Option (Tmsg × List ℕ)
t_write tag bytes = making (both (number_at 4) (both (number_at 8) (counted_at 4))) (λ f. t.Write tag f.0 f.1.0 f.1.1) bytes

unfoldable pub t_clunk : ℕ → List ℕ → Option (Tmsg × List ℕ)
t_clunk tag bytes = making (number_at 4) (λ f. t.Clunk tag f) bytes

unfoldable pub t_remove : ℕ → List ℕ → Option (Tmsg × List ℕ)
t_remove tag bytes = making (number_at 4) (λ f. t.Remove tag f) bytes

unfoldable pub t_stat : ℕ → List ℕ → Option (Tmsg × List ℕ)
t_stat tag bytes = making (number_at 4) (λ f. t.Stat tag f) bytes

unfoldable pub t_wstat : ℕ → List ℕ → Option (Tmsg × List ℕ)
t_wstat tag bytes = making (both (number_at 4) (counted_at 2)) (λ f. t.Wstat tag f.0 f.1) bytes

-- the T-message of a type and a tag
unfoldable pub t_at : ℕ → ℕ → List ℕ → Option (Tmsg × List ℕ)
t_at n tag bytes =
    if n == 100 then t_version tag bytes
    else if n == 102 then t_auth tag bytes
    else if n == 104 then t_attach tag bytes
    else if n == 108 then t_flush tag bytes
    else if n == 110 then t_walk tag bytes
    else if n == 112 then t_open tag bytes
    else if n == 114 then t_create tag bytes
    else if n == 116 then t_read tag bytes
    else if n == 118 then t_write tag bytes
    else if n == 120 then t_clunk tag bytes
    else if n == 122 then t_remove tag bytes
    else if n == 124 then t_stat tag bytes
    else if n == 126 then t_wstat tag bytes
    else None

-- the fields of each R-message with a tag

unfoldable pub r_version : ℕ → List ℕ → Option (Rmsg × List ℕ)
r_version tag bytes = making (both (number_at 4) (counted_at 2)) (λ f. r.Version tag f.0 f.1) bytes

unfoldable pub r_auth : ℕ → List ℕ → Option (Rmsg × List ℕ)
r_auth tag bytes = making qid_at (λ f. r.Auth tag f) bytes

unfoldable pub r_attach : ℕ → List ℕ → Option (Rmsg × List ℕ)
r_attach tag bytes = making qid_at (λ f. r.Attach tag f) bytes

unfoldable pub r_error : ℕ → List ℕ → Option (Rmsg × List ℕ)
r_error tag bytes = making (counted_at 2) (λ f. r.Error tag f) bytes

abbrev pub r_flush : ℕ → List ℕ → Option (Rmsg × List ℕ)
r_flush tag bytes = nothing (r.Flush tag) bytes

unfoldable pub r_walk : ℕ → List ℕ → Option (Rmsg × List ℕ)
r_walk tag bytes = making (many_at qid_at) (λ f. r.Walk tag f) bytes

unfoldable pub r_open : ℕ → List ℕ → Option (Rmsg × List ℕ)
r_open tag bytes = making (both qid_at (number_at 4)) (λ f. r.Open tag f.0 f.1) bytes

unfoldable pub r_create : ℕ → List ℕ → Option (Rmsg × List ℕ)
r_create tag bytes = making (both qid_at (number_at 4)) (λ f. r.Create tag f.0 f.1) bytes

unfoldable pub r_read : ℕ → List ℕ → Option (Rmsg × List ℕ)
r_read tag bytes = making (counted_at 4) (λ f. r.Read tag f) bytes

unfoldable pub r_write : ℕ → List ℕ → Option (Rmsg × List ℕ)
r_write tag bytes = making (number_at 4) (λ f. r.Write tag f) bytes

abbrev pub r_clunk : ℕ → List ℕ → Option (Rmsg × List ℕ)
r_clunk tag bytes = nothing (r.Clunk tag) bytes

abbrev pub r_remove : ℕ → List ℕ → Option (Rmsg × List ℕ)
r_remove tag bytes = nothing (r.Remove tag) bytes

unfoldable pub r_stat : ℕ → List ℕ → Option (Rmsg × List ℕ)
r_stat tag bytes = making (counted_at 2) (λ f. r.Stat tag f) bytes

abbrev pub r_wstat : ℕ → List ℕ → Option (Rmsg × List ℕ)
r_wstat tag bytes = nothing (r.Wstat tag) bytes

-- the R-message of a type and a tag
unfoldable pub r_at : ℕ → ℕ → List ℕ → Option (Rmsg × List ℕ)
r_at n tag bytes =
    if n == 101 then r_version tag bytes
    else if n == 103 then r_auth tag bytes
    else if n == 105 then r_attach tag bytes
    else if n == 107 then r_error tag bytes
    else if n == 109 then r_flush tag bytes
    else if n == 111 then r_walk tag bytes
    else if n == 113 then r_open tag bytes
    else if n == 115 then r_create tag bytes
    else if n == 117 then r_read tag bytes
    else if n == 119 then r_write tag bytes
    else if n == 121 then r_clunk tag bytes
    else if n == 123 then r_remove tag bytes
    else if n == 125 then r_stat tag bytes
    else if n == 127 then r_wstat tag bytes
    else None

-- all of the bytes are read
abbrev pub all_of : {A : Type 0} → Reader A → List ℕ → Option A
all_of read bytes = read bytes >>= (λ x. if length x.1 == 0 then Some x.0 else None)

-- the T-message behind a header
abbrev pub t_of : List ℕ → Option Tmsg
t_of bytes = all_of (t_at (type_field bytes) (tag_field bytes)) (drop 7 bytes)

-- the R-message behind a header
abbrev pub r_of : List ℕ → Option Rmsg
r_of bytes = all_of (r_at (type_field bytes) (tag_field bytes)) (drop 7 bytes)

-- ---- whole messages

-- bytes, as many as the size before them says, and no more than there may be
abbrev pub is_framed : List ℕ → Bool
is_framed bytes = list_all is_byte bytes && (nat_le 7 (length bytes) && ((size_field bytes == length bytes) && nat_le (length bytes) longest))

-- the T-message that these bytes spell, if they spell one
abbrev pub read_t : List ℕ → Option Tmsg
read_t bytes = if is_framed bytes then t_of bytes else None

-- the R-message
abbrev pub read_r : List ℕ → Option Rmsg
read_r bytes = if is_framed bytes then r_of bytes else None
