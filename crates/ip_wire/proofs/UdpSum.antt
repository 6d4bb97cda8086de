-- The sum of a user datagram by its parts.
use Rattle.std.proofs.Common.{◌≡◌, ℕ, zero, suc, ◌+◌, ◌-◌, ◌<◌, ◌≤◌, List, [], ◌∷◌, ◌++◌, length, take, drop, sum, refl, sym, ap, ◌∙◌, arith}
use Rattle.std.specs.Int.{bytes_high_first}
use Rattle.net_base.specs.declared.address.Addr.{Addr}
use Rattle.net_base.specs.Bytes.{blanked}
use Rattle.formats.specs.Sum.{words, sum_of}
use Rattle.formats.specs.UdpWire.{pseudo_header, sent_sum, udp_with, udp_sum, udp_length, received_sum}
use Rattle.formats.proofs.Shared.{IsBytes, IsBytes-append, IsBytes-blanked, IsBytes-high_first, sum-words-append, sum-words-blanked}
use Rattle.ip_wire.specs.Carries.{around}
use Rattle.ip_wire.proofs.Carrying.{sum_of-words}

IsBytes-zero_and : (x : ℕ) (bytes : List ℕ) → x < 256 → IsBytes bytes → IsBytes (0 ∷ x ∷ bytes)
IsBytes-zero_and x bytes lt h zero = omega arith
IsBytes-zero_and x bytes lt h (suc zero) = lt
IsBytes-zero_and x bytes lt h (suc (suc i)) = h i

IsBytes-pseudo : (src dst count : ℕ) → IsBytes (pseudo_header src dst count)
IsBytes-pseudo src dst count =
    IsBytes-append (bytes_high_first 4 src) (bytes_high_first 4 dst ++ 0 ∷ 17 ∷ bytes_high_first 2 count) (IsBytes-high_first 4 src)
    (IsBytes-append (bytes_high_first 4 dst) (0 ∷ 17 ∷ bytes_high_first 2 count) (IsBytes-high_first 4 dst)
    (IsBytes-zero_and 17 (bytes_high_first 2 count) (omega arith) (IsBytes-high_first 2 count)))

-- the words of the pseudo header count with those after it
with_pseudo : (src dst count : ℕ) (bytes : List ℕ) → IsBytes bytes → sum_of (pseudo_header src dst count ++ bytes) ≡ 65535 - around (sum (words (pseudo_header src dst count)) + sum (words bytes))
with_pseudo src dst count bytes fits =
    sum_of-words (pseudo_header src dst count ++ bytes) (IsBytes-append (pseudo_header src dst count) bytes (IsBytes-pseudo src dst count) fits)
    ∙ ap (λ (t : ℕ). 65535 - around t) (sum-words-append 6 (pseudo_header src dst count) bytes refl)

-- a header with zero in its sum field
abbrev pub zeroed : ℕ → ℕ → ℕ → List ℕ
zeroed sport dport count = bytes_high_first 2 sport ++ (bytes_high_first 2 dport ++ (bytes_high_first 2 count ++ 0 ∷ 0 ∷ []))

IsBytes-zeroed : (sport dport count : ℕ) → IsBytes (zeroed sport dport count)
IsBytes-zeroed sport dport count =
    IsBytes-append (bytes_high_first 2 sport) (bytes_high_first 2 dport ++ (bytes_high_first 2 count ++ 0 ∷ 0 ∷ [])) (IsBytes-high_first 2 sport)
    (IsBytes-append (bytes_high_first 2 dport) (bytes_high_first 2 count ++ 0 ∷ 0 ∷ []) (IsBytes-high_first 2 dport)
    (IsBytes-append (bytes_high_first 2 count) (0 ∷ 0 ∷ []) (IsBytes-high_first 2 count) (IsBytes-high_first 2 0)))

pub udp_sum-parts : (src dst : Addr) (text : List ℕ) (pseudo header all : ℕ) → IsBytes text
    → pseudo ≡ sum (words (pseudo_header src.ip dst.ip (8 + length text)))
    → header ≡ pseudo + sum (words (zeroed src.port dst.port (8 + length text)))
    → all ≡ header + sum (words text)
    → sent_sum (65535 - around all) ≡ udp_sum src dst text
udp_sum-parts src dst text pseudo header all fits p h a =
    let front : List ℕ = zeroed src.port dst.port (8 + length text) in
    let parts : sum (words (udp_with 0 src.port dst.port text)) ≡ sum (words (zeroed src.port dst.port (8 + length text))) + sum (words text) =
    sum-words-append 4 (zeroed src.port dst.port (8 + length text)) text refl in
    let whole : all ≡ sum (words (pseudo_header src.ip dst.ip (8 + length text))) + sum (words (udp_with 0 src.port dst.port text)) = omega (arith, p, h, a, parts) in
    let bytes : IsBytes (udp_with 0 src.port dst.port text) = IsBytes-append (zeroed src.port dst.port (8 + length text)) text (IsBytes-zeroed src.port dst.port (8 + length text)) fits in
    ap (λ (t : ℕ). sent_sum (65535 - around t)) whole
    ∙ ap sent_sum (sym (with_pseudo src.ip dst.ip (8 + length text) (udp_with 0 src.port dst.port text) bytes))

pub received_sum-parts : (src dst : ℕ) (bytes : List ℕ) (count pseudo header all : ℕ) → IsBytes bytes → 8 ≤ length bytes
    → count ≡ udp_length bytes
    → pseudo ≡ sum (words (pseudo_header src dst count))
    → header ≡ pseudo + sum (words (take 6 bytes))
    → all ≡ header + sum (words (drop 8 bytes))
    → sent_sum (65535 - around all) ≡ received_sum src dst bytes
received_sum-parts src dst bytes count pseudo header all fits long n p h a =
    let parts = sum-words-blanked 3 bytes (omega arith) in
    let whole : all ≡ sum (words (pseudo_header src dst count)) + sum (words (blanked 6 bytes)) = omega (arith, p, h, a, parts) in
    ap (λ (t : ℕ). sent_sum (65535 - around t)) whole
    ∙ ap sent_sum (sym (with_pseudo src dst count (blanked 6 bytes) (IsBytes-blanked 6 bytes fits)))
    ∙ ap (λ (k : ℕ). sent_sum (sum_of (pseudo_header src dst k ++ blanked 6 bytes))) n
