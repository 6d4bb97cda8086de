-- Pieces that are written one behind the other.
use Rattle.std.proofs.Common.{◌≡◌, ℕ, ◌+◌, ◌/◌, ◌%◌, ◌^◌, ◌<◌, ◌≤◌, suc, zero, List, [], ◌∷◌, ◌++◌, length, get_or, take, refl, sym, ap, ◌∙◌, arith, append_assoc, length-append, add-one}
use Rattle.std.specs.Prelude.{decimal}
use Rattle.std.proofs.lemmas.Fmt.{length-decimal-le}
use Rattle.std.proofs.lemmas.List.{append-nil}
use Rattle.net_base.specs.ControlWords.{place}
use Rattle.ctl_words.specs.declared.spelled.Piece.{Piece}
use Rattle.ctl_words.specs.Written.{piece_text, written}

written_next : (ps : List Piece) (i : ℕ) (d : Piece) → i < length ps → written (take (suc i) ps) ≡ written (take i ps) ++ piece_text (get_or ps i d)
written_next [] i d within = absurd (omega (arith, within))
written_next (p ∷ ps) zero d within = append-nil (piece_text p)
written_next (p ∷ ps) (suc i) d within =
    ap (λ (xs : List ℕ). piece_text p ++ xs) (written_next ps i d (omega (arith, within)))
    ∙ sym (append_assoc (piece_text p) (written (take i ps)) (piece_text (get_or ps i d)))

-- the pieces up to a place, and one more
pub written_more : (ps : List Piece) (i : ℕ) (d : Piece) → i < length ps → written (take (i + 1) ps) ≡ written (take i ps) ++ piece_text (get_or ps i d)
written_more ps i d within = rw add-one (written_next ps i d within)

-- what is written so far is no longer than the whole
written_fits : (ps : List Piece) (i : ℕ) (d : Piece) → i < length ps → length (written (take i ps)) + length (piece_text (get_or ps i d)) ≤ length (written ps)
written_fits [] i d within = absurd (omega (arith, within))
written_fits (p ∷ ps) zero d within = omega (arith, length-append (piece_text p) (written ps))
written_fits (p ∷ ps) (suc i) d within =
    omega (arith, written_fits ps i d (omega (arith, within)), length-append (piece_text p) (written ps), length-append (piece_text p) (written (take i ps)))

-- there is room for the next piece
pub has_room : (ps : List Piece) (i : ℕ) (d : Piece) (at : ℕ) → at ≡ length (written (take i ps)) → length (written ps) ≤ 48 → i < length ps → at + length (piece_text (get_or ps i d)) ≤ 48
has_room ps i d at is short within = omega (arith, is, short, written_fits ps i d within)

pub end_is : (ps : List Piece) (i : ℕ) (d : Piece) (at end : ℕ) → at ≡ length (written (take i ps)) → end ≡ at + length (piece_text (get_or ps i d)) → i < length ps → end ≡ length (written (take (i + 1) ps))
end_is ps i d at end is next within = omega (arith, is, next, ap length (written_more ps i d within), length-append (written (take i ps)) (piece_text (get_or ps i d)))

-- Lengths.

pub number_fits : (word : List ℕ) (n : ℕ) → length word ≤ 11 → n < 2 ^ 32 → length (word ++ (decimal n ++ [])) ≤ 48
number_fits word n short small =
    omega (arith, short, length-append word (decimal n ++ []), length-append (decimal n) [], length-decimal-le 10 n (omega arith) (omega (arith, small)) (omega (arith, small)))

octet_short : (n : ℕ) → n < 256 → length (decimal n) ≤ 3
octet_short n small = length-decimal-le 3 n (omega arith) (omega (arith, small)) (omega (arith, small))

port_short : (n : ℕ) → n < 65536 → length (decimal n) ≤ 5
port_short n small = length-decimal-le 5 n (omega arith) (omega (arith, small)) (omega (arith, small))

behind : (xs : List ℕ) (c : ℕ) (ys : List ℕ) (m n : ℕ) → length xs ≤ m → length ys ≤ n → length (xs ++ c ∷ ys) ≤ m + n + 1
behind xs c ys m n a b = omega (arith, a, b, length-append xs (c ∷ ys))

in_front : (xs ys : List ℕ) (m n : ℕ) → length xs ≤ m → length ys ≤ n → length (xs ++ ys) ≤ m + n
in_front xs ys m n a b = omega (arith, a, b, length-append xs ys)

pub place_fits : (word rest : List ℕ) (ip port : ℕ) → length word ≤ 11 → length rest ≤ 6 → ip < 2 ^ 32 → port < 65536
    → length (word ++ (decimal (ip / 16777216) ++ 46 ∷ (decimal (ip / 65536 % 256) ++ 46 ∷ (decimal (ip / 256 % 256) ++ 46 ∷ (decimal (ip % 256) ++ 33 ∷ (decimal port ++ rest)))))) ≤ 48
place_fits word rest ip port short few small is_port =
    let last : length (decimal port ++ rest) ≤ 11 = omega (arith, few, length-append (decimal port) rest, port_short port is_port) in
    let fourth = behind (decimal (ip % 256)) 33 (decimal port ++ rest) 3 11 (octet_short (ip % 256) (omega arith)) last in
    let third = behind (decimal (ip / 256 % 256)) 46 _ 3 15 (octet_short (ip / 256 % 256) (omega arith)) fourth in
    let second = behind (decimal (ip / 65536 % 256)) 46 _ 3 19 (octet_short (ip / 65536 % 256) (omega arith)) third in
    let first = behind (decimal (ip / 16777216)) 46 _ 3 23 (octet_short (ip / 16777216) (omega (arith, small))) second in
    in_front word _ 21 27 (omega (arith, short)) first

pub last_fits : (port : ℕ) → port < 65536 → length (32 ∷ (decimal port ++ [])) ≤ 6
last_fits port is_port = omega (arith, length-append (decimal port) [], port_short port is_port)

-- Spellings.

pub place_pieces : (word : List ℕ) (ip port : ℕ)
    → word ++ (decimal (ip / 16777216) ++ 46 ∷ (decimal (ip / 65536 % 256) ++ 46 ∷ (decimal (ip / 256 % 256) ++ 46 ∷ (decimal (ip % 256) ++ 33 ∷ (decimal port ++ [])))))
    ≡ word ++ place (record { ip = ip; port = port })
place_pieces word ip port = simp (append_assoc, append-nil {A = ℕ}) refl

pub place_port_pieces : (word : List ℕ) (ip port last : ℕ)
    → word ++ (decimal (ip / 16777216) ++ 46 ∷ (decimal (ip / 65536 % 256) ++ 46 ∷ (decimal (ip / 256 % 256) ++ 46 ∷ (decimal (ip % 256) ++ 33 ∷ (decimal port ++ 32 ∷ (decimal last ++ []))))))
    ≡ word ++ place (record { ip = ip; port = port }) ++ 32 ∷ [] ++ decimal last
place_port_pieces word ip port last = simp (append_assoc, append-nil {A = ℕ}) refl
