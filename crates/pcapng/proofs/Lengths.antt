-- How long the parts of a file are.
use Rattle.std.proofs.Common.{◌≡◌, ◌≤◌, ◌<◌, ℕ, zero, suc, ◌+◌, ◌^◌, ◌&&◌, Bool, true, false, List, [], ◌∷◌, ◌++◌, length, Option, Some, None, nat_lt, refl, sym, ap, subst, ◌∙◌, length-append, arith}
use Rattle.std.specs.Prelude.{codes}
use Rattle.std.specs.Int.Digits.{digits_of}
use Rattle.std.specs.List.{list_all}
use Rattle.std.proofs.lemmas.Bool.{and_parts, false≢true, ltb-true}
use Rattle.std.proofs.lemmas.Int.Digits.{length-digits_of-le}
use Rattle.net_base.specs.declared.address.Addr.{Addr}
use Rattle.net_base.specs.declared.packet.Body.{Body}
use Rattle.net_base.specs.declared.packet.Body.TheVariants as body
use Rattle.net_base.specs.declared.packet.Packet.{Packet}
use Rattle.net_base.specs.Medium.{datagram_length}
use Rattle.net_base.specs.Numeral.{numeral}
use Rattle.net_base.specs.StepWords.{is_letter, is_name, is_name_byte}
use Rattle.formats.specs.Datagram.{body_bytes, header_for, packet_spelling}
use Rattle.formats.specs.Ipv4.{Ipv4, flagged_bytes, summed}
use Rattle.formats.specs.IlWire.{il_bytes}
use Rattle.formats.specs.UdpWire.{udp_bytes}
use Rattle.pcapng.specs.Copies.{Copies, copies_at, fate_text}

-- Packets.

header_length : (total : ℕ) (h : Ipv4) (payload : List ℕ) → length (summed false total h ++ payload) ≡ 20 + length payload
header_length total h payload = omega arith

body_length : (src dst : Addr) (b : Body) → 20 + length (body_bytes src dst b) ≡ datagram_length b
unfolding il_bytes udp_bytes
body_length src dst (body.Il m) = omega arith
body_length src dst (body.Udp text) = omega arith

pub spelled_length : (p : Packet) → length (packet_spelling p) ≡ datagram_length p.body
unfolding packet_spelling flagged_bytes
spelled_length p =
    header_length (20 + length (body_bytes p.src p.dst p.body)) (header_for p) (body_bytes p.src p.dst p.body) ∙ body_length p.src p.dst p.body

-- Comments.

shown_length : (ds : List ℕ) → length (Rattle.std.specs.Prelude.map (λ digit. 48 + digit) ds) ≡ length ds
shown_length [] = refl
shown_length (d ∷ ds) = omega (arith, shown_length ds)

pub number_length : (n : ℕ) → n < 10 ^ 10 → length (numeral n) ≤ 10
unfolding numeral
number_length zero lt = omega arith
number_length (suc n) lt =
    let few : length (digits_of 10 (suc n)) ≤ 10 = length-digits_of-le 10 10 (suc n) (omega arith) lt in
    omega (arith, few, shown_length (digits_of 10 (suc n)))

fate_length : (fate : Option Bool) → length (fate_text fate) ≤ 7
fate_length None = omega arith
fate_length (Some false) = omega arith
fate_length (Some true) = omega arith

pub text_length : (copies : Copies) (stamp medium number : ℕ) → stamp < 10 ^ 10
    → length (codes "stamp " ++ numeral stamp ++ fate_text (copies_at copies (medium, number))) < 2 ^ 16
text_length copies stamp medium number lt =
    let one = number_length stamp lt in
    let two = fate_length (copies_at copies (medium, number)) in
    let all = length-append (codes "stamp " ++ numeral stamp) (fate_text (copies_at copies (medium, number))) in
    let front = length-append (codes "stamp ") (numeral stamp) in
    within all front refl one two
  where
    within : {a b c d e : ℕ} → a ≡ b + c → b ≡ d + e → d ≡ 6 → e ≤ 10 → c ≤ 7 → a < 2 ^ 16
    within one two three four five = omega (arith, one, two, three, four, five)

-- Names.

pub name_length : (name : List ℕ) → is_name name ≡ true → length name < 2 ^ 31
name_length [] is = absurd (false≢true is)
name_length (b ∷ bs) is =
    let rest = (and_parts (is_letter b) (list_all is_name_byte bs && nat_lt (length bs) 27) is).1 in
    let few : length bs < 27 = ltb-true (length bs) 27 (and_parts (list_all is_name_byte bs) (nat_lt (length bs) 27) rest).1 in
    omega (arith, few)
