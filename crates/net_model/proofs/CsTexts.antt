-- Different nets, addresses and ports have different lines.
use Rattle.std.proofs.Common.{◌≡◌, ℕ, ◌/◌, ◌%◌, ◌^◌, ◌<◌, List, [], ◌∷◌, ◌++◌, get_or, drop, refl, sym, ap, ◌∙◌, append_assoc, arith}
use Rattle.std.specs.Prelude.{decimal}
use Rattle.std.specs.Net.Text.{dotted_text}
use Rattle.std.proofs.lemmas.Fmt.{decimal_injective}
use Rattle.net_base.specs.declared.address.Proto.{Proto}
use Rattle.net_base.specs.declared.address.Proto.TheVariants.{Il, Udp}
use Rattle.net_base.specs.Addresses.{address_text, parts_at}
use Rattle.net_base.specs.Cs.{cs_line}
use Rattle.net_base.proofs.Shared.{IsWithout, decimal_without, one_part, cut_at, four_parts, dotted_without}

-- the text of an address as four numbers
dotted_is : (ip : ℕ) → address_text ip ≡ dotted_text (ip / 2 ^ 24) (ip / 2 ^ 16 % 256) (ip / 2 ^ 8 % 256) (ip % 256)
dotted_is ip = simp append_assoc refl

pub address_without : (separator ip : ℕ) → separator < 46 → ip < 2 ^ 32 → IsWithout separator (address_text ip)
address_without separator ip low small =
    rw (dotted_is ip) (dotted_without separator (ip / 2 ^ 24) (ip / 2 ^ 16 % 256) (ip / 2 ^ 8 % 256) (ip % 256) low (omega arith) (omega arith) (omega arith) (omega arith))

address_parts : (ip : ℕ) → ip < 2 ^ 32 → parts_at 46 (address_text ip) ≡ decimal (ip / 2 ^ 24) ∷ decimal (ip / 2 ^ 16 % 256) ∷ decimal (ip / 2 ^ 8 % 256) ∷ decimal (ip % 256) ∷ []
address_parts ip small =
    ap (parts_at 46) (dotted_is ip)
    ∙ four_parts (ip / 2 ^ 24) (ip / 2 ^ 16 % 256) (ip / 2 ^ 8 % 256) (ip % 256) (omega arith) (omega arith) (omega arith) (omega arith)

same_byte_text : (m n : ℕ) → m < 256 → n < 256 → decimal m ≡ decimal n → m ≡ n
same_byte_text m n low small e = decimal_injective m n (omega arith) (omega arith) e

pub same_address : (ip other : ℕ) → ip < 2 ^ 32 → other < 2 ^ 32 → address_text ip ≡ address_text other → ip ≡ other
same_address ip other small low e =
    let parts = sym (address_parts ip small) ∙ ap (parts_at 46) e ∙ address_parts other low in
    let a = same_byte_text (ip / 2 ^ 24) (other / 2 ^ 24) (omega arith) (omega arith) (ap (λ ps. get_or ps 0 []) parts) in
    let b = same_byte_text (ip / 2 ^ 16 % 256) (other / 2 ^ 16 % 256) (omega arith) (omega arith) (ap (λ ps. get_or ps 1 []) parts) in
    let c = same_byte_text (ip / 2 ^ 8 % 256) (other / 2 ^ 8 % 256) (omega arith) (omega arith) (ap (λ ps. get_or ps 2 []) parts) in
    let d = same_byte_text (ip % 256) (other % 256) (omega arith) (omega arith) (ap (λ ps. get_or ps 3 []) parts) in
    omega arith

-- an address and a port, cut at the mark between them
cut_line : (address : List ℕ) (port : ℕ) → IsWithout 33 address → port < 2 ^ 16 → parts_at 33 (address ++ 33 ∷ decimal port) ≡ address ∷ decimal port ∷ []
cut_line address port clean small = cut_at 33 address (decimal port) (decimal port ∷ []) clean (one_part 33 (decimal port) (decimal_without port 33 (omega arith) (omega arith)))

-- what two equal lines have in common
pub record SameDial (net other_net : Proto) (address other : List ℕ) (port other_port : ℕ) : Type 0 where
  pub same_net : net ≡ other_net
  pub same_text : address ≡ other
  pub same_port : port ≡ other_port

same_rest : (address other : List ℕ) (port other_port : ℕ) → IsWithout 33 address → IsWithout 33 other → port < 2 ^ 16 → other_port < 2 ^ 16 → address ++ 33 ∷ decimal port ≡ other ++ 33 ∷ decimal other_port → (address ≡ other) × (port ≡ other_port)
same_rest address other port other_port clean other_clean small low e =
    let parts = sym (cut_line address port clean small) ∙ ap (parts_at 33) e ∙ cut_line other other_port other_clean low in (
      ap (λ ps. get_or ps 0 []) parts,
      decimal_injective port other_port (omega arith) (omega arith) (ap (λ ps. get_or ps 1 []) parts),
    )

pub same_line : (net other_net : Proto) (address other : List ℕ) (port other_port : ℕ) → IsWithout 33 address → IsWithout 33 other → port < 2 ^ 16 → other_port < 2 ^ 16 → cs_line net address port ≡ cs_line other_net other other_port → SameDial net other_net address other port other_port
same_line Il Il address other port other_port clean other_clean small low e =
    let rest = same_rest address other port other_port clean other_clean small low (sym (append_assoc address (33 ∷ []) (decimal port)) ∙ ap (drop 14) e ∙ append_assoc other (33 ∷ []) (decimal other_port)) in
    record { same_net = refl; same_text = rest.0; same_port = rest.1 }
same_line Udp Udp address other port other_port clean other_clean small low e =
    let rest = same_rest address other port other_port clean other_clean small low (sym (append_assoc address (33 ∷ []) (decimal port)) ∙ ap (drop 15) e ∙ append_assoc other (33 ∷ []) (decimal other_port)) in
    record { same_net = refl; same_text = rest.0; same_port = rest.1 }
same_line Il Udp address other port other_port clean other_clean small low e = absurd (omega (arith, ap (λ line. get_or line 5 0) e))
same_line Udp Il address other port other_port clean other_clean small low e = absurd (omega (arith, ap (λ line. get_or line 5 0) e))
