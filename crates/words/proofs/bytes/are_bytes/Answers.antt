use Rattle.std.proofs.Common.{◌≡◌, ℕ, ◌<◌, suc, true, ◌&&◌, List, [], ◌∷◌, length, get_or, refl, ap, ◌∙◌, arith}
use Rattle.std.specs.List.{list_all}
use Rattle.std.proofs.lemmas.Bool.Decides.{nat_tests}
use Rattle.net_base.specs.World.{is_byte}
use Rattle.words.proofs.bytes.are_bytes.Goals as goal

below : (b : ℕ) → b < 256 → is_byte b ≡ true
below b h = grind (arith, nat_tests)

all-below : (bytes : List ℕ) → ((i : ℕ) → i < length bytes → get_or bytes i 0 < 256) → list_all is_byte bytes ≡ true
all-below [] h = refl
all-below (b ∷ bytes) h = ap (λ v. v && list_all is_byte bytes) (below b (h 0 (omega arith))) ∙ all-below bytes (λ i within. h (suc i) (omega (arith, within)))

pub returns : goal.returns
returns c = all-below c.args.bytes.now (λ i within. omega (arith, c.type_inv.bytes i))
