use Rattle.std.proofs.Common.{◌∙◌, arith}
use Rattle.udp_headers.proofs.HeaderLaws.{AreSound, spells_sound, spells_headers, spells_text, spells_read}
use Rattle.udp_headers.proofs.headers.decode_headers.Goals as goal

pub returns-then-bytes-lt-HEADERS-clause-only : goal.returns-then-bytes-lt-HEADERS-clause-only
returns-then-bytes-lt-HEADERS-clause-only c = λ h text s.
    let sound = spells_sound h text c.args.bytes.now s in
    omega (arith, sound.long)

pub returns-then-not-are_mapped-clause-only : goal.returns-then-not-are_mapped-clause-only
returns-then-not-are_mapped-clause-only c = λ h text s.
    let sound = spells_sound h text c.args.bytes.now s in
    grind (arith, sound.mapped)

pub returns-clause-found : goal.returns-clause-found
returns-clause-found c =
    let sound : AreSound c.args.bytes.now = record { long = omega arith; mapped = grind arith } in
    rw (c.read_headers.ensures, c.split_at.ensures.back) (spells_read c.args.bytes.now (λ i. omega (arith, c.type_inv.bytes i)) sound)

pub returns-clause-only : goal.returns-clause-only
returns-clause-only c = λ h text s. (
  c.read_headers.ensures ∙ spells_headers h text c.args.bytes.now s,
  c.split_at.ensures.back ∙ spells_text h text c.args.bytes.now s,
)
