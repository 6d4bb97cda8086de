use Rattle.std.proofs.Common.{arith, ◌∙◌}
use Rattle.formats.proofs.Shared.{spells_ipv4_sound, spells_header, spells_payload, spells_ipv4_read}
use Rattle.ip_wire.proofs.ip.decode_ip.Goals as goal

pub returns-then-bytes-lt-HEADER-clause-only : goal.returns-then-bytes-lt-HEADER-clause-only
returns-then-bytes-lt-HEADER-clause-only c = λ h payload s. let sound = spells_ipv4_sound h payload c.args.bytes.now s in omega (arith, sound.plain.long)

pub returns-then-bytes-ne4-clause-only : goal.returns-then-bytes-ne4-clause-only
returns-then-bytes-ne4-clause-only c = λ h payload s. let sound = spells_ipv4_sound h payload c.args.bytes.now s in omega (arith, sound.plain.version)

pub returns-then-bytes-ne5-clause-only : goal.returns-then-bytes-ne5-clause-only
returns-then-bytes-ne5-clause-only c = λ h payload s. let sound = spells_ipv4_sound h payload c.args.bytes.now s in omega (arith, sound.plain.words)

pub returns-then-word-ne0-clause-only : goal.returns-then-word-ne0-clause-only
returns-then-word-ne0-clause-only c = λ h payload s. let sound = spells_ipv4_sound h payload c.args.bytes.now s in omega (arith, sound.plain.whole)

pub returns-then-word-sum_of_header-clause-only : goal.returns-then-word-sum_of_header-clause-only
returns-then-word-sum_of_header-clause-only c = λ h payload s. let sound = spells_ipv4_sound h payload c.args.bytes.now s in omega (arith, sound.summed)

pub returns-then-from-bytes-clause-only : goal.returns-then-from-bytes-clause-only
returns-then-from-bytes-clause-only c = λ h payload s. let sound = spells_ipv4_sound h payload c.args.bytes.now s in omega (arith, sound.whole)

pub returns-clause-found : goal.returns-clause-found
returns-clause-found c =
    rw (c.read_header.ensures, c.split_at.ensures.back)
    (spells_ipv4_read c.args.bytes.now (λ i. omega (arith, c.type_inv.bytes i)) (record {
      plain = record { long = omega arith; version = omega arith; words = omega arith; whole = omega arith };
      summed = omega arith;
      whole = omega arith;
    }))

pub returns-clause-only : goal.returns-clause-only
returns-clause-only c = λ h payload s. (
  c.read_header.ensures ∙ spells_header h payload c.args.bytes.now s,
  c.split_at.ensures.back ∙ spells_payload h payload c.args.bytes.now s,
)
