use Rattle.std.proofs.Common.{◌≡◌, ◌⊎◌, arith, sym, ◌∙◌, inl, inr}
use Rattle.formats.specs.UdpWire.{address, sum_field, received_sum}
use Rattle.formats.proofs.Shared.{IsSoundUdp, spells_udp_sound, spells_fields, spells_udp_read}
use Rattle.ip_wire.proofs.udp.decode_udp.Goals as goal
use Rattle.ip_wire.proofs.udp.decode_udp.Goals.{else-field-ne0-via-then-field-ne0+else-field-sum_between, else-field-ne0-via-else-field-ne0}

pub returns-then-bytes-lt-HEADER-clause-only : goal.returns-then-bytes-lt-HEADER-clause-only
returns-then-bytes-lt-HEADER-clause-only c = λ sport dport text s.
    let sound = spells_udp_sound (address c.args.src sport) (address c.args.dst dport) text c.args.bytes.now s in
    omega (arith, sound.long)

pub returns-then-field-sum_between-clause-only : goal.returns-then-field-sum_between-clause-only
returns-then-field-sum_between-clause-only c = λ sport dport text s.
    let sound = spells_udp_sound (address c.args.src sport) (address c.args.dst dport) text c.args.bytes.now s in
    elim sound.summed [ inl e ↦ omega (arith, e) | inr e ↦ omega (arith, e) ]

pub returns-then-from-bytes-clause-only : goal.returns-then-from-bytes-clause-only
returns-then-from-bytes-clause-only c = λ sport dport text s.
    let sound = spells_udp_sound (address c.args.src sport) (address c.args.dst dport) text c.args.bytes.now s in
    omega (arith, sound.whole)

pub returns-clause-found : goal.returns-clause-found
returns-clause-found c =
    let summed : (sum_field c.args.bytes.now ≡ 0) ⊎ (sum_field c.args.bytes.now ≡ received_sum c.args.src c.args.dst c.args.bytes.now) =
    elim c.else-field-ne0.branch [
      | else-field-ne0-via-then-field-ne0+else-field-sum_between w ↦ inr (sym c.word-field.ensures ∙ w.if-field-sum_between.false ∙ w.sum_between.ensures)
      | else-field-ne0-via-else-field-ne0 w ↦ inl (sym c.word-field.ensures ∙ w.if-field-ne0.false)
    ] in
    let sound : IsSoundUdp c.args.src c.args.dst c.args.bytes.now = record { long = c.if-bytes-lt-HEADER.false; summed = summed; whole = omega arith } in
    rw (c.word-2.ensures, c.word-3.ensures, c.split_at.ensures.back) (spells_udp_read c.args.src c.args.dst c.args.bytes.now (λ i. omega (arith, c.type_inv.bytes i)) sound)

pub returns-clause-only : goal.returns-clause-only
returns-clause-only c = λ sport dport text s.
    let fields = spells_fields (address c.args.src sport) (address c.args.dst dport) text c.args.bytes.now s in
    (c.word-2.ensures ∙ fields.0, c.word-3.ensures ∙ fields.1, c.split_at.ensures.back ∙ fields.2)
