use Rattle.std.proofs.Common.{◌∙◌, arith}
use Rattle.formats.proofs.Shared.{IsSoundIl, spells_il_sound, spells_message, spells_sport, spells_dport, spells_il_read}
use Rattle.il_header.proofs.message.decode_il.Goals as goal

pub returns-then-bytes-lt-HEADER-clause-only : goal.returns-then-bytes-lt-HEADER-clause-only
returns-then-bytes-lt-HEADER-clause-only c = λ sport dport m s.
    let sound = spells_il_sound sport dport m c.args.bytes.now s in
    omega (arith, sound.long)

pub returns-then-word-sum_of_message-clause-only :
    goal.returns-then-word-sum_of_message-clause-only
returns-then-word-sum_of_message-clause-only c = λ sport dport m s.
    let sound = spells_il_sound sport dport m c.args.bytes.now s in
    omega (arith, sound.summed)

pub returns-then-from-bytes-clause-only : goal.returns-then-from-bytes-clause-only
returns-then-from-bytes-clause-only c = λ sport dport m s.
    let sound = spells_il_sound sport dport m c.args.bytes.now s in
    omega (arith, sound.whole)

pub returns-then-bytes-gt6-clause-only : goal.returns-then-bytes-gt6-clause-only
returns-then-bytes-gt6-clause-only c = λ sport dport m s.
    let sound = spells_il_sound sport dport m c.args.bytes.now s in
    omega (arith, sound.known)

pub returns-clause-found : goal.returns-clause-found
returns-clause-found c =
    let sound : IsSoundIl c.args.bytes.now = record { long = omega arith; summed = omega arith; whole = omega arith; known = omega arith } in
    rw (c.word-3.ensures, c.word-4.ensures, c.kind_of_type.ensures, c.long.ensures, c.long-2.ensures, c.split_at.ensures.back)
    (spells_il_read c.args.bytes.now (λ i. omega (arith, c.type_inv.bytes i)) sound)

pub returns-clause-only : goal.returns-clause-only
returns-clause-only c = λ sport dport m s. (
  c.word-3.ensures ∙ spells_sport sport dport m c.args.bytes.now s,
  c.word-4.ensures ∙ spells_dport sport dport m c.args.bytes.now s,
  rw (c.kind_of_type.ensures, c.long.ensures, c.long-2.ensures, c.split_at.ensures.back) (spells_message sport dport m c.args.bytes.now s),
)
