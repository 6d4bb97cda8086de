use Rattle.std.proofs.Common.{arith}
use Rattle.std.proofs.lemmas.Int.Digits.{digits_value_more}
use Rattle.words.proofs.number.number_up_to.Goals as goal

pub overflow_mul-number : goal.overflow_mul-number
overflow_mul-number c = omega (arith, c.loop-byte.invariant)

pub loop-byte-preserved : goal.loop-byte-preserved
loop-byte-preserved c = rw (digits_value_more 10 c.args.text.now c.loop-byte.byte-index (omega arith)) (omega (arith, c.loop-byte.invariant, c.digit.ensures.value))
