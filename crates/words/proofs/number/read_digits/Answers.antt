use Rattle.std.proofs.Common.{ℕ, get_or, length-take, arith, rules}
use Rattle.std.proofs.lemmas.Grind.{common_steps}
use Rattle.std.proofs.lemmas.List.Folds.{list_all_more}
use Rattle.std.specs.Char.{is_ascii_digit}
use Rattle.std.proofs.lemmas.Int.Digits.{digits_value_more, digits_more}
use Rattle.std.proofs.lemmas.Str.{digit_value_digit}
use Rattle.words.proofs.Digits.{digits_below}
use Rattle.words.proofs.number.read_digits.Goals as goal

pub overflow_mul-number : goal.overflow_mul-number
overflow_mul-number c =
    let small = digits_below _ c.loop-byte.invariant.valued (omega (arith, length-take {A = ℕ})) in
    omega arith

pub overflow_add-number : goal.overflow_add-number
overflow_add-number c =
    let small = digits_below _ c.loop-byte.invariant.valued (omega (arith, length-take {A = ℕ})) in
    omega arith

pub loop-byte-preserved : goal.loop-byte-preserved
loop-byte-preserved c =
    let word = c.args.word.now in
    let i = c.loop-byte.byte-index in
    record {
      digits = rw (list_all_more is_ascii_digit word i 0 (omega arith)) (grind (arith, common_steps));
      valued = digits_more 10 word i (omega arith) c.loop-byte.invariant.valued (search rules);
      number = rw (digits_value_more 10 word i (omega arith)) (omega (arith, digit_value_digit (get_or word i 0) (search rules)));
    }
