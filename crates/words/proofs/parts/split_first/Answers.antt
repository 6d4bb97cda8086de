use Rattle.std.proofs.Common.{◌≡◌, ℕ, ◌+◌, false, ◌==◌, take, drop, length, ◌-◌, arith, length-drop, subst}
use Rattle.std.specs.List.{All}
use Rattle.std.proofs.lemmas.Bool.Decides.{nat_tests}
use Rattle.std.proofs.lemmas.List.{take_all}
use Rattle.std.proofs.lemmas.List.Elements.{All-more}
use Rattle.std.proofs.lemmas.List.Splits.{slice_split_none}
use Rattle.words.proofs.Splits.{parts_first}
use Rattle.words.proofs.parts.split_first.Goals as goal

pub returns-then-byte-separator : goal.returns-then-byte-separator
returns-then-byte-separator c =
    let word = c.args.text.now in
    rw (take_all (length word - (c.loop-i.i + 1)) (drop (c.loop-i.i + 1) word) (omega (arith, length-drop {A = ℕ})))
    (parts_first c.args.separator word c.loop-i.i (omega arith) c.loop-i.invariant (grind (arith, nat_tests)))

pub loop-i-preserved : goal.loop-i-preserved
loop-i-preserved c =
    All-more (λ byte. (byte == c.args.separator) ≡ false) c.args.text.now c.loop-i.i 0 (omega arith) c.loop-i.invariant (grind (arith, nat_tests))

pub returns : goal.returns
returns c =
    let word = c.args.text.now in
    let whole : take c.loop-i.i word ≡ word = take_all _ word (omega arith) in
    slice_split_none (λ byte. byte == c.args.separator) word (subst (All (λ byte. (byte == c.args.separator) ≡ false)) whole c.loop-i.invariant)
