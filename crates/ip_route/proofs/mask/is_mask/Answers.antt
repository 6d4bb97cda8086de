use Rattle.std.proofs.Common.{sym, ap, is_some, arith, ◌==◌}
use Rattle.std.proofs.lemmas.Bool.Decides.{nat_tests}
use Rattle.net_base.specs.Networks.{mask_of}
use Rattle.net_base.proofs.Shared.{found_in_range, none_in_range}
use Rattle.ip_route.proofs.mask.is_mask.Goals as goal

pub returns-then-mask_of-from : goal.returns-then-mask_of-from
returns-then-mask_of-from c =
    sym (ap is_some (found_in_range (λ bits. mask_of bits == c.args.mask) 33 0 c.loop-ones.ones (omega arith) (omega arith)
    (λ k _ below. c.loop-ones.invariant k below) (grind (arith, nat_tests))))

pub returns : goal.returns
returns c =
    sym (ap is_some (none_in_range (λ bits. mask_of bits == c.args.mask) 33 0
    (λ k _ below. c.loop-ones.invariant k (omega arith))))
