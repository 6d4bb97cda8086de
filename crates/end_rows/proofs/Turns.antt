-- Messages that come in turn.
use Rattle.std.proofs.Common.{◌≡◌, ℕ, suc, ◌+◌, ◌-◌, ◌<◌, ap, subst, ◌∙◌, arith}
use Rattle.end_rows.specs.declared.il.IlCount.{IlCount}
use Rattle.end_rows.specs.IlCounts.{come_in_turn, comes_in_turn}

-- a turn more
pub turn_more : (turns turn : ℕ) (e new all : IlCount) → turn < turns → new ≡ comes_in_turn e → come_in_turn (turns - turn) e ≡ all
    → come_in_turn (turns - (turn + 1)) new ≡ all
turn_more turns turn e new all lt is whole =
    let left : turns - turn ≡ suc (turns - (turn + 1)) = omega (arith, lt) in
    ap (come_in_turn (turns - (turn + 1))) is ∙ subst (λ (k : ℕ). come_in_turn k e ≡ all) left whole
