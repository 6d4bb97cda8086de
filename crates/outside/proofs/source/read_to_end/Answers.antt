use Rattle.std.proofs.Common.{arith}
use Rattle.std.proofs.lemmas.List.{length-take}
use Rattle.outside.proofs.Pieces.{one_too_many, no_memory, length_of_front}
use Rattle.outside.proofs.source.read_to_end.Goals as goal

pub returns-then-n-room-clause-bytes : goal.returns-then-n-room-clause-bytes
returns-then-n-room-clause-bytes g c =
    let front = length_of_front _ _ _ c.in_ok-n.ensures.within c.read.auto.into
    in one_too_many _ _ _ _ _ _ c.loop-taken.invariant.1 c.in_ok-n.ensures.took
    (grind (arith, front, length-take, c.in_ok-n.ensures.within, c.min-most.ensures, c.len.ensures, c.if-n-room.true, c.loop-taken.invariant.0))

pub returns-then-is_err-clause-bytes : goal.returns-then-is_err-clause-bytes
returns-then-is_err-clause-bytes g c =
    let front = length_of_front _ _ _ c.in_ok-n.ensures.within c.read.auto.into
    in no_memory _ _ _ _ _ _ c.loop-taken.invariant.1 c.in_ok-n.ensures.took
    (grind (arith, front, c.len.ensures, c.if-n-room.false, c.loop-taken.invariant.0))
