use Rattle.std.proofs.Common.{◌≡◌, ◌+◌, refl, arith}
use Rattle.medium.proofs.Laying.{is_spelled, laid_state}
use Rattle.medium.proofs.medium.Medium.put.Goals as goal

pub lay-requires-clause-spelled : goal.lay-requires-clause-spelled
lay-requires-clause-spelled c = is_spelled c.args.packet.now c.in_ok-bytes.bytes c.in_ok-bytes.ensures.fits c.in_ok-bytes.ensures.spelled

pub returns-clause-state : goal.returns-clause-state
returns-clause-state c = λ room.
    let next : c.number-number.result ≡ c.args.self.now.laid + 1 = grind arith in
    rw (c.in_ok-lay.ensures.ok, next, c.in-Some.is)
    (laid_state c.args.self.now c.in-Some.to c.args.packet.now c.in_ok-bytes.bytes (c.if-is_too_long.ensures.short refl).0 c.in_ok-bytes.ensures.fits c.in_ok-bytes.ensures.spelled)
