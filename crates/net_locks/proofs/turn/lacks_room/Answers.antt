use Rattle.std.proofs.Common.{refl, arith}
use Rattle.net_locks.proofs.Turning.{is_full}
use Rattle.net_locks.proofs.turn.lacks_room.Goals as goal

pub returns-then-room-eq0-clause-some : goal.returns-then-room-eq0-clause-some
returns-then-room-eq0-clause-some g c now a work cites =
    let guest = c.requires in
    (is_full g.J.Placing.world g.J.Naming.run.roster c.args.bearer.now.caller c.args.bearer.now.pass c.args.duties.now.list guest c.room.result (c.room.ensures guest.list guest.held) (omega (arith, c.if-room-eq0.true)), refl, refl)
