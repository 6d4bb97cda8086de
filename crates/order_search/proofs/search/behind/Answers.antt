use Rattle.std.proofs.Common.{◌+◌, length, arith}
use Rattle.order_search.proofs.Choosing.{next_is}
use Rattle.order_search.proofs.search.behind.Goals as goal

pub returns : goal.returns
returns c = λ lt.
    next_is c.args.world.now c.args.walk.now.runner.history.entries (length c.args.walk.now.runner.callers.items) (c.args.caller + 1) c.saturating_add.result
    c.next_goer.result (omega (arith, c.saturating_add.ensures, lt, c.args.walk.now.runner.callers.ok.0)) c.next_goer.ensures.some c.next_goer.ensures.from
    c.next_goer.ensures.lowest c.next_goer.ensures.none
