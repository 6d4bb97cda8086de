use Rattle.std.proofs.Common.{arith, ◌∙◌}
use Rattle.host_net.proofs.Seating.{all_waiting, same_callers, waiting_more}
use Rattle.host_net.proofs.players.Net+J+WorldActor+J.play_each.Goals as goal

pub loop-i-preserved : goal.loop-i-preserved
loop-i-preserved g c = (
  same_callers c.loop-i.players c.loop-i.i c.index-players-i.result c.play_one.new.player c.play_one.ensures.same.caller ∙ c.loop-i.invariant.0,
  λ whole waits.
      let both = c.both-turns.ensures.waits waits in
      waiting_more g.J.Placing.tasks g.J.Placing.world c.loop-i.players c.loop-i.i c.play_one.new.player (omega (arith, c.loop-i-test.true)) (c.loop-i.invariant.1 whole both.0)
      (c.play_one.ensures.rest whole both.1),
)

pub returns-clause-rest : goal.returns-clause-rest
returns-clause-rest g c = λ whole waits. all_waiting g.J.Placing.tasks g.J.Placing.world c.loop-i.players c.loop-i.i c.loop-i-test.false (c.loop-i.invariant.1 whole waits)
