use Rattle.std.proofs.Common.{ap, length, sym, subst, ◌∙◌}
use Rattle.host_net.specs.Groups.{AreWaiting, with_last}
use Rattle.host_net.proofs.Joining.{same_long, written}
use Rattle.host_net.proofs.Seating.{waiting_members}
use Rattle.host_net.proofs.players.Net+J+WorldActor+J.play_round.Goals as goal

pub returns-else-eq-clause-rest : goal.returns-else-eq-clause-rest
returns-else-eq-clause-rest g c = λ whole waits.
    let both = c.both-turns.ensures.waits waits in
    let ps = c.group.inside.players in
    let long = same_long c.play_each-others.new.players c.deref_mut.result.now c.play_each-others.ensures.callers ∙ ap length c.deref_mut.ensures.value in
    subst (λ l. AreWaiting g.J.Placing.tasks g.J.Placing.world (with_last l c.play_clock-clock.new.clock))
    (sym (written c.play_each-others.new.players ps.items ps.len ps.ok.0 long))
    (waiting_members g.J.Placing.tasks g.J.Placing.world c.play_each-others.new.players c.play_clock-clock.new.clock (c.play_each-others.ensures.rest whole both.0)
    (c.play_clock-clock.ensures.rest whole both.1))
