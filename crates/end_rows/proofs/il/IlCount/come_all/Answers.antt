use Rattle.end_rows.proofs.Turns.{turn_more}
use Rattle.end_rows.proofs.il.IlCount.come_all.Goals as goal

pub loop-turn-preserved : goal.loop-turn-preserved
loop-turn-preserved c =
    let l = c.loop-turn in turn_more c.args.turns l.turn l.self c.come_in_turn.new.self _ c.loop-turn-test.true c.in_ok-come_in_turn.ensures l.invariant
