use Rattle.std.proofs.Common.{Some, true, false, ap, sym, ◌∙◌}
use Rattle.il_machine.specs.Stands.{StandsFor}
use Rattle.il_machine.proofs.Questions.{question_answered}
use Rattle.il_machine.proofs.end.IlEnd.arrive_at_established.Goals as goal

-- the message is still missing
pub returns-then-misses-clause-ok : goal.returns-then-misses-clause-ok
unfolding StandsFor
returns-then-misses-clause-ok c e stands =
    let answered = question_answered c.args.now c.args.message.now e c.take_in-in-DataQuery.new.self c.args.message.now.kind true c.in-DataQuery.is
    (c.in_ok-take_in-in-DataQuery.ensures.ok e stands) (sym c.if-misses.true ∙ c.misses.ensures) in
    (answered.0, ap Some c.own_message-then-misses.ensures ∙ answered.1)

-- it was got
pub returns-else-misses-clause-ok : goal.returns-else-misses-clause-ok
unfolding StandsFor
returns-else-misses-clause-ok c e stands =
    let answered = question_answered c.args.now c.args.message.now e c.take_in-in-DataQuery.new.self c.args.message.now.kind false c.in-DataQuery.is
    (c.in_ok-take_in-in-DataQuery.ensures.ok e stands) (sym c.if-misses.false ∙ c.misses.ensures) in
    (answered.0, ap Some c.own_message-else-misses.ensures ∙ answered.1)
