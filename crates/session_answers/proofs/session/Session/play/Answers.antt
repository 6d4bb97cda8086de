use Rattle.session_answers.proofs.Plays.{none_left, one_done, two_done}
use Rattle.session_answers.proofs.session.Session.play.Goals as goal

pub returns-in_default-clause-plays : goal.returns-in_default-clause-plays
returns-in_default-clause-plays g c =
    none_left c.args.self.now.host c.args.self.now.names c.args.step c.request_of-request.result c.plan-planned.result
    (record { served = c.requires; asked_is = c.request_of-request.ensures; event_is = c.plan-planned.ensures.event; effect_is = c.plan-planned.ensures.effect })
    c.args.replies.now c.next.new.self (rw c.in_default.is at c.next.ensures)

pub returns-then-more-clause-plays : goal.returns-then-more-clause-plays
returns-then-more-clause-plays g c =
    two_done c.effects_settle.ensures c.args.self.now.host c.args.self.now.names _ c.args.step c.request_of-request.result c.plan-planned.result
    (record { served = c.requires; asked_is = c.request_of-request.ensures; event_is = c.plan-planned.ensures.event; effect_is = c.plan-planned.ensures.effect })
    c.in-Some.reply.now c.args.replies.now c.next.new.self (rw c.in-Some.is at c.next.ensures)
    c.in_ok-settle.ensures c.goes_on-more.result c.goes_on-more.ensures c.if-more.true
    c.next-then-more.result c.next-then-more.new.self c.next-then-more.ensures

pub returns-clause-plays : goal.returns-clause-plays
returns-clause-plays g c =
    one_done c.effects_settle.ensures c.args.self.now.host c.args.self.now.names _ c.args.step c.request_of-request.result c.plan-planned.result
    (record { served = c.requires; asked_is = c.request_of-request.ensures; event_is = c.plan-planned.ensures.event; effect_is = c.plan-planned.ensures.effect })
    c.in-Some.reply.now c.args.replies.now c.next.new.self (rw c.in-Some.is at c.next.ensures)
    c.in_ok-settle.ensures c.goes_on-more.result c.goes_on-more.ensures c.if-more.false
