use Rattle.order_search.proofs.Turning.{grown, may_move, moved_on, ready_run}
use Rattle.order_search.proofs.turn.take_turn.Goals as goal

pub record_next-requires-clause-caller : goal.record_next-requires-clause-caller
record_next-requires-clause-caller c = c.requires.goes.known

pub record_next-requires-clause-ready : goal.record_next-requires-clause-ready
record_next-requires-clause-ready c =
    let w = c.args.world.now in
    let r = c.args.runner.now in (
      w,
      c.requires.tracks,
      ready_run w r c.args.caller c.may_turn.result c.requires.tracks c.requires.goes (c.may_turn.ensures w c.requires.tracks) c.if-may_turn.true,
    )

pub returns-then-may_turn : goal.returns-then-may_turn
returns-then-may_turn c =
    let w = c.args.world.now in
    let r = c.args.runner.now in
    grown w r c.record_next.new.self c.args.caller c.record_next.result c.record_next.ensures c.requires.tracks
    (ready_run w r c.args.caller c.may_turn.result c.requires.tracks c.requires.goes (c.may_turn.ensures w c.requires.tracks) c.if-may_turn.true)

pub follow-requires : goal.follow-requires
follow-requires c =
    let w = c.args.world.now in
    let r = c.args.runner.now in
    let law = c.turns_are_ready.ensures in
    may_move c.turns_follow.ensures c.callers_that_come.ensures.these law.duty law.own law.clock w r c.args.caller c.in_ok-moment.moment c.may_turn.result
    c.requires.tracks c.requires.goes (c.may_turn.ensures w c.requires.tracks) c.if-may_turn.false c.in_ok-moment.ensures

pub returns : goal.returns
returns c =
    let w = c.args.world.now in
    let r = c.args.runner.now in
    let law = c.turns_are_ready.ensures in
    moved_on c.turns_follow.ensures c.callers_that_come.ensures.these law.duty law.own law.clock w r c.follow.new.self c.args.caller
    c.in_ok-moment.moment c.may_turn.result c.follow.result c.requires.tracks c.requires.goes (c.may_turn.ensures w c.requires.tracks) c.if-may_turn.false
    c.in_ok-moment.ensures c.follow.ensures
